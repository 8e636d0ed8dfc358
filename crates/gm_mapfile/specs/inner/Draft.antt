-- What a text's darts are before any law of a map is tested: the numbers and the values of its lines, in the order of the text.
use Rattle.std.specs.Prelude.{◌≡◌, ℕ, List, ◌∷◌, Option, Some, None}
use Rattle.std.specs.List.{flat_map}
use Rattle.gm_model.specs.declared.schema.Schema.{Schema}
use Rattle.gm_model.specs.declared.value.Value.{Value}
use Rattle.gm_text.specs.declared.schema_fault.SchemaFault.{SchemaFault}
use Rattle.gm_text.specs.declared.schema_fault.SchemaFault.TheVariants as faults
use Rattle.gm_mapfile.specs.MapText.{Version, First, Second, DartRow, IsListed, IsTextFault, IsLimitFault, IsAgainFault}
use Rattle.gm_mapfile.specs.declared.reading.Draft.{Draft}

-- the numbers of a dart's line, its values aside
abbrev pub line_in : DartRow → List ℕ
line_in dart = dart.name ∷ dart.alphas

-- of each dart its name, and then its neighbours from label 0 on
abbrev pub numbers_of : List DartRow → List ℕ
numbers_of darts = flat_map line_in darts

-- of each dart its values, by embedding
abbrev pub values_of_darts : List DartRow → List Value
values_of_darts darts = flat_map (λ (dart : DartRow). dart.values) darts

-- the second version states a next name
abbrev pub version_in : Option ℕ → Version
version_in None = First
version_in (Some next) = Second next

-- the text lists darts over the schema, passes nothing, and these are the numbers and the values of its lines
abbrev pub IsDraft : List ℕ → Version → Schema → List ℕ → List Value → Type 0
IsDraft text version schema numbers values = (darts : List DartRow) × IsListed text version schema darts × (numbers ≡ numbers_of darts) × (values ≡ values_of_darts darts)

-- they are those of the draft
abbrev pub IsDraftOf : List ℕ → Draft → Type 0
IsDraftOf text draft = IsDraft text (version_in draft.stated) draft.schema draft.numbers.items draft.values.items

-- the fault is the first of the text; that memory ran out says nothing of it
abbrev pub IsFaultIn : List ℕ → SchemaFault → Type 0
IsFaultIn text (faults.Text place) = IsTextFault text place
IsFaultIn text (faults.Limit what place) = IsLimitFault text what place
IsFaultIn text (faults.Twice place) = IsAgainFault text place
IsFaultIn text faults.OutOfMemory = Unit {0}
