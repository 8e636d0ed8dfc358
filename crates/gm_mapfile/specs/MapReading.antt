-- How a map's text is read, one symbol after another: what can stand next in which role, and what was read before.
use Rattle.std.specs.Prelude.{◌≡◌, ℕ, zero, suc, ◌+◌, Bool, true, false, ℤ, pos, ◌==◌, if◌then◌else◌, List, [], ◌∷◌, ◌++◌, length, map, replicate, Option, Some, None, Result, Ok, Err, codes}
use Rattle.std.specs.List.{flat_map, AllByRecursion}
use Rattle.std.specs.Str.{bytes_eq}
use Rattle.gm_model.specs.declared.schema.Embed.{Embed}
use Rattle.gm_model.specs.declared.schema.Schema.{Schema}
use Rattle.gm_model.specs.declared.value.Kind.{Kind}
use Rattle.gm_model.specs.declared.value.Kind.TheVariants as kinds
use Rattle.gm_model.specs.declared.value.Value.{Value}
use Rattle.gm_model.specs.Expressions.{components}
use Rattle.gm_model.specs.Values.{kind_of}
use Rattle.gm_model.specs.Symbols.{Symbol, Word, Numeral, Sign, End, Mark}
use Rattle.gm_text.specs.inner.Cursor.{Cursor}
use Rattle.gm_text.specs.inner.Machine.{Stop, Ends, Passes, run}
use Rattle.gm_text.specs.inner.Nested.{Nested, Outside, Inside, Nesting}
use Rattle.gm_text.specs.inner.Nested as nested
use Rattle.gm_text.specs.inner.SchemaAnswers.{marks_left}
use Rattle.gm_text.specs.inner.SchemaReading as schema
use Rattle.gm_text.specs.SchemaText as text
use Rattle.gm_text.specs.SchemaText.{Passed, LimitOf, Again}
use Rattle.gm_mapfile.specs.inner.Draft.{numbers_of, values_of_darts, version_in}
use Rattle.gm_text.specs.declared.schema_fault.SchemaFault.{SchemaFault}
use Rattle.gm_text.specs.declared.schema_fault.SchemaFault.TheVariants as faults
use Rattle.gm_text.specs.ValueText.{signed}
use Rattle.gm_mapfile.specs.MapText.{Version, First, Second, DartRow, Role, Fixed, InSchema, NextName, Count, DartName, Size, Channel, passed_of, width, is_colour, size_role}

-- ---- what is wanted of the darts

pub data Want : Type 0 where
  -- a number in its role
  TheNumber : Role → Want
  -- a number of a value, of a colour or not, with a minus before it or without
  Component : Bool → Want
  TheSign : List ℕ → Want

abbrev pub value_wants : Kind → List Want
value_wants kinds.Int = Component false ∷ []
value_wants kind = TheSign (codes "(") ∷ (replicate (width kind) (Component (is_colour kind)) ++ TheSign (codes ")") ∷ [])

abbrev pub values_wants : List Embed → List Want
values_wants embeds = flat_map (λ (embed : Embed). value_wants embed.kind) embeds

-- a name, n + 1 neighbours, and a value of each embedding
abbrev pub dart_wants : Schema → List Want
dart_wants schema = replicate (schema.dim + 2) (TheNumber DartName) ++ values_wants schema.embeds

abbrev pub darts_wants : Schema → ℕ → List Want
darts_wants schema zero = []
darts_wants schema (suc count) = dart_wants schema ++ darts_wants schema count

-- ---- states

-- what stands before the darts
pub record Head : Type 0 where
  pub version : Version
  pub schema : Schema

pub data State : Type 0 where
  -- before the word `gmap`, and before the version
  AtFormat : State
  AtVersion : State
  -- after a schema in the second version: before the word `next`, and before its number
  AtNext : Schema → State
  AtNextName : Schema → State
  -- before the word `darts`, and before their count
  AtDarts : Head → State
  AtCount : Head → State
  -- after the count and these numbers, where these are wanted
  AtNumbers : Head → List ℤ → List Want → State
  -- after the end
  Done : State

-- in the schema, which stands after the number of a version
pub record Within : Type 0 where
  pub second : Bool
  pub state : schema.State

abbrev pub Whole : Type 0
Whole = Nested State Within

-- what stands after the schema
abbrev pub behind_schema : Bool → Schema → State
behind_schema true schema = AtNext schema
behind_schema false schema = AtDarts (record { version = First; schema = schema })

abbrev pub behind_state : Bool → schema.State → State
behind_state second (schema.AtEmbeds n declared) = behind_schema second (record { dim = n; embeds = declared })
behind_state second _ = AtFormat

-- ---- roles

abbrev pub role_of_want : Want → Symbol → Role
role_of_want (TheNumber role) symbol = role
role_of_want (Component colour) (Numeral n) = size_role colour false
role_of_want _ _ = Fixed

abbrev pub outer_role : State → Symbol → ℕ → Role
outer_role (AtNextName schema) symbol place = NextName
outer_role (AtCount head) symbol place = Count
outer_role (AtNumbers head taken (want ∷ wants)) symbol place = role_of_want want symbol
outer_role _ symbol place = Fixed

-- ---- moves

abbrev pub expect : List ℕ → List ℕ → State → Option Whole
expect wanted found next = if bytes_eq found wanted then Some (Outside next) else None

abbrev pub into_schema : Bool → Whole
into_schema second = Inside (record { second = second; state = schema.AtDim })

abbrev pub move_version : ℕ → Option Whole
move_version n = if n == 1 then Some (into_schema false) else (if n == 2 then Some (into_schema true) else None)

-- the number that is read in the role
abbrev pub number_in : Role → ℕ → ℤ
number_in (Size minus) n = signed minus n
number_in (Channel minus) n = signed minus n
number_in role n = pos n

abbrev pub move_wants : Head → List ℤ → List Want → Symbol → Option Whole
move_wants head taken [] End = Some (Outside Done)
move_wants head taken (TheNumber role ∷ wants) (Numeral n) = Some (Outside (AtNumbers head (taken ++ number_in role n ∷ []) wants))
move_wants head taken (Component colour ∷ wants) (Numeral n) = Some (Outside (AtNumbers head (taken ++ pos n ∷ []) wants))
move_wants head taken (Component colour ∷ wants) (Sign found) = expect (codes "-") found (AtNumbers head taken (TheNumber (size_role colour true) ∷ wants))
move_wants head taken (TheSign wanted ∷ wants) (Sign found) = expect wanted found (AtNumbers head taken wants)
move_wants _ _ _ _ = None

-- the state after a symbol, where it can stand
abbrev pub outer_move : State → Symbol → Option Whole
outer_move AtFormat (Word word) = expect (codes "gmap") word AtVersion
outer_move AtVersion (Numeral n) = move_version n
outer_move (AtNext schema) (Word word) = expect (codes "next") word (AtNextName schema)
outer_move (AtNextName schema) (Numeral n) = Some (Outside (AtDarts (record { version = Second n; schema = schema })))
outer_move (AtDarts head) (Word word) = expect (codes "darts") word (AtCount head)
outer_move (AtCount head) (Numeral n) = Some (Outside (AtNumbers head [] (darts_wants head.schema n)))
outer_move (AtNumbers head taken wants) symbol = move_wants head taken wants symbol
outer_move _ _ = None

abbrev pub move_within : Bool → Option schema.State → Option Within
move_within second None = None
move_within second (Some state) = Some (record { second = second; state = state })

abbrev pub nesting : Nesting State Within Role text.Role
nesting = record {
  outer_role = outer_role;
  outer_move = outer_move;
  inner_role = λ within symbol place. schema.role_at within.state symbol place;
  inner_move = λ within symbol. move_within within.second (schema.move within.state symbol);
  wrap = InSchema;
  is_whole = λ within. schema.is_whole within.state;
  behind = λ within. behind_state within.second within.state;
}

-- ---- readings

-- no symbol tells what the one before it is
abbrev pub never : Role → Bool
never role = false

abbrev pub start : Whole
start = Outside AtFormat

abbrev pub run_from : Whole → List Mark → Result Whole (Stop Whole Passed)
run_from state marks = run passed_of never (nested.role_at nesting) (nested.move nesting) state 0 marks

-- the lexer goes on over marks that lead from the one state to the other
pub record Reads (state : Whole) (old new : Cursor) (to : Whole) : Type 0 where
  pub before : List Mark
  pub split : marks_left old ≡ before ++ marks_left new
  pub runs : run_from state before ≡ Ok to

-- from the state on no text goes on with what stands at the place
abbrev pub EndsAt : Whole → Cursor → ℕ → Type 0
EndsAt state old place = (stop : Whole) × (mark : Mark) × (mark.place ≡ place) × (run_from state (marks_left old) ≡ Err (Ends stop mark))

-- from the state on the fault is the first; that memory ran out says nothing
abbrev pub Stops : Whole → Cursor → SchemaFault → Type 0
Stops state old (faults.Text place) = EndsAt state old place
Stops state old (faults.Limit what place) = run_from state (marks_left old) ≡ Err (Passes (LimitOf what) place)
Stops state old (faults.Twice place) = run_from state (marks_left old) ≡ Err (Passes Again place)
Stops state old faults.OutOfMemory = Unit {0}

-- ---- the numbers of darts

-- after the count and these numbers, where these are wanted
abbrev pub among : Head → List ℤ → List Want → Whole
among head taken wants = Outside (AtNumbers head taken wants)

-- the lexer goes over what is wanted, and these are the numbers in it
abbrev pub Takes : List Want → List ℤ → Cursor → Cursor → Type 0
Takes wanted numbers old new = (head : Head) (taken : List ℤ) (wants : List Want) → Reads (among head taken (wanted ++ wants)) old new (among head (taken ++ numbers) wants)

-- what is wanted isn't there and the fault is the first, or memory ran out
abbrev pub Misses : List Want → Cursor → SchemaFault → Type 0
Misses wanted old fault = (head : Head) (taken : List ℤ) (wants : List Want) → Stops (among head taken (wanted ++ wants)) old fault

-- the numbers of a dart's line, in the order of the text
abbrev pub numbers_in : DartRow → List ℤ
numbers_in dart = map pos (dart.name ∷ dart.alphas) ++ flat_map components dart.values

abbrev pub all_numbers : List DartRow → List ℤ
all_numbers darts = flat_map numbers_in darts

-- a value of each embedding's kind
abbrev pub AreOfKinds : List Embed → List Value → Type 0
AreOfKinds embeds values = map kind_of values ≡ map (λ (embed : Embed). embed.kind) embeds

-- a dart has one neighbour for each label from 0 to n, and a value of each embedding
abbrev pub IsWhole : Schema → DartRow → Type 0
IsWhole schema dart = (length dart.alphas ≡ schema.dim + 1) × AreOfKinds schema.embeds dart.values

-- ---- what readers of darts answer

-- the names are read after those before them
abbrev pub ReadsNames : ℕ → Cursor → Cursor → List ℕ → List ℕ → Type 0
ReadsNames count old new before names = (more : List ℕ) × (names ≡ before ++ more) × (length more ≡ count) × Takes (replicate count (TheNumber DartName)) (map pos more) old new

-- a value of each embedding is read, after the values before them
abbrev pub ReadsValues : List Embed → Cursor → Cursor → List Value → List Value → Type 0
ReadsValues embeds old new before values = (more : List Value) × (values ≡ before ++ more) × AreOfKinds embeds more × Takes (values_wants embeds) (flat_map components more) old new

-- these darts are read, and these are the numbers and the values of their lines
pub record ReadsDarts (schema : Schema) (count : ℕ) (old new : Cursor) (numbers : List ℕ) (values : List Value) : Type 0 where
  pub darts : List DartRow
  pub whole : AllByRecursion (IsWhole schema) darts
  pub counted : length darts ≡ count
  pub numbers_are : numbers ≡ numbers_of darts
  pub values_are : values ≡ values_of_darts darts
  pub takes : Takes (darts_wants schema count) (all_numbers darts) old new

-- the whole text is read, up to its end
pub record ReadsMap (old : Cursor) (stated : Option ℕ) (schema : Schema) (numbers : List ℕ) (values : List Value) : Type 0 where
  pub darts : List DartRow
  pub whole : AllByRecursion (IsWhole schema) darts
  pub numbers_are : numbers ≡ numbers_of darts
  pub values_are : values ≡ values_of_darts darts
  pub before : List Mark
  pub end : Mark
  pub split : marks_left old ≡ before ++ end ∷ []
  pub ends : end.symbol ≡ End
  pub runs : run_from start before ≡ Ok (among (record { version = version_in stated; schema = schema }) (all_numbers darts) [])
