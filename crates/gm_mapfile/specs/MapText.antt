-- How a map is written: the grammar of its texts with their limits, the map that a text stands for, and its one canonical text.
use Rattle.std.specs.Prelude.{◌≡◌, ℕ, ◌+◌, ◌<◌, ◌≤◌, Bool, true, false, ℤ, pos, nat_lt, nat_le, if◌then◌else◌, List, [], ◌∷◌, ◌++◌, length, map, All, Option, Some, None, is_some, slice_index_or, find, ◌==◌, codes, decimal, IsPermutation}
use Rattle.std.specs.Fmt.{signed_decimal}
use Rattle.std.specs.List.Sorted.{IsStrictlyIncreasing}
use Rattle.std.specs.List.{flat_map, AllByRecursion, AllZip}
use Rattle.std.specs.Option.{option_map, option_map_or}
use Rattle.gm_model.specs.declared.limit.LimitKind.{LimitKind}
use Rattle.gm_model.specs.declared.limit.LimitKind.TheVariants as limits
use Rattle.gm_model.specs.declared.schema.Embed.{Embed}
use Rattle.gm_model.specs.declared.schema.Schema.{Schema}
use Rattle.gm_model.specs.declared.value.Kind.{Kind}
use Rattle.gm_model.specs.declared.value.Kind.TheVariants as kinds
use Rattle.gm_model.specs.declared.value.Value.{Value}
use Rattle.gm_model.specs.declared.value.Value.TheVariants as values
use Rattle.gm_model.specs.Expressions.{IsMade}
use Rattle.gm_model.specs.GMap.{Row, row_of, alpha}
use Rattle.gm_model.specs.Limits.{most_darts, most_names}
use Rattle.gm_model.specs.Maps.{Map, IsSound}
use Rattle.gm_model.specs.Reading.{Part, word, number, sign, the_end, in_role, IsReadAs, TextEndsAt, LimitStandsAt}
use Rattle.gm_model.specs.Symbols.{Symbol, Numeral, marks_of}
use Rattle.gm_text.specs.SchemaText.{SchemaForm, Passed, LimitOf, Again, schema_of}
use Rattle.gm_text.specs.SchemaText as schema
use Rattle.gm_text.specs.ValueText.{Signed, signed, integer, greatest, is_channel, truth_text, spell_signed}
use Rattle.gm_mapfile.specs.declared.version.MapVersion.{MapVersion}
use Rattle.gm_mapfile.specs.declared.version.MapVersion.TheVariants as versions

-- ---- what is written

-- a dart: its name, its neighbours from label 0 on, and for each embedding the components of its value
pub record DartForm : Type 0 where
  pub name : ℕ
  pub alphas : List ℕ
  pub values : List (List Signed)

-- the second version states the next name
pub data Version : Type 0 where
  First : Version
  Second : ℕ → Version

pub record MapForm : Type 0 where
  pub version : Version
  pub schema : SchemaForm
  pub darts : List DartForm

-- ---- the grammar

-- what a symbol of a map's text is there for
pub data Role : Type 0 where
  -- a word or sign of the format, its version, or the end
  Fixed : Role
  -- what it is in the schema
  InSchema : schema.Role → Role
  -- the next name
  NextName : Role
  -- how many darts there are
  Count : Role
  -- the name of a dart, its own or a neighbour's
  DartName : Role
  -- a number of a value, and whether a minus stands before it
  Size : Bool → Role
  -- the same in a colour
  Channel : Bool → Role

abbrev pub channel_limit : ℤ → Option LimitKind
channel_limit n = if is_channel n then None else Some limits.Channel

-- the limit that a symbol passes in a role; of two the one that stands first in the list of limits
abbrev pub limit_of : Role → Symbol → Option LimitKind
limit_of NextName (Numeral n) = if nat_lt most_names n then Some limits.DartName else None
limit_of Count (Numeral n) = if nat_lt most_darts n then Some limits.Darts else None
limit_of DartName (Numeral n) = if nat_le most_names n then Some limits.DartName else None
limit_of (Size minus) (Numeral n) = if nat_lt (greatest minus) n then Some limits.Integer else None
limit_of (Channel minus) (Numeral n) = if nat_lt (greatest minus) n then Some limits.Integer else channel_limit (signed minus n)
limit_of _ _ = None

-- what a symbol passes: a limit, or that a name or a label was there before
abbrev pub passed_of : Role → Symbol → Option Passed
passed_of (InSchema role) symbol = schema.passed_of role symbol
passed_of role symbol = option_map LimitOf (limit_of role symbol)

-- how many numbers a value of the kind has
abbrev pub width : Kind → ℕ
width kinds.Int = 1
width kinds.Bool = 0
width kinds.Vec2 = 2
width kinds.Vec3 = 3
width kinds.Rgb = 3

abbrev pub is_colour : Kind → Bool
is_colour kinds.Rgb = true
is_colour _ = false

-- a number of a value, of a colour or not
abbrev pub size_role : Bool → Bool → Role
size_role colour minus = if colour then Channel minus else Size minus

-- Each spelling takes what stands after it.

abbrev pub spell_components : Bool → List Signed → List (Part Role) → List (Part Role)
spell_components colour [] rest = rest
spell_components colour (x ∷ xs) rest = spell_signed Fixed (size_role colour) x (spell_components colour xs rest)

-- 4, or (4 -1 0)
abbrev pub spell_value : Kind → List Signed → List (Part Role) → List (Part Role)
spell_value kinds.Int xs rest = spell_components false xs rest
spell_value kind xs rest = sign Fixed (codes "(") ∷ spell_components (is_colour kind) xs (sign Fixed (codes ")") ∷ rest)

abbrev pub spell_values : List Embed → List (List Signed) → List (Part Role) → List (Part Role)
spell_values (embed ∷ embeds) (value ∷ values) rest = spell_value embed.kind value (spell_values embeds values rest)
spell_values _ _ rest = rest

abbrev pub spell_dart : List Embed → DartForm → List (Part Role) → List (Part Role)
spell_dart embeds dart rest = map (number DartName) (dart.name ∷ dart.alphas) ++ spell_values embeds dart.values rest

abbrev pub spell_darts : List Embed → List DartForm → List (Part Role) → List (Part Role)
spell_darts embeds [] rest = rest
spell_darts embeds (dart ∷ darts) rest = spell_dart embeds dart (spell_darts embeds darts rest)

-- darts k, and then the k darts
abbrev pub spell_listing : List Embed → List DartForm → List (Part Role)
spell_listing embeds darts = word Fixed (codes "darts") ∷ number Count (length darts) ∷ spell_darts embeds darts (the_end Fixed ∷ [])

abbrev pub spell_next : Version → List (Part Role) → List (Part Role)
spell_next First rest = rest
spell_next (Second next) rest = word Fixed (codes "next") ∷ number NextName next ∷ rest

abbrev pub number_of : Version → ℕ
number_of First = 1
number_of (Second next) = 2

abbrev pub embeds_of : MapForm → List Embed
embeds_of form = (schema_of form.schema).embeds

-- gmap 1 dim 2 embed .. darts .., or gmap 2 dim 2 embed .. next .. darts ..
abbrev pub spelling : MapForm → List (Part Role)
spelling form =
    word Fixed (codes "gmap") ∷ number Fixed (number_of form.version)
    ∷ (map (in_role InSchema) (schema.spell form.schema []) ++ spell_next form.version (spell_listing (embeds_of form) form.darts))

-- a dart has one neighbour for each label from 0 to n, and a value of each embedding with as many numbers as its kind has
abbrev pub IsShaped : ℕ → List Embed → DartForm → Type 0
IsShaped n embeds dart = (length dart.alphas ≡ n + 1) × AllZip (λ (embed : Embed) (value : List Signed). length value ≡ width embed.kind) embeds dart.values

abbrev pub IsForm : MapForm → Type 0
IsForm form = schema.IsForm form.schema × AllByRecursion (IsShaped form.schema.dim (embeds_of form)) form.darts

abbrev pub IsSentence : List (Part Role) → Type 0
IsSentence parts = (form : MapForm) × IsForm form × (parts ≡ spelling form)

-- the text is this form, and passes nothing
pub record IsWritten (text : List ℕ) (form : MapForm) : Type 0 where
  pub good : IsForm form
  pub read : IsReadAs IsSentence passed_of (marks_of text) (spelling form)

-- the first fault of a text by the grammar, its limits and its declarations
abbrev pub IsTextFault : List ℕ → ℕ → Type 0
IsTextFault text place = TextEndsAt IsSentence passed_of (marks_of text) place

abbrev pub IsLimitFault : List ℕ → LimitKind → ℕ → Type 0
IsLimitFault text what place = LimitStandsAt IsSentence passed_of (λ role. false) (marks_of text) (LimitOf what) place

abbrev pub IsAgainFault : List ℕ → ℕ → Type 0
IsAgainFault text place = LimitStandsAt IsSentence passed_of (λ role. false) (marks_of text) Again place

-- ---- maps as lists of darts

-- a dart with its neighbours from label 0 on, and its values by embedding
pub record DartRow : Type 0 where
  pub name : ℕ
  pub alphas : List ℕ
  pub values : List Value

pub record ListedMap : Type 0 where
  pub schema : Schema
  pub darts : List DartRow
  pub next : ℕ

abbrev pub names : List DartRow → List ℕ
names darts = map (λ (dart : DartRow). dart.name) darts

-- without its values
abbrev pub bare : DartRow → Row
bare dart = record { name = dart.name; alphas = dart.alphas }

abbrev pub rows_of : List DartRow → List Row
rows_of darts = map bare darts

-- the dart of a name: the first that has it
abbrev pub dart_of : List DartRow → ℕ → Option DartRow
dart_of darts d = find (λ (dart : DartRow). dart.name == d) darts

abbrev pub value_in : List DartRow → ℕ → ℕ → Value
value_in darts e d = option_map_or (λ (dart : DartRow). slice_index_or dart.values e (values.Int (pos 0))) (dart_of darts d) (values.Int (pos 0))

-- the map, apart from how it is listed
abbrev pub map_of : ListedMap → Map
map_of listed = record {
  schema = listed.schema;
  live = λ d. is_some (row_of (rows_of listed.darts) d);
  alpha = alpha (rows_of listed.darts);
  value = value_in listed.darts;
  next = listed.next;
}

-- ---- what a text stands for

-- the value of each embedding has the components that are written
abbrev pub AreMade : List Embed → List (List Signed) → List Value → Type 0
AreMade [] [] [] = Unit {0}
AreMade (embed ∷ embeds) (written ∷ others) (value ∷ values) = IsMade embed.kind (map integer written) value × AreMade embeds others values
AreMade _ _ _ = ⊥

pub record IsRow (embeds : List Embed) (form : DartForm) (dart : DartRow) : Type 0 where
  pub name_is : dart.name ≡ form.name
  pub alphas_are : dart.alphas ≡ form.alphas
  pub made : AreMade embeds form.values dart.values

-- the text lists these darts, in its order, and passes nothing
pub record IsListed (text : List ℕ) (version : Version) (schema : Schema) (darts : List DartRow) : Type 0 where
  pub form : MapForm
  pub written : IsWritten text form
  pub version_is : form.version ≡ version
  pub schema_is : schema ≡ schema_of form.schema
  pub rows : AllZip (IsRow schema.embeds) form.darts darts

-- the least number above all names
pub record IsLeastAbove (names : List ℕ) (next : ℕ) : Type 0 where
  pub above : All (λ name. name < next) names
  pub least : (bound : ℕ) → All (λ name. name < bound) names → next ≤ bound

-- the first version tells the next name by the greatest one
abbrev pub IsNext : Version → List ℕ → ℕ → Type 0
IsNext First names next = IsLeastAbove names next
IsNext (Second stated) names next = next ≡ stated

abbrev pub version_of : Version → MapVersion
version_of First = versions.One
version_of (Second next) = versions.Two

-- the text in this version stands for the map with these darts, here in ascending order of their names
pub record MapText (text : List ℕ) (version : MapVersion) (map : ListedMap) : Type 0 where
  pub written : Version
  pub darts : List DartRow
  pub listed : IsListed text written map.schema darts
  pub version_is : version ≡ version_of written
  pub same : IsPermutation darts map.darts
  pub ascending : IsStrictlyIncreasing (names map.darts)
  pub next_is : IsNext written (names map.darts) map.next
  pub sound : IsSound (map_of map)

abbrev pub StandsForNoMap : List ℕ → Type 0
StandsForNoMap text = (version : MapVersion) (map : ListedMap) → MapText text version map → ⊥

-- ---- the canonical text

-- 4, or (4 -1 0); a map has no truths
abbrev pub value_text : Value → List ℕ
value_text (values.Int x) = signed_decimal x
value_text (values.Bool b) = truth_text b
value_text (values.Vec2 x y) = codes "(" ++ (signed_decimal x ++ (codes " " ++ (signed_decimal y ++ codes ")")))
value_text (values.Vec3 x y z) = codes "(" ++ (signed_decimal x ++ (codes " " ++ (signed_decimal y ++ (codes " " ++ (signed_decimal z ++ codes ")")))))
value_text (values.Rgb r g b) = codes "(" ++ (decimal r ++ (codes " " ++ (decimal g ++ (codes " " ++ (decimal b ++ codes ")")))))

-- 0 1 7 0 (4 -1 0)
abbrev pub line_of : DartRow → List ℕ
line_of dart = decimal dart.name ++ (flat_map (λ a. 32 ∷ decimal a) dart.alphas ++ (flat_map (λ v. 32 ∷ value_text v) dart.values ++ codes "\n"))

abbrev pub head_line : MapVersion → List ℕ
head_line versions.One = codes "gmap 1\n"
head_line versions.Two = codes "gmap 2\n"

abbrev pub next_line : MapVersion → ℕ → List ℕ
next_line versions.One next = []
next_line versions.Two next = codes "next " ++ (decimal next ++ codes "\n")

-- of a map whose darts are in ascending order of their names
abbrev pub canonical : MapVersion → ListedMap → List ℕ
canonical version map =
    head_line version ++ (schema.canonical map.schema ++ (next_line version map.next ++ (codes "darts " ++ (decimal (length map.darts) ++ (codes "\n" ++ flat_map line_of map.darts)))))

-- the bytes are the canonical text, in the version, of this map: a sound one, with its darts in ascending order of their names
pub record IsCanonicalTextOf (version : MapVersion) (map : ListedMap) (bytes : List ℕ) : Type 0 where
  pub is : bytes ≡ canonical version map
  pub ascending : IsStrictlyIncreasing (names map.darts)
  pub sound : IsSound (map_of map)
