-- How a script is written: the grammar of its texts with their limits, and the statements that a text stands for under a book of rules, or the first fault in which it disagrees with the book.
use Rattle.std.specs.Prelude.{◌≡◌, ◌≢◌, ℕ, ◌+◌, Bool, true, false, ◌&&◌, nat_lt, nat_le, if◌then◌else◌, ℤ, nat_abs, List, [], ◌∷◌, ◌++◌, length, map, Option, Some, None, codes, slice_get}
use Rattle.std.specs.List.{position, AllByRecursion, AllZip}
use Rattle.std.specs.Str.{bytes_eq}
use Rattle.gm_model.specs.declared.limit.TheConstants.{MOST_LINES, MOST_NAME_BYTES}
use Rattle.gm_model.specs.declared.limit.LimitKind.{LimitKind}
use Rattle.gm_model.specs.declared.limit.LimitKind.TheVariants as limits
use Rattle.gm_model.specs.declared.rule.Param.{Param}
use Rattle.gm_model.specs.Statements.{Line, Stat}
use Rattle.gm_model.specs.Statements as statements
use Rattle.gm_model.specs.declared.value.Kind.{Kind}
use Rattle.gm_model.specs.declared.value.Kind.TheVariants as kinds
use Rattle.gm_model.specs.declared.value.Value.{Value}
use Rattle.gm_model.specs.declared.value.Value.TheVariants as values
use Rattle.gm_model.specs.declared.word.Mask.{Mask}
use Rattle.gm_model.specs.Labels.{has}
use Rattle.gm_model.specs.Limits.{most_names}
use Rattle.gm_model.specs.Symbols.{Symbol, Word, Numeral, marks_of}
use Rattle.gm_model.specs.Rules.{Rule}
use Rattle.gm_model.specs.Reading.{Part, word, number, sign, the_end, ArePlaced, IsReadAs, TextEndsAt, LimitStandsAt}
use Rattle.gm_model.specs.Names.{Mention, IsFree}
use Rattle.gm_text.specs.SchemaText.{Passed, LimitOf, Again, no_labels, with_label, passed_by}
use Rattle.gm_text.specs.ValueText.{Signed, integer, greatest, is_channel, truth_text}
use Rattle.gm_text.specs.ValueText as numbers

-- ---- what is written in a script

-- a value, before its kind is known
pub data ValueForm : Type 0 where
  Plain : Signed → ValueForm
  Truth : Bool → ValueForm
  Pair : Signed → Signed → ValueForm
  Triple : Signed → Signed → Signed → ValueForm

-- An application as it is written, before its rule is looked up.
pub record LineForm : Type 0 where
  -- where its word `apply` stands
  pub place : ℕ
  pub rule : Mention
  -- the names of darts
  pub hooks : List ℕ
  pub values : List ValueForm

-- one application for each orbit, as it is written
pub record EachForm : Type 0 where
  -- where its word `each` stands
  pub place : ℕ
  pub labels : List ℕ
  pub rule : Mention
  pub values : List ValueForm

-- a statement of one word
pub data Bare : Type 0 where
  Undo : Bare
  Redo : Bare
  Group : Bare
  Close : Bare

pub data StatForm : Type 0 where
  Applies : LineForm → StatForm
  GoesOver : EachForm → StatForm
  -- and the place of the word
  Says : Bare → ℕ → StatForm

abbrev pub bare_word : Bare → List ℕ
bare_word Undo = codes "undo"
bare_word Redo = codes "redo"
bare_word Group = codes "group"
bare_word Close = codes "end"

-- ---- the grammar

-- what a symbol of a script is there for
pub data Role : Type 0 where
  -- a word or sign of the format, or the end
  Fixed : Role
  -- the first word of the statement with this ordinal, which counts from 1, at this place
  StatAt : ℕ → ℕ → Role
  -- the name of a rule, at this place
  RuleAt : ℕ → Role
  -- the name of a dart
  Hook : Role
  -- a label of an orbit, where labels go up to the number, after these that were mentioned before
  LabelBehind : ℕ → Mask → Role
  -- a number of a value, and whether a minus stands before it
  Size : Bool → Role

-- the limit that a symbol passes in a role
abbrev pub limit_of : Role → Symbol → Option LimitKind
limit_of (StatAt k place) (Word word) = if nat_lt MOST_LINES k then Some limits.Lines else None
limit_of (RuleAt place) (Word name) = if nat_lt MOST_NAME_BYTES (length name) then Some limits.Name else None
limit_of Hook (Numeral n) = if nat_le most_names n then Some limits.DartName else None
limit_of (LabelBehind n mask) (Numeral label) = if nat_lt n label then Some limits.Label else None
limit_of (Size minus) (Numeral n) = if nat_lt (greatest minus) n then Some limits.Integer else None
limit_of _ _ = None

-- a label was mentioned before in its orbit
abbrev pub is_again : Role → Symbol → Bool
is_again (LabelBehind n mask) (Numeral label) = has mask label
is_again _ _ = false

-- a limit that a symbol passes, or that there is one mention; where it passes both, the limit counts
abbrev pub passed_of : Role → Symbol → Option Passed
passed_of role symbol = passed_by (limit_of role symbol) (is_again role symbol)

-- Each spelling takes what stands after it.

abbrev pub spell_signed : Signed → List (Part Role) → List (Part Role)
spell_signed x rest = numbers.spell_signed Fixed Size x rest

-- 3, or true, or (1 2), or (1 2 3)
abbrev pub spell_value : ValueForm → List (Part Role) → List (Part Role)
spell_value (Plain x) rest = spell_signed x rest
spell_value (Truth b) rest = word Fixed (truth_text b) ∷ rest
spell_value (Pair x y) rest = sign Fixed (codes "(") ∷ spell_signed x (spell_signed y (sign Fixed (codes ")") ∷ rest))
spell_value (Triple x y z) rest = sign Fixed (codes "(") ∷ spell_signed x (spell_signed y (spell_signed z (sign Fixed (codes ")") ∷ rest)))

abbrev pub spell_values : List ValueForm → List (Part Role) → List (Part Role)
spell_values [] rest = rest
spell_values (value ∷ values) rest = spell_value value (spell_values values rest)

-- with 3 (1 2), and nothing where there are no values
abbrev pub spell_params : List ValueForm → List (Part Role) → List (Part Role)
spell_params [] rest = rest
spell_params (value ∷ values) rest = word Fixed (codes "with") ∷ spell_values (value ∷ values) rest

-- apply r 7 with 3
abbrev pub spell_line : ℕ → LineForm → List (Part Role) → List (Part Role)
spell_line k line rest =
    word (StatAt k line.place) (codes "apply") ∷ word (RuleAt line.rule.place) line.rule.name
    ∷ (map (number Hook) line.hooks ++ spell_params line.values rest)

-- labels up to the number, after these of one orbit
abbrev pub spell_labels : ℕ → Mask → List ℕ → List (Part Role) → List (Part Role)
spell_labels n mask [] rest = rest
spell_labels n mask (label ∷ labels) rest = number (LabelBehind n mask) label ∷ spell_labels n (with_label mask label) labels rest

-- each <0 1> r with 3
abbrev pub spell_each : ℕ → ℕ → EachForm → List (Part Role) → List (Part Role)
spell_each n k form rest =
    word (StatAt k form.place) (codes "each") ∷ sign Fixed (codes "<")
    ∷ spell_labels n no_labels form.labels (sign Fixed (codes ">") ∷ word (RuleAt form.rule.place) form.rule.name ∷ spell_params form.values rest)

abbrev pub spell_stat : ℕ → ℕ → StatForm → List (Part Role) → List (Part Role)
spell_stat n k (Applies line) rest = spell_line k line rest
spell_stat n k (GoesOver form) rest = spell_each n k form rest
spell_stat n k (Says bare place) rest = word (StatAt k place) (bare_word bare) ∷ rest

-- statements after k of them
abbrev pub spell_stats : ℕ → ℕ → List StatForm → List (Part Role) → List (Part Role)
spell_stats n k [] rest = rest
spell_stats n k (form ∷ forms) rest = spell_stat n (k + 1) form (spell_stats n (k + 1) forms rest)

-- of a script whose labels go up to the number
abbrev pub spelling : ℕ → List StatForm → List (Part Role)
spelling n forms = spell_stats n 0 forms (the_end Fixed ∷ [])

-- a reserved word is no rule's name
abbrev pub IsStatForm : StatForm → Type 0
IsStatForm (Applies line) = IsFree line.rule
IsStatForm (GoesOver form) = IsFree form.rule
IsStatForm (Says bare place) = Unit {0}

-- In a group there are applications alone, and each group ends. The truth says whether a group is open.
abbrev pub AreNested : Bool → List StatForm → Type 0
AreNested within [] = within ≡ false
AreNested within (Applies line ∷ forms) = AreNested within forms
AreNested within (Says Group place ∷ forms) = (within ≡ false) × AreNested true forms
AreNested within (Says Close place ∷ forms) = (within ≡ true) × AreNested false forms
AreNested within (form ∷ forms) = (within ≡ false) × AreNested within forms

abbrev pub IsForm : List StatForm → Type 0
IsForm forms = AllByRecursion IsStatForm forms × AreNested false forms

abbrev pub IsSentence : ℕ → List (Part Role) → Type 0
IsSentence n parts = (forms : List StatForm) × IsForm forms × (parts ≡ spelling n forms)

-- ---- how a text is read

abbrev pub IsPlacedAt : ℕ → Role → Type 0
IsPlacedAt place (StatAt k at) = at ≡ place
IsPlacedAt place (RuleAt at) = at ≡ place
IsPlacedAt place _ = Unit {0}

-- these statements are written in the text, with labels up to the number, and pass nothing
pub record IsWritten (n : ℕ) (text : List ℕ) (forms : List StatForm) : Type 0 where
  pub form : IsForm forms
  pub read : IsReadAs (IsSentence n) passed_of (marks_of text) (spelling n forms)
  pub placed : ArePlaced IsPlacedAt (marks_of text) (spelling n forms)

-- the first fault of a text by the grammar and its limits
abbrev pub IsTextFault : ℕ → List ℕ → ℕ → Type 0
IsTextFault n text place = TextEndsAt (IsSentence n) passed_of (marks_of text) place

abbrev pub IsLimitFault : ℕ → List ℕ → LimitKind → ℕ → Type 0
IsLimitFault n text what place = LimitStandsAt (IsSentence n) passed_of (λ role. false) (marks_of text) (LimitOf what) place

-- a label that was mentioned before in its orbit
abbrev pub IsAgainFault : ℕ → List ℕ → ℕ → Type 0
IsAgainFault n text place = LimitStandsAt (IsSentence n) passed_of (λ role. false) (marks_of text) Again place

-- ---- a line under a book

-- the index of the rule with the name, of rules with one name the first
unfoldable pub index_of : List Rule → List ℕ → Option ℕ
index_of rules name = position (λ (rule : Rule). bytes_eq name rule.name) rules

-- the colour of these components
abbrev pub colour : ℤ → ℤ → ℤ → Option Value
colour r g b = if is_channel r && is_channel g && is_channel b then Some (values.Rgb (nat_abs r) (nat_abs g) (nat_abs b)) else None

-- the value of the kind that is written so
abbrev pub value_as : Kind → ValueForm → Option Value
value_as kinds.Int (Plain x) = Some (values.Int (integer x))
value_as kinds.Bool (Truth b) = Some (values.Bool b)
value_as kinds.Vec2 (Pair x y) = Some (values.Vec2 (integer x) (integer y))
value_as kinds.Vec3 (Triple x y z) = Some (values.Vec3 (integer x) (integer y) (integer z))
value_as kinds.Rgb (Triple r g b) = colour (integer r) (integer g) (integer b)
value_as _ _ = None

-- one value for each parameter, of its kind
abbrev pub AreParams : List Param → List ValueForm → List Value → Type 0
AreParams [] [] [] = Unit {0}
AreParams (param ∷ params) (form ∷ forms) (value ∷ values) = (value_as param.kind form ≡ Some value) × AreParams params forms values
AreParams _ _ _ = ⊥

-- the name is that of the rule with this index
pub record IsOfRule (rules : List Rule) (name : List ℕ) (k : ℕ) (rule : Rule) : Type 0 where
  pub index : index_of rules name ≡ Some k
  pub there : slice_get rules k ≡ Some rule

-- what is written is this line, with as many hooks and values as its rule has
pub record IsLine (rules : List Rule) (form : LineForm) (line : Line) : Type 0 where
  pub rule : Rule
  pub named : IsOfRule rules form.rule.name line.rule rule
  pub hooks : line.hooks ≡ form.hooks
  pub count : length form.hooks ≡ length rule.hooks
  pub params : AreParams rule.params form.values line.params

abbrev pub mask_of : List ℕ → Mask → Mask
mask_of [] mask = mask
mask_of (label ∷ labels) mask = mask_of labels (with_label mask label)

-- what is written goes over these orbits with a rule that has one hook, and with as many values as it has
pub record IsEach (rules : List Rule) (form : EachForm) (mask : Mask) (k : ℕ) (params : List Value) : Type 0 where
  pub rule : Rule
  pub named : IsOfRule rules form.rule.name k rule
  pub mask_is : mask ≡ mask_of form.labels no_labels
  pub count : 1 ≡ length rule.hooks
  pub params_are : AreParams rule.params form.values params

abbrev pub IsStat : List Rule → StatForm → Stat → Type 0
IsStat rules (Applies form) (statements.Apply line) = IsLine rules form line
IsStat rules (GoesOver form) (statements.Each mask k params) = IsEach rules form mask k params
IsStat rules (Says Undo place) statements.Undo = Unit {0}
IsStat rules (Says Redo place) statements.Redo = Unit {0}
IsStat rules (Says Group place) statements.Group = Unit {0}
IsStat rules (Says Close place) statements.End = Unit {0}
IsStat rules _ _ = ⊥

-- the text stands for a script of these statements under a book of the rules, whose labels go up to the number
pub record ScriptText (text : List ℕ) (n : ℕ) (rules : List Rule) (stats : List Stat) : Type 0 where
  pub forms : List StatForm
  pub written : IsWritten n text forms
  pub same : AllZip (IsStat rules) forms stats

abbrev pub StandsForNoScript : List ℕ → ℕ → List Rule → Type 0
StandsForNoScript text n rules = (stats : List Stat) → ScriptText text n rules stats → ⊥

-- ---- the first disagreement with a book

pub data Disagreement : Type 0 where
  UnknownRuleAt : ℕ → Disagreement
  HookCountAt : ℕ → Disagreement
  ParamsAt : ℕ → Disagreement

-- The name of a statement's rule is looked up first; then its hooks are counted; and then its values are compared with the parameters.
module _ (rules : List Rule) where
  -- the statement at the place names the rule, gives this many hooks, and these values
  pub data DisagreesAt (place : ℕ) (name : Mention) (hooks : ℕ) (forms : List ValueForm) : Disagreement → Type 0 where
    UnknownRule : index_of rules name.name ≡ None → DisagreesAt place name hooks forms (UnknownRuleAt name.place)
    HookCount : (k : ℕ) (rule : Rule) → IsOfRule rules name.name k rule → hooks ≢ length rule.hooks → DisagreesAt place name hooks forms (HookCountAt place)
    Params : (k : ℕ) (rule : Rule) → IsOfRule rules name.name k rule → hooks ≡ length rule.hooks
        → ((values : List Value) → AreParams rule.params forms values → ⊥) → DisagreesAt place name hooks forms (ParamsAt place)

  -- an `each` gives one hook at a time
  abbrev pub Disagrees : StatForm → Disagreement → Type 0
  Disagrees (Applies form) fault = DisagreesAt form.place form.rule (length form.hooks) form.values fault
  Disagrees (GoesOver form) fault = DisagreesAt form.place form.rule 1 form.values fault
  Disagrees (Says bare place) fault = ⊥

-- The text is read whole before its statements are compared with the book. At this one it disagrees, and at none before.
pub record IsFirstDisagreement (text : List ℕ) (n : ℕ) (rules : List Rule) (fault : Disagreement) : Type 0 where
  pub before : List StatForm
  pub form : StatForm
  pub after : List StatForm
  pub written : IsWritten n text (before ++ form ∷ after)
  pub agree : (stats : List Stat) × AllZip (IsStat rules) before stats
  pub found : Disagrees rules form fault
