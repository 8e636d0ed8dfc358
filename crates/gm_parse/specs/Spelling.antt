-- How a form of an expression is spelled: its symbols with their roles and limits, and where it stands among the marks of a text.
use Rattle.std.specs.Prelude.{◌≡◌, ℕ, ◌+◌, Bool, true, false, nat_lt, if◌then◌else◌, List, [], ◌∷◌, ◌++◌, length, map, Option, Some, None, codes}
use Rattle.std.specs.List.{flat_map}
use Rattle.gm_model.specs.declared.limit.TheConstants.{MOST_NAME_BYTES, MOST_TOKENS}
use Rattle.gm_model.specs.declared.expr.BinOp.{BinOp}
use Rattle.gm_model.specs.declared.expr.BinOp.TheVariants as ops
use Rattle.gm_model.specs.declared.limit.LimitKind.{LimitKind}
use Rattle.gm_model.specs.declared.limit.LimitKind.TheVariants as limits
use Rattle.gm_model.specs.Names.{Mention}
use Rattle.gm_model.specs.Symbols.{Symbol, Word, Numeral, Mark, symbols}
use Rattle.gm_model.specs.Reading.{Part, word, number, sign, ArePlaced, IsWithin, symbols_in}
use Rattle.gm_text.specs.SchemaText.{LabelForm}
use Rattle.gm_text.specs.ValueText.{truth_text}
use Rattle.gm_parse.specs.declared.key.Collector.{Collector}
use Rattle.gm_parse.specs.declared.key.Collector.TheVariants as collectors
use Rattle.gm_parse.specs.Forms.{TermForm, Form, NumberForm, TruthForm, ParamForm, FieldForm, SameForm, CountForm, CollectForm, CallForm, ParenForm, MinusForm, NotForm, BinaryForm, IfForm, Arguments, First, Further, IsGood}

-- ---- roles

-- what a symbol of an expression is there for
pub data Role : Type 0 where
  -- a word or sign of the grammar
  Fixed : Role
  -- a number by itself
  Quantity : Role
  -- a name, at this place
  NameAt : ℕ → Role
  -- a label of an orbit, where labels go up to the number, at this place
  LabelAt : ℕ → ℕ → Role
  -- a label of a path
  StepAt : ℕ → Role

-- a role, and which symbol of the expression it is, counted from 1
pub record Counted : Type 0 where
  pub ordinal : ℕ
  pub role : Role

-- the greatest number that can be written
abbrev pub greatest : ℕ
greatest = 9223372036854775807

-- the limit that a symbol passes in a role
abbrev pub limit_of : Role → Symbol → Option LimitKind
limit_of Quantity (Numeral n) = if nat_lt greatest n then Some limits.Integer else None
limit_of (NameAt place) (Word name) = if nat_lt MOST_NAME_BYTES (length name) then Some limits.Name else None
limit_of (LabelAt n place) (Numeral label) = if nat_lt n label then Some limits.Label else None
limit_of (StepAt n) (Numeral label) = if nat_lt n label then Some limits.Label else None
limit_of _ _ = None

-- where a symbol passes a limit of its own and is one too many, its own counts
abbrev pub passed_by : Option LimitKind → Bool → Option LimitKind
passed_by (Some what) beyond = Some what
passed_by None true = Some limits.Expression
passed_by None false = None

abbrev pub limit_in : Counted → Symbol → Option LimitKind
limit_in counted symbol = passed_by (limit_of counted.role symbol) (nat_lt MOST_TOKENS counted.ordinal)

-- ---- spellings

abbrev pub name : Mention → Part Role
name mention = word (NameAt mention.place) mention.name

abbrev pub operator : BinOp → Part Role
operator ops.Or = word Fixed (codes "or")
operator ops.And = word Fixed (codes "and")
operator ops.Eq = sign Fixed (codes "==")
operator ops.Ne = sign Fixed (codes "!=")
operator ops.Lt = sign Fixed (codes "<")
operator ops.Le = sign Fixed (codes "<=")
operator ops.Gt = sign Fixed (codes ">")
operator ops.Ge = sign Fixed (codes ">=")
operator ops.Add = sign Fixed (codes "+")
operator ops.Sub = sign Fixed (codes "-")
operator ops.Mul = sign Fixed (codes "*")
operator ops.Div = sign Fixed (codes "/")
operator ops.Rem = sign Fixed (codes "%")

abbrev pub collector_word : Collector → List ℕ
collector_word collectors.Sum = codes "sum"
collector_word collectors.Least = codes "min"
collector_word collectors.Greatest = codes "max"

-- Each spelling takes what stands after it. Labels go up to the number n.

-- <0 1>
abbrev pub spell_orbit : ℕ → List LabelForm → List (Part Role) → List (Part Role)
spell_orbit n orbit rest = sign Fixed (codes "<") ∷ (map (λ (form : LabelForm). number (LabelAt n form.place) form.label) orbit ++ sign Fixed (codes ">") ∷ rest)

-- a@0@1
abbrev pub spell_term : ℕ → TermForm → List (Part Role) → List (Part Role)
spell_term n term rest = name term.node ∷ (flat_map (λ (label : ℕ). sign Fixed (codes "@") ∷ number (StepAt n) label ∷ []) term.path ++ rest)

-- a@0.pos
abbrev pub spell_field : ℕ → TermForm → Mention → List (Part Role) → List (Part Role)
spell_field n term embed rest = spell_term n term (sign Fixed (codes ".") ∷ name embed ∷ rest)

abbrev mutual
  pub spell : ℕ → Form → List (Part Role) → List (Part Role)
  spell n (NumberForm value) rest = number Quantity value ∷ rest
  spell n (TruthForm b) rest = word Fixed (truth_text b) ∷ rest
  spell n (ParamForm param) rest = name param ∷ rest
  spell n (FieldForm term embed) rest = spell_field n term embed rest
  spell n (SameForm left right) rest = word Fixed (codes "same") ∷ sign Fixed (codes "(") ∷ spell_term n left (sign Fixed (codes ",") ∷ spell_term n right (sign Fixed (codes ")") ∷ rest))
  spell n (CountForm orbit term) rest = word Fixed (codes "count") ∷ spell_orbit n orbit (sign Fixed (codes "(") ∷ spell_term n term (sign Fixed (codes ")") ∷ rest))
  spell n (CollectForm collector orbit term embed) rest = word Fixed (collector_word collector) ∷ spell_orbit n orbit (sign Fixed (codes "(") ∷ spell_field n term embed (sign Fixed (codes ")") ∷ rest))
  spell n (CallForm function arguments) rest = name function ∷ sign Fixed (codes "(") ∷ spell_arguments n arguments (sign Fixed (codes ")") ∷ rest)
  spell n (ParenForm part) rest = sign Fixed (codes "(") ∷ spell n part (sign Fixed (codes ")") ∷ rest)
  spell n (MinusForm part) rest = sign Fixed (codes "-") ∷ spell n part rest
  spell n (NotForm part) rest = word Fixed (codes "not") ∷ spell n part rest
  spell n (BinaryForm op left right) rest = spell n left (operator op ∷ spell n right rest)
  spell n (IfForm c a b) rest = word Fixed (codes "if") ∷ spell n c (word Fixed (codes "then") ∷ spell n a (word Fixed (codes "else") ∷ spell n b rest))

  pub spell_arguments : ℕ → Arguments → List (Part Role) → List (Part Role)
  spell_arguments n (First form) rest = spell n form rest
  spell_arguments n (Further arguments form) rest = spell_arguments n arguments (sign Fixed (codes ",") ∷ spell n form rest)

-- the parts, counted on from a number
abbrev pub counted_from : ℕ → List (Part Role) → List (Part Counted)
counted_from k [] = []
counted_from k (part ∷ parts) = record { symbol = part.symbol; role = record { ordinal = k + 1; role = part.role } } ∷ counted_from (k + 1) parts

-- the parts of a whole expression
abbrev pub parts_of : ℕ → Form → List (Part Counted)
parts_of n form = counted_from 0 (spell n form [])

abbrev pub symbols_of : ℕ → Form → List Symbol
symbols_of n form = symbols_in (spell n form [])

-- ---- an expression before anything else

-- some expression begins with the form's symbols and goes on with this one
abbrev pub GoesOn : ℕ → Form → Symbol → Type 0
GoesOn n form symbol = (longer : Form) × IsGood longer × (more : List Symbol) × (symbols_of n longer ≡ symbols_of n form ++ symbol ∷ more)

-- what stands after the expression is not judged
abbrev pub beyond : Symbol → Part Counted
beyond symbol = record { symbol = symbol; role = record { ordinal = 0; role = Fixed } }

-- the longest expression that stands there, with anything after it
pub record IsSentence (n : ℕ) (parts : List (Part Counted)) : Type 0 where
  pub form : Form
  pub good : IsGood form
  pub next : Symbol
  pub others : List Symbol
  pub ends : GoesOn n form next → ⊥
  pub spelled : parts ≡ parts_of n form ++ map beyond (next ∷ others)

-- each name and each label of an orbit knows its place
abbrev pub IsPlacedAt : ℕ → Role → Type 0
IsPlacedAt place (NameAt at) = at ≡ place
IsPlacedAt place (LabelAt n at) = at ≡ place
IsPlacedAt place _ = Unit {0}

-- The marks begin with this form, which passes no limit, and these are left after it: no expression goes on so.
pub record Stands (n : ℕ) (form : Form) (marks rest : List Mark) : Type 0 where
  pub before : List Mark
  pub split : marks ≡ before ++ rest
  pub good : IsGood form
  pub spelled : symbols before ≡ symbols_of n form
  pub within : IsWithin (IsSentence n) limit_in (parts_of n form)
  pub placed : ArePlaced IsPlacedAt before (spell n form [])
  pub next : Mark
  pub others : List Mark
  pub behind : rest ≡ next ∷ others
  pub ends : GoesOn n form next.symbol → ⊥
