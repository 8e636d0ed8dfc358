-- An expression as it is written, with its parentheses and the places of its names, and which of these forms the levels allow.
use Rattle.std.specs.Prelude.{ℕ, ◌+◌, ◌≤◌, Bool, List}
use Rattle.gm_model.specs.declared.expr.BinOp.{BinOp}
use Rattle.gm_model.specs.declared.expr.UnOp.TheVariants as unary
use Rattle.gm_model.specs.Names.{Mention, IsFree}
use Rattle.gm_text.specs.SchemaText.{LabelForm}
use Rattle.gm_parse.specs.declared.key.Collector.{Collector}
use Rattle.gm_parse.specs.Levels.{binary_level, least_of_part, least_on_left, least_on_right, unary_level}

-- a node, and the labels after it
pub record TermForm : Type 0 where
  pub node : Mention
  pub path : List ℕ

mutual
  pub data Form : Type 0 where
    NumberForm : ℕ → Form
    TruthForm : Bool → Form
    -- a name by itself
    ParamForm : Mention → Form
    FieldForm : TermForm → Mention → Form
    SameForm : TermForm → TermForm → Form
    CountForm : List LabelForm → TermForm → Form
    CollectForm : Collector → List LabelForm → TermForm → Mention → Form
    CallForm : Mention → Arguments → Form
    ParenForm : Form → Form
    MinusForm : Form → Form
    NotForm : Form → Form
    BinaryForm : BinOp → Form → Form → Form
    IfForm : Form → Form → Form → Form

  -- one argument at least
  pub data Arguments : Type 0 where
    First : Form → Arguments
    -- after those before it
    Further : Arguments → Form → Arguments

abbrev pub count_of : Arguments → ℕ
count_of (First form) = 1
count_of (Further arguments form) = count_of arguments + 1

-- how tightly a form binds
abbrev pub level_of : Form → ℕ
level_of (IfForm c a b) = 0
level_of (BinaryForm op left right) = binary_level op
level_of (NotForm part) = unary_level unary.Not
level_of (MinusForm part) = unary_level unary.Neg
level_of _ = 8

abbrev pub IsGoodTerm : TermForm → Type 0
IsGoodTerm term = IsFree term.node

-- No name is reserved, and no part binds less than its place asks for.
abbrev mutual
  pub IsGood : Form → Type 0
  IsGood (NumberForm n) = Unit {0}
  IsGood (TruthForm b) = Unit {0}
  IsGood (ParamForm name) = IsFree name
  IsGood (FieldForm term embed) = IsGoodTerm term × IsFree embed
  IsGood (SameForm left right) = IsGoodTerm left × IsGoodTerm right
  IsGood (CountForm orbit term) = IsGoodTerm term
  IsGood (CollectForm collector orbit term embed) = IsGoodTerm term × IsFree embed
  IsGood (CallForm name arguments) = IsFree name × AreGood arguments
  IsGood (ParenForm part) = IsGood part
  IsGood (MinusForm part) = (least_of_part unary.Neg ≤ level_of part) × IsGood part
  IsGood (NotForm part) = (least_of_part unary.Not ≤ level_of part) × IsGood part
  IsGood (BinaryForm op left right) = (least_on_left op ≤ level_of left) × (least_on_right op ≤ level_of right) × IsGood left × IsGood right
  IsGood (IfForm c a b) = IsGood c × IsGood a × IsGood b

  pub AreGood : Arguments → Type 0
  AreGood (First form) = IsGood form
  AreGood (Further arguments form) = AreGood arguments × IsGood form
