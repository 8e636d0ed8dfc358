-- A form whose numbers and labels pass no limit.
use Rattle.std.specs.Prelude.{ℕ, ◌≤◌, List}
use Rattle.std.specs.List.{AllByRecursion}
use Rattle.gm_text.specs.SchemaText.{LabelForm}
use Rattle.gm_parse.specs.Forms.{TermForm, Form, NumberForm, TruthForm, ParamForm, FieldForm, SameForm, CountForm, CollectForm, CallForm, ParenForm, MinusForm, NotForm, BinaryForm, IfForm, Arguments, First, Further}
use Rattle.gm_parse.specs.Spelling.{greatest}

-- labels go up to n
module _ (n : ℕ) where
  abbrev pub IsSmallPath : List ℕ → Type 0
  IsSmallPath path = AllByRecursion (λ label. label ≤ n) path

  abbrev pub IsSmallOrbit : List LabelForm → Type 0
  IsSmallOrbit orbit = AllByRecursion (λ form. form.label ≤ n) orbit

  abbrev pub IsSmallTerm : TermForm → Type 0
  IsSmallTerm term = IsSmallPath term.path

  abbrev mutual
    pub IsSmall : Form → Type 0
    IsSmall (NumberForm value) = value ≤ greatest
    IsSmall (TruthForm b) = Unit {0}
    IsSmall (ParamForm name) = Unit {0}
    IsSmall (FieldForm term embed) = IsSmallTerm term
    IsSmall (SameForm left right) = IsSmallTerm left × IsSmallTerm right
    IsSmall (CountForm orbit term) = IsSmallOrbit orbit × IsSmallTerm term
    IsSmall (CollectForm collector orbit term embed) = IsSmallOrbit orbit × IsSmallTerm term
    IsSmall (CallForm name arguments) = AreSmall arguments
    IsSmall (ParenForm part) = IsSmall part
    IsSmall (MinusForm part) = IsSmall part
    IsSmall (NotForm part) = IsSmall part
    IsSmall (BinaryForm op left right) = IsSmall left × IsSmall right
    IsSmall (IfForm c a b) = IsSmall c × IsSmall a × IsSmall b

    pub AreSmall : Arguments → Type 0
    AreSmall (First form) = IsSmall form
    AreSmall (Further arguments form) = AreSmall arguments × IsSmall form
