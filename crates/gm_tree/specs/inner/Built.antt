-- What is built over a whole expression.
use Rattle.std.specs.Prelude.{◌≡◌, ℕ, [], Option, Some, None}
use Rattle.gm_text.specs.inner.Cursor.{Cursor}
use Rattle.gm_text.specs.inner.Lexing.{IsBehindToken}
use Rattle.gm_text.specs.inner.SchemaAnswers.{marks_left}
use Rattle.gm_parse.specs.declared.fault.ExprFault.{ExprFault}
use Rattle.gm_parse.specs.declared.fault.ExprFault.TheVariants as faults
use Rattle.gm_parse.specs.inner.Answers.{Reads}
use Rattle.gm_parse.specs.Forms.{Form}
use Rattle.gm_parse.specs.inner.Reading.{Spot, first_spot}
use Rattle.gm_parse.specs.Spelling.{Stands}
use Rattle.gm_parse.specs.Meaning.{Names, NameFault}
use Rattle.gm_tree.specs.inner.Building.{Work, work, Nothing, built_all, name_fault}

-- the longest expression that stands there is gone past, and this was built over its marks
pub record IsBuiltOver (n : ℕ) (names : Names) (old new : Cursor) (w : Work) : Type 0 where
  pub form : Form
  pub stands : Stands n form (marks_left old) (marks_left new)
  pub built : w ≡ built_all names (work [] None Nothing) stands.before
  pub text : new.text ≡ old.text
  pub behind : IsBehindToken old new

-- the fault is the least one that was found, or memory ran out
abbrev pub IsLeastOrLost : Option NameFault → ExprFault → Type 0
IsLeastOrLost least faults.OutOfMemory = Unit {0}
IsLeastOrLost least fault = least ≡ Some (name_fault fault)

-- the lexer has come to the spot, and this was built over what it went past
pub record IsUnderway (n : ℕ) (names : Names) (old now : Cursor) (spot : Spot) (w : Work) : Type 0 where
  pub reads : Reads n first_spot old now spot
  pub built : w ≡ built_all names (work [] None Nothing) reads.before
