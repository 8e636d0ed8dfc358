-- What a statement of a script owes a book: a rule that there is, with as many hooks and values as it has.
use Rattle.std.specs.Prelude.{◌≡◌, ℕ, ◌≤◌, List, length, Some, slice_get, IsTrue}
use Rattle.gm_model.specs.Statements.{Line, Stat}
use Rattle.gm_model.specs.Statements as statements
use Rattle.gm_model.specs.declared.value.Value.{Value}
use Rattle.gm_model.specs.Kinds.{AreGoodParams}
use Rattle.gm_model.specs.Labels.{has}
use Rattle.gm_model.specs.Rules.{Rule}

-- the rule with this index takes this many hooks and these values
pub record Takes (rules : List Rule) (k hooks : ℕ) (params : List Value) : Type 0 where
  pub rule : Rule
  pub rule_is : slice_get rules k ≡ Some rule
  pub hooks_are : hooks ≡ length rule.hooks
  pub params_are : AreGoodParams rule params

-- a statement, where labels go up to the number
abbrev pub Agrees : ℕ → List Rule → Stat → Type 0
Agrees n rules (statements.Apply line) = Takes rules line.rule (length line.hooks) line.params
Agrees n rules (statements.Each mask k params) = ((label : ℕ) → IsTrue (has mask label) → label ≤ n) × Takes rules k 1 params
Agrees n rules _ = Unit {0}
