-- What a table of steps by node and label has, and when it has the right steps of a rule.
use Rattle.std.specs.Prelude.{◌≡◌, ℕ, ◌<◌, List, [], slice_index_or}
use Rattle.gm_model.specs.declared.rule.Side.TheVariants.{Right}
use Rattle.gm_model.specs.declared.step.Step.{Step}
use Rattle.gm_model.specs.declared.step.Step.TheVariants.{Absent, Exp}
use Rattle.gm_model.specs.Rules.{Rule, step}

-- the step at a label of a row, and of a node's row
abbrev pub step_of : List (List Step) → ℕ → ℕ → Step
step_of rows x i = slice_index_or (slice_index_or rows x []) i Absent

-- at the first nodes, each link of the table leads to one of them
abbrev pub HasEnds : List (List Step) → ℕ → Type 0
HasEnds rows count = (x i y : ℕ) → x < count → i < 8 → step_of rows x i ≡ Exp y → y < count

-- at the first nodes, the table has the right steps of the rule
abbrev pub HasRows : Rule → List (List Step) → ℕ → Type 0
HasRows rule rows count = (x i : ℕ) → x < count → i < 8 → step_of rows x i ≡ step rule Right x i
