-- Which squares at one node are good, and which is the first that isn't.
use Rattle.std.specs.Prelude.{◌≡◌, ℕ, ◌+◌, ◌<◌, ◌≤◌, ◌↔◌, List, Bool, true, false, slice_index_or, IsTrue}
use Rattle.gm_model.specs.declared.rule.RuleFault.{RuleFault}
use Rattle.gm_model.specs.declared.rule.RuleFault.TheVariants as faults
use Rattle.gm_model.specs.Rules.{Rule, is_preserved}
use Rattle.gm_model.specs.Squares.{IsSameStep, IsSquareGood}

-- the table tells which steps of a preserved node are the same on both sides
abbrev pub TellsStays : Rule → ℕ → List Bool → Type 0
TellsStays rule x stays = (i : ℕ) → i < 8 → (slice_index_or stays i false ≡ true) ↔ (IsTrue (is_preserved rule x) × IsSameStep rule x i)

-- the squares at x of i and labels below `count` are good
abbrev pub HasLabelSquares : Rule → ℕ → ℕ → ℕ → Type 0
HasLabelSquares rule x i count = (j : ℕ) → i + 2 ≤ j → j < count → IsSquareGood rule x i j

-- the squares at x of labels below `bound`, with labels below `count`
abbrev pub HasNodeSquares : Rule → ℕ → ℕ → ℕ → Type 0
HasNodeSquares rule x bound count = (i : ℕ) → i < bound → HasLabelSquares rule x i count

-- the fault is made of the first bad square at x of i and another label below `count`
pub record IsLabelFault (rule : Rule) (x i count : ℕ) (fault : RuleFault) : Type 0 where
  pub j : ℕ
  pub apart : i + 2 ≤ j
  pub label : j < count
  pub open_here : IsSquareGood rule x i j → ⊥
  pub before : HasLabelSquares rule x i j
  pub is : fault ≡ faults.Square x i j

-- the fault is made of the first bad square at x
pub record IsNodeFault (rule : Rule) (x count : ℕ) (fault : RuleFault) : Type 0 where
  pub i : ℕ
  pub before : HasNodeSquares rule x i count
  pub here : IsLabelFault rule x i count fault
