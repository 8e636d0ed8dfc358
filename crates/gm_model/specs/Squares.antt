-- When the square of two labels closes at a node on the right, which squares of a rule must close, and which fault of these is the first.
use Rattle.std.specs.Prelude.{◌≡◌, ℕ, ◌+◌, ◌<◌, ◌≤◌, ◌⊎◌, IsTrue}
use Rattle.gm_model.specs.declared.rule.RuleFault.{RuleFault}
use Rattle.gm_model.specs.declared.rule.RuleFault.TheVariants as faults
use Rattle.gm_model.specs.declared.rule.Side.TheVariants.{Left, Right}
use Rattle.gm_model.specs.declared.step.Step.{Step}
use Rattle.gm_model.specs.declared.step.Step.TheVariants.{Absent, Exp, Imp}
use Rattle.gm_model.specs.Rules.{Rule, has_word, is_preserved, step, hook_label}

-- two labels that differ by two or more
abbrev pub IsApart : ℕ → ℕ → Type 0
IsApart i j = (i + 2 ≤ j) ⊎ (j + 2 ≤ i)

-- Over the steps of one side, and the labels of the places. Where x has the steps s at i and t at j, their square closes:
module _ (steps : ℕ → ℕ → Step) (label : ℕ → ℕ) where
  abbrev pub ClosesBy : ℕ → ℕ → Step → Step → Type 0
  ClosesBy i j (Exp y) (Exp z) = (w : ℕ) × (steps y j ≡ Exp w) × (steps z i ≡ Exp w)
  ClosesBy i j (Exp y) (Imp m) = steps y j ≡ Imp m
  ClosesBy i j (Imp m) (Exp z) = steps z i ≡ Imp m
  ClosesBy i j (Imp m) (Imp m') = IsApart (label m) (label m')
  ClosesBy i j Absent t = ⊥
  ClosesBy i j (Exp y) Absent = ⊥
  ClosesBy i j (Imp m) Absent = ⊥

  abbrev pub Closes : ℕ → ℕ → ℕ → Type 0
  Closes x i j = ClosesBy i j (steps x i) (steps x j)

-- the step at the label is the same on both sides; two absent steps are the same
abbrev pub IsSameStep : Rule → ℕ → ℕ → Type 0
IsSameStep rule x i = step rule Left x i ≡ step rule Right x i

-- the square is as it was: the node is preserved, and its two steps are the same on both sides
pub record IsExcused (rule : Rule) (x i j : ℕ) : Type 0 where
  pub preserved : IsTrue (is_preserved rule x)
  pub same_i : IsSameStep rule x i
  pub same_j : IsSameStep rule x j

abbrev pub ClosesRight : Rule → ℕ → ℕ → ℕ → Type 0
ClosesRight rule x i j = Closes (step rule Right) (hook_label rule) x i j

abbrev pub IsSquareGood : Rule → ℕ → ℕ → ℕ → Type 0
IsSquareGood rule x i j = IsTrue (has_word rule Right x) → IsExcused rule x i j ⊎ ClosesRight rule x i j

-- the cycle condition
abbrev pub HasSquares : ℕ → Rule → Type 0
HasSquares n rule = (x i j : ℕ) → i + 2 ≤ j → j ≤ n → IsSquareGood rule x i j

-- the pair (i, j) at x comes before (i', j') at x'
abbrev pub IsSquareBefore : ℕ → ℕ → ℕ → ℕ → ℕ → ℕ → Type 0
IsSquareBefore x i j x' i' j' = (x < x') ⊎ ((x ≡ x') × (i < i')) ⊎ ((x ≡ x') × (i ≡ i') × (j < j'))

pub record IsFirstOpenSquare (n : ℕ) (rule : Rule) (x i j : ℕ) : Type 0 where
  pub apart : i + 2 ≤ j
  pub label : j ≤ n
  pub open_here : IsSquareGood rule x i j → ⊥
  pub before : (y i' j' : ℕ) → IsSquareBefore y i' j' x i j → i' + 2 ≤ j' → j' ≤ n → IsSquareGood rule y i' j'

pub data IsSquareFault (n : ℕ) (rule : Rule) : RuleFault → Type 0 where
  OpenSquare : (x i j : ℕ) → IsFirstOpenSquare n rule x i j → IsSquareFault n rule (faults.Square x i j)
