-- Which nodes are left ones, by their count.
use Rattle.std.proofs.Common.{◌≡◌, ℕ, ◌<◌, ◌≤◌, not, false, IsTrue, inl, inr, arith}
use Rattle.gm_model.specs.declared.rule.Side.TheVariants.{Left, Right}
use Rattle.gm_model.specs.Rules.{Rule, has_word, is_added}
use Rattle.gm_plan.specs.inner.Plans.{IsLeftCount}
use Rattle.gm_theory.proofs.Tests.{and_true, true_not, true_or_false}

module _ (rule : Rule) (left x : ℕ) (count : IsLeftCount rule left) (late : left ≤ x) where
  pub not_left : has_word rule Left x ≡ false
  not_left = elim (true_or_false (has_word rule Left x)) [
    | inl l ↦ absurd (let h : x < left = (count x).0 l in omega arith)
    | inr a ↦ a
  ]

  -- a right node that is no left one is added
  pub right_added : IsTrue (has_word rule Right x) → IsTrue (is_added rule x)
  right_added r = and_true (not (has_word rule Left x)) (has_word rule Right x) (true_not (has_word rule Left x) not_left) r
