-- A list that has so many entries for each position.
use Rattle.std.proofs.Common.{◌≡◌, ℕ, ◌+◌, ◌*◌, ◌/◌, ◌<◌, ap, subst, ◌∙◌, add-zero, mul_comm}
use Rattle.std.proofs.lemmas.Nat.{mul-add-lt, div-mul-add}
use Rattle.gm_plan.specs.inner.Placed.{HasRowsOf}

pub within_rows : (p x positions width entries : ℕ) → p < positions → x < width → positions * width ≡ entries → p * width + x < entries
within_rows p x positions width entries before low is = subst (λ n. p * width + x < n) (mul_comm width positions ∙ is) (mul-add-lt p width x positions before low)

pub whole_rows : (positions entries : ℕ) → 0 < positions → HasRowsOf positions entries → positions * (entries / positions) ≡ entries
whole_rows positions entries some (width, is) = ap (λ n. positions * n) one ∙ is
  where
    one : entries / positions ≡ width
    one = subst (λ n. n / positions ≡ width) (add-zero (width * positions) ∙ mul_comm width positions ∙ is) (div-mul-add width positions 0 some)
