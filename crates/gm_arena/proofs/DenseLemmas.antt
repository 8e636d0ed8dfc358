-- Where as many entries of a list are taken as there are below a bound, and none at or above it, each below it is taken.
use Rattle.std.proofs.Common.{◌≡◌, ℕ, zero, suc, ◌+◌, ◌<◌, ◌≤◌, List, [], ◌∷◌, cond, get_or, Option, Some, None, refl, arith}
use Rattle.std.specs.List.{count_by}
use Rattle.std.specs.Option.{IsSome, is_some}
use Rattle.std.proofs.lemmas.List.Sums.{sum_by-cons}

module _ {X : Type 0} where
  abbrev taken : List (Option X) → ℕ
  taken xs = count_by is_some xs

  with_one : (x : X) (xs : List (Option X)) → taken (Some x ∷ xs) ≡ 1 + taken xs
  with_one x xs = sum_by-cons (λ (o : Option X). cond (is_some o) 1 0) (Some x) xs

  with_none : (xs : List (Option X)) → taken (None ∷ xs) ≡ 0 + taken xs
  with_none xs = sum_by-cons (λ (o : Option X). cond (is_some o) 1 0) None xs

  at_most : (xs : List (Option X)) (bound : ℕ) → ((at : ℕ) → IsSome (get_or xs at None) → at < bound) → taken xs ≤ bound
  at_most [] bound below = omega arith
  at_most (None ∷ xs) zero below = omega (arith, with_none xs, at_most xs zero (λ at h. absurd (let k = below (suc at) h in omega arith)))
  at_most (None ∷ xs) (suc b) below = omega (arith, with_none xs, at_most xs b (λ at h. let k = below (suc at) h in omega arith))
  at_most (Some x ∷ xs) zero below = absurd (let k = below 0 refl in omega arith)
  at_most (Some x ∷ xs) (suc b) below = omega (arith, with_one x xs, at_most xs b (λ at h. let k = below (suc at) h in omega arith))

  pub all_taken : (xs : List (Option X)) (bound : ℕ) → ((at : ℕ) → IsSome (get_or xs at None) → at < bound) → taken xs ≡ bound → (at : ℕ) → at < bound → IsSome (get_or xs at None)
  all_taken [] bound below full at h = absurd (omega (arith, full, h))
  all_taken (x ∷ xs) zero below full at h = absurd (omega (arith, h))
  all_taken (None ∷ xs) (suc b) below full at h = absurd (let most = at_most xs b (λ at h. let k = below (suc at) h in omega arith) in omega (arith, with_none xs, full, most))
  all_taken (Some x ∷ xs) (suc b) below full zero h = refl
  all_taken (Some x ∷ xs) (suc b) below full (suc at) h = all_taken xs b (λ at h. let k = below (suc at) h in omega arith) (omega (arith, with_one x xs, full)) at (omega arith)
