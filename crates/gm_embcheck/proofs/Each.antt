-- What holds of each of the first elements of a list, as one more of them is read.
use Rattle.std.proofs.Common.{◌≡◌, ℕ, ◌+◌, ◌<◌, inl, inr, List, Some, sym, subst, ◌∙◌, ap, arith}
use Rattle.std.specs.List.{slice_get}
use Rattle.std.proofs.lemmas.Bool.{cases_lt}

abbrev pub EachBelow : {X : Type 0} → (X → Type 0) → List X → ℕ → Type 0
EachBelow {X} P xs count = (k : ℕ) (x : X) → k < count → slice_get xs k ≡ Some x → P x

module _ {X : Type 0} (xs : List X) (n : ℕ) (x : X) (here : slice_get xs n ≡ Some x) where
  same_here : (k : ℕ) (y : X) → k ≡ n → slice_get xs k ≡ Some y → x ≡ y
  same_here k y e h = let e' : Some x ≡ Some y = sym here ∙ ap (slice_get xs) (sym e) ∙ h in cc

  pub each_more : (P : X → Type 0) → EachBelow P xs n → P x → EachBelow P xs (n + 1)
  each_more P held p k y b h = elim (cases_lt k n) [
    | inl lt ↦ held k y lt h
    | inr ge ↦ subst P (same_here k y (omega arith) h) p
  ]
