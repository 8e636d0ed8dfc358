-- What a list with one more element in front contains, and one without any.
use Rattle.std.proofs.Common.{◌≡◌, ℕ, zero, suc, ◌<◌, ◌⊎◌, List, [], ◌∷◌, length, get_or, refl, inl, inr, arith}
use Rattle.std.specs.List.{Contains}
use Rattle.std.proofs.lemmas.List.{get_or_default}

module _ {A : Type 0} where
  pub contains_first : (x : A) (xs : List A) → Contains (x ∷ xs) x
  contains_first x xs = (0, omega arith, refl)

  pub contains_later : (x : A) (xs : List A) (y : A) → Contains xs y → Contains (x ∷ xs) y
  contains_later x xs y (k, h, e) = (suc k, omega arith, e)

  pub contains_either : (x : A) (xs : List A) (y : A) → Contains (x ∷ xs) y → (x ≡ y) ⊎ Contains xs y
  contains_either x xs y (zero, h, e) = inl e
  contains_either x xs y (suc k, h, e) = inr (k, omega arith, e)

  pub contains_none : (y : A) → Contains [] y → ⊥
  contains_none y (k, h, e) = omega arith

module _ {A : Type 0} where
  pub contains_at : (xs : List A) (i : ℕ) (d : A) → i < length xs → Contains xs (get_or xs i d)
  contains_at xs i d h = (i, h, get_or_default xs i (get_or xs i d) d h)
