-- Where an element of a list stands: first, or behind.
use Rattle.std.proofs.Common.{◌≡◌, zero, suc, ◌⊎◌, inl, inr, List, [], ◌∷◌, ◌++◌, refl, subst, arith}
use Rattle.std.specs.List.{Contains}

module _ {X : Type 0} (x : X) (xs : List X) where
  pub contains_cases : (y : X) → Contains (x ∷ xs) y → (x ≡ y) ⊎ Contains xs y
  contains_cases y (zero, b, e) = inl e
  contains_cases y (suc k, b, e) = inr (k, omega arith, e)

  pub contains_here : Contains (x ∷ xs) x
  contains_here = (0, omega arith, refl)

  pub contains_behind : (y : X) → Contains xs y → Contains (x ∷ xs) y
  contains_behind y h = (suc h.0, omega (arith, h.1), h.2)

pub contains_none : {X : Type 0} (x : X) → Contains [] x → ⊥
contains_none x h = omega (arith, h.1)

-- in the first of two lists, or in the second
pub contains_either : {X : Type 0} (xs ys : List X) (y : X) → Contains (xs ++ ys) y → Contains xs y ⊎ Contains ys y
contains_either [] ys y h = inr h
contains_either (x ∷ xs) ys y h = elim (contains_cases x (xs ++ ys) y h) [
  | inl e ↦ inl (subst (Contains (x ∷ xs)) e (contains_here x xs))
  | inr behind ↦ elim (contains_either xs ys y behind) [
    | inl first ↦ inl (contains_behind x xs y first)
    | inr second ↦ inr second
  ]
]
