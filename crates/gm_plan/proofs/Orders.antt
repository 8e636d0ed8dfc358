-- The order of paths: shorter first, then by labels.
use Rattle.std.proofs.Common.{◌≡◌, ℕ, ◌<◌, ◌⊎◌, inl, inr, List, [], ◌∷◌, ◌++◌, length, refl, ap, ◌∙◌, arith, length-append}
use Rattle.gm_model.specs.Matches.{IsSmallerPath}
use Rattle.gm_plan.specs.inner.Searches.{IsAtMost}
use Rattle.gm_theory.proofs.LeastPaths.{smaller_trans, not_smaller}

-- how two paths compare behind their first labels i and j
abbrev Rest : ℕ → List ℕ → ℕ → List ℕ → Type 0
Rest i p j q = (length p < length q) ⊎ ((length p ≡ length q) × ((i < j) ⊎ ((i ≡ j) × IsSmallerPath p q)))

-- a label more keeps the order
pub smaller_push : (p q : List ℕ) (i j : ℕ) → IsSmallerPath p q → IsSmallerPath (p ++ i ∷ []) (q ++ j ∷ [])
smaller_push [] [] i j h = absurd h
smaller_push [] (l ∷ q) i j h = inl (omega (arith, length-append q (j ∷ [])))
smaller_push (k ∷ p) [] i j h = absurd h
smaller_push (k ∷ p) (l ∷ q) i j h = go (smaller_push p q i j) h
  where
    go : (IsSmallerPath p q → IsSmallerPath (p ++ i ∷ []) (q ++ j ∷ [])) → Rest k p l q → Rest k (p ++ i ∷ []) l (q ++ j ∷ [])
    go rec (inl a) = inl (omega (arith, length-append p (i ∷ []), length-append q (j ∷ [])))
    go rec (inr (a, inl b)) = inr (omega (arith, length-append p (i ∷ []), length-append q (j ∷ [])), inl b)
    go rec (inr (a, inr (e, s))) = inr (omega (arith, length-append p (i ∷ []), length-append q (j ∷ [])), inr (e, rec s))

pub smaller_last : (p : List ℕ) (i j : ℕ) → i < j → IsSmallerPath (p ++ i ∷ []) (p ++ j ∷ [])
smaller_last [] i j h = inr (refl, inl h)
smaller_last (k ∷ p) i j h = inr (omega (arith, length-append p (i ∷ []), length-append p (j ∷ [])), inr (refl, smaller_last p i j h))

pub at_most_trans : (p q r : List ℕ) → IsAtMost p q → IsAtMost q r → IsAtMost p r
at_most_trans p q r (inl e) (inl f) = inl (e ∙ f)
at_most_trans p q r (inl e) (inr k) = inr (rw e k)
at_most_trans p q r (inr h) (inl f) = inr (rw (← f) h)
at_most_trans p q r (inr h) (inr k) = inr (smaller_trans p q r h k)

pub at_most_push : (p q : List ℕ) (i : ℕ) → IsAtMost p q → IsAtMost (p ++ i ∷ []) (q ++ i ∷ [])
at_most_push p q i (inl e) = inl (ap (λ r. r ++ i ∷ []) e)
at_most_push p q i (inr h) = inr (smaller_push p q i i h)

pub at_most_not_smaller : (p q : List ℕ) → IsAtMost p q → IsSmallerPath q p → ⊥
at_most_not_smaller p q (inl e) h = not_smaller q (rw e at h)
at_most_not_smaller p q (inr k) h = not_smaller p (smaller_trans p q p k h)
