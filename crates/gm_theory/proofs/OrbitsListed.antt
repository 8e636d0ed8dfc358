-- What can be decided of each dart can be listed and counted, where the darts lie below a bound.
use Rattle.std.proofs.Common.{◌≡◌, ℕ, zero, suc, ◌<◌, ◌⊎◌, List, [], ◌∷◌, length, Contains, sym, ◌∙◌, subst, inl, inr, arith}
use Rattle.std.proofs.lemmas.Bool.{cases_eq}
use Rattle.std.proofs.lemmas.Grind.{get_or_default_zero}
use Rattle.gm_model.specs.Orbits.{HasNoRepeats, IsListOf}
use Rattle.gm_theory.proofs.ValuesLists.{IsIn, in_contained, contains_in}
use Rattle.gm_theory.proofs.ValuesReach.{IsDecided}

-- a new element in front
distinct_front : (x : ℕ) (xs : List ℕ) → (Contains xs x → ⊥) → HasNoRepeats xs → HasNoRepeats (x ∷ xs)
distinct_front x xs apart distinct p zero h b e = absurd (omega arith)
distinct_front x xs apart distinct zero (suc q) h b e = let c : q < length xs = omega arith in apart (q, c, get_or_default_zero xs q x c ∙ sym e)
distinct_front x xs apart distinct (suc p) (suc q) h b e = distinct p q (omega arith) (omega arith) e

module _ (P : ℕ → Type 0) where
  abbrev IsBelow : ℕ → ℕ → Type 0
  IsBelow n d = (d < n) × P d

  front_listed : (n : ℕ) (darts : List ℕ) → P n → IsListOf (IsBelow n) darts → IsListOf (IsBelow (suc n)) (n ∷ darts)
  front_listed n darts p l = record { distinct = distinct_front n darts (λ c. let b : n < n = ((l.same n).0 c).0 in absurd (omega arith)) l.distinct; same = λ d. (there d, back d) }
    where
      there : (d : ℕ) → Contains (n ∷ darts) d → IsBelow (suc n) d
      there d c = go (contains_or d c)
        where
          contains_or : (d : ℕ) → Contains (n ∷ darts) d → (n ≡ d) ⊎ IsIn d darts
          contains_or d c = in_contained (n ∷ darts) d c

          go : (n ≡ d) ⊎ IsIn d darts → IsBelow (suc n) d
          go (inl e) = (omega arith, subst P e p)
          go (inr i) = let h : IsBelow n d = (l.same d).0 (contains_in darts d i) in (omega (arith, h.0), h.1)

      back : (d : ℕ) → IsBelow (suc n) d → Contains (n ∷ darts) d
      back d h = go (cases_eq n d)
        where
          go : (n ≡ d) ⊎ (n ≡ d → ⊥) → Contains (n ∷ darts) d
          go (inl e) = contains_in (n ∷ darts) d (inl e)
          go (inr other) = contains_in (n ∷ darts) d (inr (in_contained darts d ((l.same d).1 (below other h.0, h.1))))
            where
              below : (n ≡ d → ⊥) → d < suc n → d < n
              below other b = omega arith

  rest_listed : (n : ℕ) (darts : List ℕ) → (P n → ⊥) → IsListOf (IsBelow n) darts → IsListOf (IsBelow (suc n)) darts
  rest_listed n darts none l = record { distinct = l.distinct; same = λ d. ((λ c. let h : IsBelow n d = (l.same d).0 c in (omega (arith, h.0), h.1)), (λ h. (l.same d).1 (below d h (cases_eq n d), h.1))) }
    where
      below : (d : ℕ) → IsBelow (suc n) d → (n ≡ d) ⊎ (n ≡ d → ⊥) → d < n
      below d h (inl e) = absurd (none (subst P (sym e) h.1))
      below d h (inr other) = omega (arith, h.0)

  list_below : ((d : ℕ) → IsDecided (P d)) → (n : ℕ) → (darts : List ℕ) × IsListOf (IsBelow n) darts
  list_below decide zero = ([], record { distinct = λ p q h b e. absurd (omega arith); same = λ d. ((λ c. absurd (let b : c.0 < 0 = c.1 in omega arith)), (λ h. absurd (omega (arith, h.0)))) })
  list_below decide (suc n) = go (decide n) (list_below decide n)
    where
      go : IsDecided (P n) → (darts : List ℕ) × IsListOf (IsBelow n) darts → (darts : List ℕ) × IsListOf (IsBelow (suc n)) darts
      go (inl p) (darts, l) = (n ∷ darts, front_listed n darts p l)
      go (inr none) (darts, l) = (darts, rest_listed n darts none l)

  -- all that has P, each once
  pub list_all_of : ((d : ℕ) → IsDecided (P d)) → (n : ℕ) → ((d : ℕ) → P d → d < n) → (darts : List ℕ) × IsListOf P darts
  list_all_of decide n below = go (list_below decide n)
    where
      go : (darts : List ℕ) × IsListOf (IsBelow n) darts → (darts : List ℕ) × IsListOf P darts
      go (darts, l) = (darts, record { distinct = l.distinct; same = λ d. ((λ c. ((l.same d).0 c).1), (λ p. (l.same d).1 (below d p, p))) })
