-- What can be decided of each number below a bound can be listed in ascending order.
use Rattle.std.proofs.Common.{◌≡◌, ℕ, zero, suc, ◌+◌, ◌<◌, ◌≤◌, ◌⊎◌, List, [], ◌∷◌, ◌++◌, length, get_or, sym, subst, inl, inr, arith}
use Rattle.std.specs.List.{Contains}
use Rattle.std.proofs.lemmas.Bool.{cases_lt, cases_eq}
use Rattle.std.proofs.lemmas.List.{get_or_append_left, get_or_push, length_push, get_or_default}
use Rattle.std.proofs.lemmas.List.Elements.{Contains-append_left, Contains-push, Contains-push_cases}
use Rattle.gm_theory.proofs.ValuesReach.{IsDecided}
use Rattle.gm_model.specs.Orbits.{IsListOf}
use Rattle.gm_cells.specs.inner.Ascending.{IsAscendingOf}

module _ (P : ℕ → Type 0) where
  pushed : (n : ℕ) (ds : List ℕ) → P n → IsAscendingOf P n ds → IsAscendingOf P (suc n) (ds ++ n ∷ [])
  pushed n ds has old = record { same = λ d. (there d, back d); rising = rising }
    where
      there : (d : ℕ) → Contains (ds ++ n ∷ []) d → (d < suc n) × P d
      there d c = go (Contains-push_cases ds n d c)
        where
          go : Contains ds d ⊎ (n ≡ d) → (d < suc n) × P d
          go (inl k) = let h : (d < n) × P d = (old.same d).0 k in (omega (arith, h.0), h.1)
          go (inr e) = (omega (arith, e), subst P e has)

      back : (d : ℕ) → (d < suc n) × P d → Contains (ds ++ n ∷ []) d
      back d h = go (cases_eq n d)
        where
          go : (n ≡ d) ⊎ (n ≡ d → ⊥) → Contains (ds ++ n ∷ []) d
          go (inl e) = subst (Contains (ds ++ n ∷ [])) e (Contains-push ds n)
          go (inr other) = Contains-append_left ds (n ∷ []) d ((old.same d).1 (below other h.0, h.1))
            where
              below : (n ≡ d → ⊥) → d < suc n → d < n
              below other b = omega arith

      lower : (p : ℕ) → p < length ds → get_or ds p 0 < n
      lower p b = ((old.same (get_or ds p 0)).0 (p, b, get_or_default ds p (get_or ds p 0) 0 b)).0

      rising : (p q : ℕ) → p < q → q < length (ds ++ n ∷ []) → get_or (ds ++ n ∷ []) p 0 < get_or (ds ++ n ∷ []) q 0
      rising p q less within = go (cases_lt q (length ds))
        where
          go : (q < length ds) ⊎ (length ds ≤ q) → get_or (ds ++ n ∷ []) p 0 < get_or (ds ++ n ∷ []) q 0
          go (inl k) = rw (get_or_append_left ds (n ∷ []) 0 p (omega arith), get_or_append_left ds (n ∷ []) 0 q k) (old.rising p q less k)
          go (inr k) =
              let end : length ds ≡ q = omega (arith, length_push ds n) in
              let early : p < length ds = omega arith in
              rw (get_or_append_left ds (n ∷ []) 0 p early, get_or_push ds n 0 q end) (lower p early)

  kept : (n : ℕ) (ds : List ℕ) → (P n → ⊥) → IsAscendingOf P n ds → IsAscendingOf P (suc n) ds
  kept n ds none old = record { same = λ d. (there d, back d); rising = old.rising }
    where
      there : (d : ℕ) → Contains ds d → (d < suc n) × P d
      there d c = let h : (d < n) × P d = (old.same d).0 c in (omega (arith, h.0), h.1)

      back : (d : ℕ) → (d < suc n) × P d → Contains ds d
      back d h = (old.same d).1 (below (cases_eq n d), h.1)
        where
          below : (n ≡ d) ⊎ (n ≡ d → ⊥) → d < n
          below (inl e) = absurd (none (subst P (sym e) h.1))
          below (inr other) = omega (arith, h.0)

  pub ascending_below : ((d : ℕ) → IsDecided (P d)) → (n : ℕ) → (ds : List ℕ) × IsAscendingOf P n ds
  ascending_below decide zero = ([], record { same = λ d. ((λ c. absurd (let k = c.1 in omega arith)), (λ h. absurd (omega (arith, h.0)))); rising = λ p q less within. absurd (omega arith) })
  ascending_below decide (suc n) = go (decide n) (ascending_below decide n)
    where
      go : IsDecided (P n) → (ds : List ℕ) × IsAscendingOf P n ds → (ds : List ℕ) × IsAscendingOf P (suc n) ds
      go (inl has) (ds, old) = (ds ++ n ∷ [], pushed n ds has old)
      go (inr none) (ds, old) = (ds, kept n ds none old)

  -- ---- with gaps, as the live names have them

  pub none_below : IsAscendingOf P 0 []
  none_below = record { same = λ d. ((λ c. absurd (let k = c.1 in omega arith)), (λ h. absurd (omega (arith, h.0)))); rising = λ p q less within. absurd (omega arith) }

  -- those up to k, if none comes before it
  pub gap : (n k : ℕ) (ds : List ℕ) → n ≤ k → ((d : ℕ) → n ≤ d → d < k → P d → ⊥) → IsAscendingOf P n ds → IsAscendingOf P k ds
  gap n k ds up none old = record { same = λ d. (there d, back d); rising = old.rising }
    where
      there : (d : ℕ) → Contains ds d → (d < k) × P d
      there d c = let h : (d < n) × P d = (old.same d).0 c in (omega (arith, h.0, up), h.1)

      back : (d : ℕ) → (d < k) × P d → Contains ds d
      back d h = elim (cases_lt d n) [ inl l ↦ (old.same d).1 (l, h.1) | inr l ↦ absurd (none d l h.0 h.1) ]

  pub next_has : (n k : ℕ) (ds : List ℕ) → n ≤ k → ((d : ℕ) → n ≤ d → d < k → P d → ⊥) → P k → IsAscendingOf P n ds → IsAscendingOf P (k + 1) (ds ++ k ∷ [])
  next_has n k ds up none has old = let more : suc k ≡ k + 1 = omega arith in subst (λ x. IsAscendingOf P x (ds ++ k ∷ [])) more (pushed k ds has (gap n k ds up none old))

  pub next_not : (n k : ℕ) (ds : List ℕ) → n ≤ k → ((d : ℕ) → n ≤ d → d < k → P d → ⊥) → (P k → ⊥) → IsAscendingOf P n ds → IsAscendingOf P (k + 1) ds
  next_not n k ds up none not old = let more : suc k ≡ k + 1 = omega arith in subst (λ x. IsAscendingOf P x ds) more (kept k ds not (gap n k ds up none old))

  -- no number has P that isn't below n, so they are all that have it
  pub all_of : (n : ℕ) (ds : List ℕ) → ((d : ℕ) → P d → d < n) → IsAscendingOf P n ds → IsListOf P ds
  all_of n ds below old = record {
    distinct = λ p q less within same. (let up = old.rising p q less within in omega (arith, same, up));
    same = λ d. ((λ c. (let h = (old.same d).0 c in h.1)), (λ has. (old.same d).1 (below d has, has)));
  }
