-- Labels and their duals.
use Rattle.std.proofs.Common.{◌≡◌, ℕ, ◌+◌, ◌-◌, ◌<◌, ◌≤◌, Bool, true, false, nat_eq, if◌then◌else◌, List, [], ◌∷◌, map, length, get_or, reverse, refl, sym, ap, ap₂, subst, ◌∙◌, inl, inr, arith}
use Rattle.std.proofs.lemmas.Bool.{cases_lt, eqb-true, eq-eqb, le-ltb, lt-ltb}
use Rattle.std.proofs.lemmas.List.{get_or-reverse, get_or_past, length-reverse}
use Rattle.gm_dual.specs.Duals.{dual_label}

module _ (n : ℕ) where
  pub dual_within : (i : ℕ) → i ≤ n → dual_label n i ≡ n - i
  dual_within i h = ap (λ (b : Bool). if b then i else n - i) (le-ltb n i h)

  pub dual_above : (i : ℕ) → n < i → dual_label n i ≡ i
  dual_above i h = ap (λ (b : Bool). if b then i else n - i) (lt-ltb n i h)

  pub dual_most : (i : ℕ) → i ≤ n → dual_label n i ≤ n
  dual_most i h = omega (arith, dual_within i h)

  pub dual_twice : (i : ℕ) → dual_label n (dual_label n i) ≡ i
  dual_twice i = elim (cases_lt n i) [
    | inl above ↦ ap (dual_label n) (dual_above i above) ∙ dual_above i above
    | inr within ↦ ap (dual_label n) (dual_within i within) ∙ (dual_within (n - i) (omega arith) ∙ omega (arith, within))
  ]

  -- a label up to n is the dual of one up to n
  pub dual_least : (i : ℕ) → dual_label n i ≤ n → i ≤ n
  dual_least i h = subst (λ k. k ≤ n) (dual_twice i) (dual_most (dual_label n i) h)

  pub duals_twice : (path : List ℕ) → map (dual_label n) (map (dual_label n) path) ≡ path
  duals_twice [] = refl
  duals_twice (i ∷ path) = ap₂ (λ j js. j ∷ js) (dual_twice i) (duals_twice path)

  -- i has the dual j exactly where j has the dual i
  pub dual_same : (i j : ℕ) → nat_eq (dual_label n i) j ≡ nat_eq i (dual_label n j)
  dual_same i j = go (nat_eq (dual_label n i) j) (nat_eq i (dual_label n j)) (λ e. eq-eqb i (dual_label n j) (sym (dual_twice i) ∙ ap (dual_label n) (eqb-true (dual_label n i) j e))) (λ e. eq-eqb (dual_label n i) j (ap (dual_label n) (eqb-true i (dual_label n j) e) ∙ dual_twice j))
    where
      go : (a b : Bool) → (a ≡ true → b ≡ true) → (b ≡ true → a ≡ true) → a ≡ b
      go true b to from = sym (to refl)
      go false true to from = from refl
      go false false to from = refl

  -- labels that differ by two or more have duals that do, the other way round
  pub dual_apart : (i j : ℕ) → i + 2 ≤ j → j ≤ n → dual_label n j + 2 ≤ dual_label n i
  dual_apart i j apart most = omega (arith, dual_within i (omega arith), dual_within j most)

  -- in neighbours that stand the other way round, a label has the neighbour of its dual, and above n there is none
  pub turned_neighbour : (i x : ℕ) (alphas : List ℕ) → length alphas ≡ n + 1 → get_or (reverse alphas) i x ≡ get_or alphas (dual_label n i) x
  turned_neighbour i x alphas long =
      elim (cases_lt n i) [
        | inl above ↦ get_or_past (reverse alphas) i x (omega (arith, long, above, length-reverse alphas)) ∙ (sym (get_or_past alphas i x (omega (arith, long, above))) ∙ ap (λ k. get_or alphas k x) (sym (dual_above i above)))
        | inr low ↦ get_or-reverse alphas i x (omega (arith, long, low)) ∙ ap (λ k. get_or alphas k x) (omega (arith, long, low, dual_within i low))
      ]
