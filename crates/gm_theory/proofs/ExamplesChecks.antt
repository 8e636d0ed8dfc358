-- Tests of all numbers below a bound, which compute, and what they show.
use Rattle.std.proofs.Common.{◌≡◌, ℕ, zero, suc, ◌<◌, Bool, true, false, ◌&&◌, ◌||◌, ◌⊎◌, IsTrue, List, [], ◌∷◌, eqb, Contains, refl, sym, subst, inl, inr, arith, below_more}
use Rattle.std.proofs.lemmas.Bool.{eqb-true, or_cases}
use Rattle.gm_theory.proofs.Tests.{both_true, true_or_false, not_both}

-- the test holds of each number below the bound, of some
abbrev pub each_below : ℕ → (ℕ → Bool) → Bool
each_below zero test = true
each_below (suc n) test = test n && each_below n test

abbrev pub some_below : ℕ → (ℕ → Bool) → Bool
some_below zero test = false
some_below (suc n) test = test n || some_below n test

pub each : (n : ℕ) (test : ℕ → Bool) → IsTrue (each_below n test) → (k : ℕ) → k < n → IsTrue (test k)
each zero test h k b = absurd (omega arith)
each (suc n) test h k b = let both : IsTrue (test n) × IsTrue (each_below n test) = both_true (test n) (each_below n test) h in
    below_more (λ j. IsTrue (test j)) n (λ j c. each n test both.1 j c) both.0 k (omega arith)

pub some : (n : ℕ) (test : ℕ → Bool) → IsTrue (some_below n test) → (k : ℕ) × (k < n) × IsTrue (test k)
some zero test h = not_both false h refl
some (suc n) test h = go (or_cases (test n) (some_below n test) h) (λ t. some n test t)
  where
    go : IsTrue (test n) ⊎ IsTrue (some_below n test) → (IsTrue (some_below n test) → (k : ℕ) × (k < n) × IsTrue (test k)) → (k : ℕ) × (k < suc n) × IsTrue (test k)
    go (inl t) further = (n, omega arith, t)
    go (inr t) further = let found : (k : ℕ) × (k < n) × IsTrue (test k) = further t in (found.0, omega (arith, found.1), found.2)

-- a test that fails at each number fails at this one
pub fails : (n : ℕ) (test : ℕ → Bool) → some_below n test ≡ false → (k : ℕ) → k < n → IsTrue (test k) → ⊥
fails zero test h k b t = absurd (omega arith)
fails (suc n) test h k b t = go (true_or_false (test n)) (λ j c u e. fails n test e j c u)
  where
    go : IsTrue (test n) ⊎ (test n ≡ false) → ((j : ℕ) → j < n → IsTrue (test j) → some_below n test ≡ false → ⊥) → ⊥
    go (inl u) further = not_both false (sym (subst (λ b. (b || some_below n test) ≡ false) u h)) refl
    go (inr f) further = below_more (λ j. IsTrue (test j) → ⊥) n (λ j c u. further j c u (subst (λ b. (b || some_below n test) ≡ false) f h)) (λ u. not_both (test n) u f) k (omega arith) t

-- where the first holds, so does the second
abbrev pub ◌implies◌ : Bool → Bool → Bool
true implies b = b
false implies b = true

infixr 10 ◌implies◌
pub implied : (a b : Bool) → IsTrue (a implies b) → IsTrue a → IsTrue b
implied true b h t = h
implied false b h t = not_both false t refl

abbrev pub has_number : List ℕ → ℕ → Bool
has_number [] x = false
has_number (y ∷ ys) x = eqb y x || has_number ys x

pub number_contained : (xs : List ℕ) (x : ℕ) → IsTrue (has_number xs x) → Contains xs x
number_contained [] x h = not_both false h refl
number_contained (y ∷ ys) x h = go (or_cases (eqb y x) (has_number ys x) h) (λ t. number_contained ys x t)
  where
    go : IsTrue (eqb y x) ⊎ IsTrue (has_number ys x) → (IsTrue (has_number ys x) → Contains ys x) → Contains (y ∷ ys) x
    go (inl t) further = (0, omega arith, eqb-true y x t)
    go (inr t) further = let rest : Contains ys x = further t in (suc rest.0, omega (arith, rest.1), rest.2)
