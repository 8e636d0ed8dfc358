-- What can be decided of numbers, and the first that fails.
use Rattle.std.proofs.Common.{◌≡◌, ℕ, zero, suc, ◌+◌, ◌<◌, ◌≤◌, Bool, false, ◌⊎◌, List, [], ◌∷◌, IsTrue, refl, sym, subst, inl, inr, arith, below_more}
use Rattle.std.proofs.lemmas.Bool.{cases_lt}
use Rattle.std.specs.List.{Contains}
use Rattle.gm_model.specs.Structure.{IsFirstBad, AreGood}
use Rattle.gm_theory.proofs.Tests.{true_or_false, not_both}
use Rattle.gm_theory.proofs.ValuesFound.{IsLeast, least_below}
use Rattle.gm_theory.proofs.ValuesLists.{IsIn, in_contained, contains_in}
use Rattle.gm_theory.proofs.ValuesReach.{IsDecided}

-- ---- of parts

pub decide_true : (b : Bool) → IsDecided (IsTrue b)
decide_true b = go (true_or_false b)
  where
    go : IsTrue b ⊎ (b ≡ false) → IsDecided (IsTrue b)
    go (inl h) = inl h
    go (inr h) = inr (λ k. not_both b k h)

pub decide_at_most : (x y : ℕ) → IsDecided (x ≤ y)
decide_at_most x y = go (cases_lt y x)
  where
    go : (y < x) ⊎ (x ≤ y) → IsDecided (x ≤ y)
    go (inl h) = inr (λ k. omega arith)
    go (inr h) = inl h

pub decide_both : {P Q : Type 0} → IsDecided P → IsDecided Q → IsDecided (P × Q)
decide_both (inl p) (inl q) = inl (p, q)
decide_both (inl p) (inr q) = inr (λ h. q h.1)
decide_both (inr p) side = inr (λ h. p h.0)

pub decide_three : {P Q R : Type 0} → IsDecided P → IsDecided Q → IsDecided R → IsDecided (P × Q × R)
decide_three (inl p) (inl q) (inl r) = inl (p, q, r)
decide_three (inl p) (inl q) (inr r) = inr (λ h. r h.2)
decide_three (inl p) (inr q) side = inr (λ h. q h.1)
decide_three (inr p) second third = inr (λ h. p h.0)

pub decide_either : {P Q : Type 0} → IsDecided P → IsDecided Q → IsDecided (P ⊎ Q)
decide_either (inl p) side = inl (inl p)
decide_either (inr p) (inl q) = inl (inr q)
decide_either {P} {Q} (inr p) (inr q) = inr neither
  where
    neither : P ⊎ Q → ⊥
    neither (inl h) = p h
    neither (inr h) = q h

pub decide_where : {P Q : Type 0} → IsDecided P → IsDecided Q → IsDecided (P → Q)
decide_where side (inl q) = inl (λ p. q)
decide_where (inl p) (inr q) = inr (λ h. q (h p))
decide_where (inr p) (inr q) = inl (λ h. absurd (p h))

pub decide_not : {P : Type 0} → IsDecided P → IsDecided (P → ⊥)
decide_not (inl p) = inr (λ h. h p)
decide_not (inr p) = inl p

pub stable : {P : Type 0} → IsDecided P → ((P → ⊥) → ⊥) → P
stable (inl p) h = p
stable (inr p) h = absurd (h p)

-- ---- of elements

pub decide_any : (P : ℕ → Type 0) → ((x : ℕ) → IsDecided (P x)) → (xs : List ℕ) → IsDecided ((x : ℕ) × Contains xs x × P x)
decide_any P decide [] = inr (λ h. absurd (let b : h.1.0 < 0 = h.1.1 in omega arith))
decide_any P decide (y ∷ ys) = go (decide y) (decide_any P decide ys)
  where
    go : IsDecided (P y) → IsDecided ((x : ℕ) × Contains ys x × P x) → IsDecided ((x : ℕ) × Contains (y ∷ ys) x × P x)
    go (inl p) rest = inl (y, contains_in (y ∷ ys) y (inl refl), p)
    go (inr none) (inl (x, c, p)) = inl (x, contains_in (y ∷ ys) x (inr (in_contained ys x c)), p)
    go (inr none) (inr nowhere) = inr (λ h. by h.0 (in_contained (y ∷ ys) h.0 h.1) h.2)
      where
        by : (x : ℕ) → IsIn x (y ∷ ys) → P x → ⊥
        by x (inl e) p = none (subst P (sym e) p)
        by x (inr i) p = nowhere (x, contains_in ys x i, p)

-- ---- of numbers

-- the first bad one, or none
pub first_bad : (IsGood : ℕ → Type 0) → ((x : ℕ) → IsDecided (IsGood x)) → (count : ℕ) → AreGood IsGood count ⊎ ((bad : ℕ) × IsFirstBad IsGood count bad)
first_bad IsGood decide count = go (least_below (λ x. IsGood x → ⊥) (λ x. decide_not (decide x)) count)
  where
    go : ((x : ℕ) × (x < count) × IsLeast (λ x. IsGood x → ⊥) x) ⊎ ((x : ℕ) → x < count → (IsGood x → ⊥) → ⊥) → AreGood IsGood count ⊎ ((bad : ℕ) × IsFirstBad IsGood count bad)
    go (inl (x, b, (fails, before))) = inr (x, record { within = b; fails = fails; before = λ y h. stable (decide y) (before y h) })
    go (inr none) = inl (λ x b. stable (decide x) (none x b))

-- the least of all, where they lie below a bound
pub least_of_all : (P : ℕ → Type 0) → ((x : ℕ) → IsDecided (P x)) → (count : ℕ) → ((x : ℕ) → P x → x < count) → ((x : ℕ) × IsLeast P x) ⊎ ((x : ℕ) → P x → ⊥)
least_of_all P decide count below = go (least_below P decide count)
  where
    go : ((x : ℕ) × (x < count) × IsLeast P x) ⊎ ((x : ℕ) → x < count → P x → ⊥) → ((x : ℕ) × IsLeast P x) ⊎ ((x : ℕ) → P x → ⊥)
    go (inl (x, b, least)) = inl (x, least)
    go (inr none) = inr (λ x p. none x (below x p) p)

pub decide_some : (P : ℕ → Type 0) → ((x : ℕ) → IsDecided (P x)) → (count : ℕ) → ((x : ℕ) → P x → x < count) → IsDecided ((x : ℕ) × P x)
decide_some P decide count below = go (least_of_all P decide count below)
  where
    go : ((x : ℕ) × IsLeast P x) ⊎ ((x : ℕ) → P x → ⊥) → IsDecided ((x : ℕ) × P x)
    go (inl (x, least)) = inl (x, least.0)
    go (inr none) = inr (λ h. none h.0 h.1)

-- where one is, there is a least
pub least_from : (P : ℕ → Type 0) → ((x : ℕ) → IsDecided (P x)) → (x : ℕ) → P x → (y : ℕ) × IsLeast P y
least_from P decide x p = go (least_below P decide (suc x))
  where
    go : ((y : ℕ) × (y < suc x) × IsLeast P y) ⊎ ((y : ℕ) → y < suc x → P y → ⊥) → (y : ℕ) × IsLeast P y
    go (inl (y, b, least)) = (y, least)
    go (inr none) = absurd (none x (omega arith) p)

-- a bound of so many numbers
pub most_of : (f : ℕ → ℕ) (count : ℕ) → (most : ℕ) × ((x : ℕ) → x < count → f x ≤ most)
most_of f zero = (0, λ x h. absurd (omega arith))
most_of f (suc count) = let rest = most_of f count in
    (rest.0 + f count, λ x h. below_more (λ y. f y ≤ rest.0 + f count) count (λ y less. (let few : f y ≤ rest.0 = rest.1 y less in omega arith)) (omega arith) x (omega arith))
