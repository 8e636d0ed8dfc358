-- Lists that are put together from one list for each number, in order.
use Rattle.std.proofs.Common.{◌≡◌, ℕ, zero, suc, ◌+◌, ◌<◌, ◌≤◌, ◌⊎◌, List, [], ◌∷◌, ◌++◌, length, Some, slice_get, refl, ap, subst, inl, inr, arith}
use Rattle.std.proofs.lemmas.Bool.{cases_eq}
use Rattle.std.specs.List.{AllZip}
use Rattle.gm_theory.proofs.Lists.{some_same, none_some}
use Rattle.gm_theory.proofs.ValuesLists.{IsIn}

-- ---- one result for each element, or number

pub zipped : {A : Type 0} (R : A → ℕ → Type 0) (xs : List A) → ((x : A) → IsIn x xs → (u : ℕ) × R x u) → (us : List ℕ) × AllZip R xs us
zipped R [] each = ([], tt)
zipped R (x ∷ xs) each = go (each x (inl refl)) (zipped R xs (λ y i. each y (inr i)))
  where
    go : (u : ℕ) × R x u → (us : List ℕ) × AllZip R xs us → (us : List ℕ) × AllZip R (x ∷ xs) us
    go (u, r) (us, all) = (u ∷ us, (r, all))

-- from the start on, so many
pub tabulated : (R : ℕ → ℕ → Type 0) (start count : ℕ) → ((k : ℕ) → k < start + count → (u : ℕ) × R k u) → (us : List ℕ) × (length us ≡ count) × ((k u : ℕ) → slice_get us k ≡ Some u → R (start + k) u)
tabulated R start zero each = ([], refl, λ k u e. none_some u e)
tabulated R start (suc count) each = go (each start (omega arith)) (tabulated R (suc start) count (λ k h. each k (omega arith)))
  where
    go : (u : ℕ) × R start u → (us : List ℕ) × (length us ≡ count) × ((k u : ℕ) → slice_get us k ≡ Some u → R (suc start + k) u) → (us : List ℕ) × (length us ≡ suc count) × ((k u : ℕ) → slice_get us k ≡ Some u → R (start + k) u)
    go (u, r) (us, long, rest) = (u ∷ us, ap suc long, at)
      where
        at : (k v : ℕ) → slice_get (u ∷ us) k ≡ Some v → R (start + k) v
        at zero v e = let same : start ≡ start + 0 = omega arith in subst (λ n. R n v) same (subst (R start) (some_same u v e) r)
        at (suc k) v e = let same : suc start + k ≡ start + suc k = omega arith in subst (λ n. R n v) same (rest k v e)

-- ---- in order

module _ {A : Type 0} (IsBefore : A → A → Type 0) where
  abbrev pub IsSorted : List A → Type 0
  IsSorted [] = Unit {0}
  IsSorted (x ∷ xs) = ((y : A) → IsIn y xs → IsBefore x y) × IsSorted xs

  got_in : (xs : List A) (k : ℕ) (x : A) → slice_get xs k ≡ Some x → IsIn x xs
  got_in [] k x e = none_some x e
  got_in (y ∷ xs) zero x e = inl (some_same y x e)
  got_in (y ∷ xs) (suc k) x e = inr (got_in xs k x e)

  pub sorted_places : (xs : List A) → IsSorted xs → (k l : ℕ) (a b : A) → k < l → slice_get xs k ≡ Some a → slice_get xs l ≡ Some b → IsBefore a b
  sorted_places [] sorted k l a b h e f = none_some a e
  sorted_places (x ∷ xs) sorted k zero a b h e f = absurd (omega arith)
  sorted_places (x ∷ xs) sorted zero (suc l) a b h e f = subst (λ y. IsBefore y b) (some_same x a e) (sorted.0 b (got_in xs l b f))
  sorted_places (x ∷ xs) sorted (suc k) (suc l) a b h e f = sorted_places xs sorted.1 k l a b (omega arith) e f

  in_append : (xs ys : List A) (z : A) → IsIn z (xs ++ ys) → IsIn z xs ⊎ IsIn z ys
  in_append [] ys z i = inr i
  in_append (x ∷ xs) ys z (inl e) = inl (inl e)
  in_append (x ∷ xs) ys z (inr i) = go (in_append xs ys z i)
    where
      go : IsIn z xs ⊎ IsIn z ys → IsIn z (x ∷ xs) ⊎ IsIn z ys
      go (inl j) = inl (inr j)
      go (inr j) = inr j

  in_left : (xs ys : List A) (z : A) → IsIn z xs → IsIn z (xs ++ ys)
  in_left [] ys z i = absurd i
  in_left (x ∷ xs) ys z (inl e) = inl e
  in_left (x ∷ xs) ys z (inr i) = inr (in_left xs ys z i)

  in_right : (xs ys : List A) (z : A) → IsIn z ys → IsIn z (xs ++ ys)
  in_right [] ys z i = i
  in_right (x ∷ xs) ys z i = inr (in_right xs ys z i)

  sorted_append : (xs ys : List A) → IsSorted xs → IsSorted ys → ((a b : A) → IsIn a xs → IsIn b ys → IsBefore a b) → IsSorted (xs ++ ys)
  sorted_append [] ys s t across = t
  sorted_append (x ∷ xs) ys s t across = (first, sorted_append xs ys s.1 t (λ a b i j. across a b (inr i) j))
    where
      first : (y : A) → IsIn y (xs ++ ys) → IsBefore x y
      first y i = go (in_append xs ys y i)
        where
          go : IsIn y xs ⊎ IsIn y ys → IsBefore x y
          go (inl j) = s.0 y j
          go (inr j) = across x y (inl refl) j

  module _ (part : ℕ → List A) where
    pub gather : ℕ → ℕ → List A
    gather start zero = []
    gather start (suc count) = part start ++ gather (suc start) count

    pub gathered : (start count : ℕ) (x : A) → IsIn x (gather start count) → (k : ℕ) × (start ≤ k) × (k < start + count) × IsIn x (part k)
    unfolding gather
    gathered start zero x i = absurd i
    gathered start (suc count) x i = go (in_append (part start) (gather (suc start) count) x i) (λ j. gathered (suc start) count x j)
      where
        go : IsIn x (part start) ⊎ IsIn x (gather (suc start) count) → (IsIn x (gather (suc start) count) → (k : ℕ) × (suc start ≤ k) × (k < suc start + count) × IsIn x (part k)) → (k : ℕ) × (start ≤ k) × (k < start + suc count) × IsIn x (part k)
        go (inl j) rest = (start, omega arith, omega arith, j)
        go (inr j) rest = let r : (k : ℕ) × (suc start ≤ k) × (k < suc start + count) × IsIn x (part k) = rest j in (r.0, omega (arith, r.1), omega (arith, r.2), r.3)

    pub gathers : (start count k : ℕ) (x : A) → start ≤ k → k < start + count → IsIn x (part k) → IsIn x (gather start count)
    unfolding gather
    gathers start zero k x h b i = absurd (omega arith)
    gathers start (suc count) k x h b i = go (cases_eq k start) (λ h' b'. gathers (suc start) count k x h' b' i)
      where
        go : (k ≡ start) ⊎ (k ≡ start → ⊥) → (suc start ≤ k → k < suc start + count → IsIn x (gather (suc start) count)) → IsIn x (part start ++ gather (suc start) count)
        go (inl e) rest = in_left (part start) (gather (suc start) count) x (subst (λ n. IsIn x (part n)) e i)
        go (inr other) rest = in_right (part start) (gather (suc start) count) x (rest (omega arith) (omega arith))

    pub gather_sorted : ((k : ℕ) → IsSorted (part k)) → ((k l : ℕ) (a b : A) → k < l → IsIn a (part k) → IsIn b (part l) → IsBefore a b) → (start count : ℕ) → IsSorted (gather start count)
    unfolding gather
    gather_sorted each across start zero = tt
    gather_sorted each across start (suc count) = sorted_append (part start) (gather (suc start) count) (each start) (gather_sorted each across (suc start) count)
        (λ a b i j. let r : (k : ℕ) × (suc start ≤ k) × (k < suc start + count) × IsIn b (part k) = gathered (suc start) count b j in across start r.0 a b (omega (arith, r.1)) i r.3)
