-- Two lists without repeats that have the same darts: they have one length, and one sum of components.
use Rattle.std.proofs.Common.{◌≡◌, ℕ, zero, suc, ◌⊎◌, List, [], ◌∷◌, ◌++◌, length, map, Contains, ℤ, ◌+ℤ◌, refl, sym, ◌∙◌, ap, ap₂, subst, inl, inr, arith, length-append}
use Rattle.std.proofs.lemmas.Grind.{get_or_default_zero}
use Rattle.std.proofs.lemmas.Int.{ints}
use Rattle.gm_model.specs.Expressions.{by_component, total}
use Rattle.gm_model.specs.Orbits.{HasNoRepeats, IsListOf}

-- ---- by recursion on the list

abbrev pub IsIn : {A : Type 0} → A → List A → Type 0
IsIn x [] = ⊥
IsIn x (y ∷ ys) = (y ≡ x) ⊎ IsIn x ys

abbrev pub AreDistinct : List ℕ → Type 0
AreDistinct [] = Unit {0}
AreDistinct (x ∷ xs) = (IsIn x xs → ⊥) × AreDistinct xs

pub in_contained : {A : Type 0} (xs : List A) (x : A) → Contains xs x → IsIn x xs
in_contained [] x (k, b, e) = absurd (omega arith)
in_contained (y ∷ ys) x (zero, b, e) = inl e
in_contained (y ∷ ys) x (suc k, b, e) = inr (in_contained ys x (k, omega arith, e))

pub contains_in : {A : Type 0} (xs : List A) (x : A) → IsIn x xs → Contains xs x
contains_in [] x i = absurd i
contains_in (y ∷ ys) x (inl e) = (0, omega arith, e)
contains_in (y ∷ ys) x (inr i) = let rest : Contains ys x = contains_in ys x i in (suc rest.0, omega (arith, rest.1), rest.2)

pub distinct_list : (xs : List ℕ) → HasNoRepeats xs → AreDistinct xs
distinct_list [] h = tt
distinct_list (x ∷ xs) h = (apart, distinct_list xs (λ p q l b e. h (suc p) (suc q) (omega arith) (omega arith) e))
  where
    apart : IsIn x xs → ⊥
    apart i = let c : Contains xs x = contains_in xs x i in h 0 (suc c.0) (omega arith) (omega (arith, c.1)) (sym c.2 ∙ get_or_default_zero xs c.0 x c.1)

-- ---- without one element

pub split_at : (ys : List ℕ) (x : ℕ) → IsIn x ys → (us : List ℕ) × (vs : List ℕ) × (ys ≡ us ++ x ∷ vs)
split_at [] x i = absurd i
split_at (y ∷ ys) x (inl e) = ([], ys, ap (λ z. z ∷ ys) e)
split_at (y ∷ ys) x (inr i) = let rest : (us : List ℕ) × (vs : List ℕ) × (ys ≡ us ++ x ∷ vs) = split_at ys x i in (y ∷ rest.0, rest.1, ap (λ zs. y ∷ zs) rest.2)

pub in_middle : (us vs : List ℕ) (x z : ℕ) → IsIn z (us ++ x ∷ vs) → (x ≡ z) ⊎ IsIn z (us ++ vs)
in_middle [] vs x z i = i
in_middle (u ∷ us) vs x z (inl e) = inr (inl e)
in_middle (u ∷ us) vs x z (inr i) = go (in_middle us vs x z i)
  where
    go : (x ≡ z) ⊎ IsIn z (us ++ vs) → (x ≡ z) ⊎ IsIn z (u ∷ (us ++ vs))
    go (inl e) = inl e
    go (inr j) = inr (inr j)

pub in_around : (us vs : List ℕ) (x z : ℕ) → (x ≡ z) ⊎ IsIn z (us ++ vs) → IsIn z (us ++ x ∷ vs)
in_around [] vs x z i = i
in_around (u ∷ us) vs x z (inl e) = inr (in_around us vs x z (inl e))
in_around (u ∷ us) vs x z (inr (inl e)) = inl e
in_around (u ∷ us) vs x z (inr (inr i)) = inr (in_around us vs x z (inr i))

pub distinct_middle : (us vs : List ℕ) (x : ℕ) → AreDistinct (us ++ x ∷ vs) → (IsIn x (us ++ vs) → ⊥) × AreDistinct (us ++ vs)
distinct_middle [] vs x d = d
distinct_middle (u ∷ us) vs x d = more (distinct_middle us vs x d.1)
  where
    more : (IsIn x (us ++ vs) → ⊥) × AreDistinct (us ++ vs) → (IsIn x (u ∷ (us ++ vs)) → ⊥) × AreDistinct (u ∷ (us ++ vs))
    more rest = (apart, (λ i. d.0 (in_around us vs x u (inr i)), rest.1))
      where
        apart : IsIn x (u ∷ (us ++ vs)) → ⊥
        apart (inl e) = d.0 (in_around us vs x u (inl (sym e)))
        apart (inr i) = rest.0 i

-- ---- what goes from list to list

module _ (R : List ℕ → List ℕ → Type 0) (none : R [] []) (more : (x : ℕ) (xs us vs : List ℕ) → R xs (us ++ vs) → R (x ∷ xs) (us ++ x ∷ vs)) where
  same_members : (xs ys : List ℕ) → AreDistinct xs → AreDistinct ys → ((z : ℕ) → IsIn z xs → IsIn z ys) → ((z : ℕ) → IsIn z ys → IsIn z xs) → R xs ys
  same_members [] [] d d' there back = none
  same_members [] (y ∷ ys) d d' there back = absurd (back y (inl refl))
  same_members (x ∷ xs) ys d d' there back = subst (λ zs. R (x ∷ xs) zs) (sym e) (more x xs us vs (same_members xs (us ++ vs) d.1 apart.1 there' back'))
    where
      parts : (us : List ℕ) × (vs : List ℕ) × (ys ≡ us ++ x ∷ vs)
      parts = split_at ys x (there x (inl refl))

      us : List ℕ
      us = parts.0

      vs : List ℕ
      vs = parts.1

      e : ys ≡ us ++ x ∷ vs
      e = parts.2

      apart : (IsIn x (us ++ vs) → ⊥) × AreDistinct (us ++ vs)
      apart = distinct_middle us vs x (subst AreDistinct e d')

      there' : (z : ℕ) → IsIn z xs → IsIn z (us ++ vs)
      there' z i = go (in_middle us vs x z (subst (IsIn z) e (there z (inr i))))
        where
          go : (x ≡ z) ⊎ IsIn z (us ++ vs) → IsIn z (us ++ vs)
          go (inl f) = absurd (d.0 (subst (λ u. IsIn u xs) (sym f) i))
          go (inr j) = j

      back' : (z : ℕ) → IsIn z (us ++ vs) → IsIn z xs
      back' z i = go (back z (subst (IsIn z) (sym e) (in_around us vs x z (inr i))))
        where
          go : (x ≡ z) ⊎ IsIn z xs → IsIn z xs
          go (inl f) = absurd (apart.0 (subst (λ u. IsIn u (us ++ vs)) (sym f) i))
          go (inr j) = j

  pub related : (P : ℕ → Type 0) (xs ys : List ℕ) → IsListOf P xs → IsListOf P ys → R xs ys
  related P xs ys a b = same_members xs ys (distinct_list xs a.distinct) (distinct_list ys b.distinct)
      (λ z i. in_contained ys z ((b.same z).1 ((a.same z).0 (contains_in xs z i))))
      (λ z i. in_contained xs z ((a.same z).1 ((b.same z).0 (contains_in ys z i))))

-- ---- the sum of components

add_swap : (a b c : List ℤ) → by_component ◌+ℤ◌ a (by_component ◌+ℤ◌ b c) ≡ by_component ◌+ℤ◌ b (by_component ◌+ℤ◌ a c)
add_swap [] [] c = refl
add_swap [] (y ∷ ys) [] = refl
add_swap [] (y ∷ ys) (z ∷ zs) = refl
add_swap (x ∷ xs) [] c = go c
  where
    go : (c : List ℤ) → by_component ◌+ℤ◌ (x ∷ xs) [] ≡ []
    go c = refl
add_swap (x ∷ xs) (y ∷ ys) [] = refl
add_swap (x ∷ xs) (y ∷ ys) (z ∷ zs) = ap₂ ◌∷◌ (omega (arith, ints)) (add_swap xs ys zs)

add_commutes : (a b : List ℤ) → by_component ◌+ℤ◌ a b ≡ by_component ◌+ℤ◌ b a
add_commutes [] [] = refl
add_commutes [] (y ∷ ys) = refl
add_commutes (x ∷ xs) [] = refl
add_commutes (x ∷ xs) (y ∷ ys) = ap₂ ◌∷◌ (omega (arith, ints)) (add_commutes xs ys)

total_swap : (a b : List ℤ) (more : List (List ℤ)) → total (a ∷ b ∷ more) ≡ total (b ∷ a ∷ more)
total_swap a b [] = add_commutes a b
total_swap a b (c ∷ more) = add_swap a b (total (c ∷ more))

module _ (parts : ℕ → List ℤ) where
  abbrev total_of : List ℕ → List ℤ
  total_of xs = total (map parts xs)

  total_front : (x : ℕ) (xs ys : List ℕ) → length xs ≡ length ys → total_of xs ≡ total_of ys → total_of (x ∷ xs) ≡ total_of (x ∷ ys)
  total_front x [] [] l e = refl
  total_front x [] (y ∷ ys) l e = absurd (omega arith)
  total_front x (z ∷ xs) [] l e = absurd (omega arith)
  total_front x (z ∷ xs) (y ∷ ys) l e = ap (by_component ◌+ℤ◌ (parts x)) e

  total_middle : (x : ℕ) (us vs : List ℕ) → total_of (x ∷ (us ++ vs)) ≡ total_of (us ++ x ∷ vs)
  total_middle x [] vs = refl
  total_middle x (u ∷ us) vs = total_swap (parts x) (parts u) (map parts (us ++ vs)) ∙ total_front u (x ∷ (us ++ vs)) (us ++ x ∷ vs) (omega (arith, length-append us vs, length-append us (x ∷ vs))) (total_middle x us vs)

  abbrev HaveOneTotal : List ℕ → List ℕ → Type 0
  HaveOneTotal xs ys = (length xs ≡ length ys) × (total_of xs ≡ total_of ys)

  -- two lists of the darts that have P
  pub one_total : (P : ℕ → Type 0) (xs ys : List ℕ) → IsListOf P xs → IsListOf P ys → HaveOneTotal xs ys
  one_total P xs ys a b = related HaveOneTotal (refl, refl) more P xs ys a b
    where
      more : (x : ℕ) (xs us vs : List ℕ) → HaveOneTotal xs (us ++ vs) → HaveOneTotal (x ∷ xs) (us ++ x ∷ vs)
      more x xs us vs (l, e) = (omega (arith, l, length-append us vs, length-append us (x ∷ vs)), total_front x xs (us ++ vs) l e ∙ total_middle x us vs)
