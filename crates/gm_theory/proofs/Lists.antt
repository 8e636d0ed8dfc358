-- What is counted in a list, what is found there, and at which place.
use Rattle.std.proofs.Common.{◌≡◌, ℕ, zero, suc, ◌<◌, ◌≤◌, ◌⊎◌, Bool, true, false, cond, IsTrue, List, [], ◌∷◌, length, Contains, Some, None, slice_get, refl, sym, ◌∙◌, ap, subst, inl, inr, arith}
use Rattle.std.proofs.lemmas.Bool.{ltb-true, lt-ltb, le-ltb}
use Rattle.std.proofs.lemmas.List.Sums.{sum_by-cons}
use Rattle.std.proofs.lemmas.Option.{slice_get-get_or}
use Rattle.std.specs.List.{find, position, position_or_len, count_by, AllByRecursion}
use Rattle.std.specs.Prelude.{nat_lt}
use Rattle.gm_theory.proofs.Tests.{true_or_false, not_both}

pub some_same : {A : Type 0} (x y : A) → Some x ≡ Some y → x ≡ y
some_same x y e = cc

pub none_some : {A P : Type 0} (x : A) → None ≡ Some x → P
none_some x e = absurd (cc)

-- what a list contains has a place there
pub contained_at : {A : Type 0} (xs : List A) (x : A) (c : Contains xs x) → slice_get xs c.0 ≡ Some x
contained_at xs x (k, b, e) = slice_get-get_or xs k x b ∙ ap Some e

-- and what a place has is an element
pub get_contained : {A : Type 0} (xs : List A) (k : ℕ) (x : A) → slice_get xs k ≡ Some x → Contains xs x
get_contained [] k x e = none_some x e
get_contained (y ∷ xs) zero x e = (0, omega arith, some_same y x e)
get_contained (y ∷ xs) (suc k) x e = let rest : Contains xs x = get_contained xs k x e in (suc rest.0, omega (arith, rest.1), rest.2)

module _ {A : Type 0} where
  pub count_yes : (p : A → Bool) (x : A) (xs : List A) → IsTrue (p x) → count_by p (x ∷ xs) ≡ suc (count_by p xs)
  count_yes p x xs h = sum_by-cons (λ y. cond (p y) 1 0) x xs ∙ rw h (omega arith)

  pub count_no : (p : A → Bool) (x : A) (xs : List A) → p x ≡ false → count_by p (x ∷ xs) ≡ count_by p xs
  count_no p x xs h = sum_by-cons (λ y. cond (p y) 1 0) x xs ∙ rw h (omega arith)

  -- what a search finds is an element that passes
  pub find_passes : (p : A → Bool) (xs : List A) (x : A) → find p xs ≡ Some x → IsTrue (p x)
  find_passes p [] x e = none_some x e
  find_passes p (y ∷ xs) x e = go (true_or_false (p y)) (λ f. find_passes p xs x f)
    where
      go : IsTrue (p y) ⊎ (p y ≡ false) → (find p xs ≡ Some x → IsTrue (p x)) → IsTrue (p x)
      go (inl h) rest = subst (λ z. IsTrue (p z)) (some_same y x (rw h at e)) h
      go (inr h) rest = rest (rw h at e)

  pub find_has : (P : A → Type 0) (p : A → Bool) (xs : List A) (x : A) → AllByRecursion P xs → find p xs ≡ Some x → P x
  find_has P p [] x all e = none_some x e
  find_has P p (y ∷ xs) x all e = go (true_or_false (p y)) (λ f. find_has P p xs x all.1 f)
    where
      go : IsTrue (p y) ⊎ (p y ≡ false) → (find p xs ≡ Some x → P x) → P x
      go (inl h) rest = subst P (some_same y x (rw h at e)) all.0
      go (inr h) rest = rest (rw h at e)

  -- an element that is found counts for each test that it passes
  pub find_counts : (p q : A → Bool) (xs : List A) (x : A) → find p xs ≡ Some x → IsTrue (q x) → 0 < count_by q xs
  find_counts p q [] x e h = none_some x e
  find_counts p q (y ∷ xs) x e h = go (true_or_false (p y)) (true_or_false (q y)) (λ f. find_counts p q xs x f h)
    where
      go : IsTrue (p y) ⊎ (p y ≡ false) → IsTrue (q y) ⊎ (q y ≡ false) → (find p xs ≡ Some x → 0 < count_by q xs) → 0 < count_by q (y ∷ xs)
      go side (inl k) rest = subst (λ n. 0 < n) (sym (count_yes q y xs k)) (omega arith)
      go (inl f) (inr k) rest = not_both (q x) h (subst (λ z. q z ≡ false) (some_same y x (rw f at e)) k)
      go (inr f) (inr k) rest = subst (λ n. 0 < n) (sym (count_no q y xs k)) (rest (rw f at e))

  -- an element that is found is found by each other test that it alone passes
  pub find_alone : (p q : A → Bool) (xs : List A) (x : A) → find p xs ≡ Some x → IsTrue (q x) → count_by q xs ≤ 1 → find q xs ≡ Some x
  find_alone p q [] x e h c = none_some x e
  find_alone p q (y ∷ xs) x e h c = go (true_or_false (p y)) (true_or_false (q y)) (λ f d. find_alone p q xs x f h d)
    where
      go : IsTrue (p y) ⊎ (p y ≡ false) → IsTrue (q y) ⊎ (q y ≡ false) → (find p xs ≡ Some x → count_by q xs ≤ 1 → find q xs ≡ Some x) → find q (y ∷ xs) ≡ Some x
      go (inl f) (inl k) rest = rw (k, some_same y x (rw f at e)) refl
      go (inl f) (inr k) rest = not_both (q x) h (subst (λ z. q z ≡ false) (some_same y x (rw f at e)) k)
      go (inr f) (inl k) rest = absurd (let more : 0 < count_by q xs = find_counts p q xs x (rw f at e) h in omega (arith, count_yes q y xs k))
      go (inr f) (inr k) rest = rw k (rest (rw f at e) (subst (λ n. n ≤ 1) (count_no q y xs k) c))

  pub find_none : (p : A → Bool) (xs : List A) → find p xs ≡ None → count_by p xs ≡ 0
  find_none p [] e = refl
  find_none p (y ∷ xs) e = go (true_or_false (p y)) (λ f. find_none p xs f)
    where
      go : IsTrue (p y) ⊎ (p y ≡ false) → (find p xs ≡ None → count_by p xs ≡ 0) → count_by p (y ∷ xs) ≡ 0
      go (inl h) rest = none_some y (sym (rw h at e))
      go (inr h) rest = count_no p y xs h ∙ rest (rw h at e)

  -- an element passes, and stands at a place, or none does
  pub place_or_none : (p : A → Bool) (xs : List A) → ((count_by p xs ≡ 0) × (position_or_len p xs ≡ length xs)) ⊎ ((0 < count_by p xs) × (position_or_len p xs < length xs))
  place_or_none p [] = inl (refl, refl)
  place_or_none p (y ∷ xs) = go (true_or_false (p y)) (place_or_none p xs)
    where
      go : IsTrue (p y) ⊎ (p y ≡ false) → ((count_by p xs ≡ 0) × (position_or_len p xs ≡ length xs)) ⊎ ((0 < count_by p xs) × (position_or_len p xs < length xs)) →
          ((count_by p (y ∷ xs) ≡ 0) × (position_or_len p (y ∷ xs) ≡ length (y ∷ xs))) ⊎ ((0 < count_by p (y ∷ xs)) × (position_or_len p (y ∷ xs) < length (y ∷ xs)))
      go (inl h) rest = inr (rw (count_yes p y xs h) (omega arith), rw h (omega arith))
      go (inr h) (inl rest) = inl (count_no p y xs h ∙ rest.0, rw h (omega (arith, rest.1)))
      go (inr h) (inr rest) = inr (rw (count_no p y xs h) rest.0, rw h (omega (arith, rest.1)))

  pub position_within : (p : A → Bool) (xs : List A) (m : ℕ) → position p xs ≡ Some m → m < length xs
  position_within p xs m e = go (nat_lt (position_or_len p xs) (length xs)) refl e
    where
      go : (b : Bool) → nat_lt (position_or_len p xs) (length xs) ≡ b → cond b (Some (position_or_len p xs)) None ≡ Some m → m < length xs
      go true h f = let same : position_or_len p xs ≡ m = cc in subst (λ k. k < length xs) same (ltb-true (position_or_len p xs) (length xs) h)
      go false h f = absurd (cc)

  pub position_none : (p : A → Bool) (xs : List A) → position p xs ≡ None → count_by p xs ≡ 0
  position_none p xs e = go (place_or_none p xs)
    where
      go : ((count_by p xs ≡ 0) × (position_or_len p xs ≡ length xs)) ⊎ ((0 < count_by p xs) × (position_or_len p xs < length xs)) → count_by p xs ≡ 0
      go (inl h) = h.0
      go (inr h) = none_some (position_or_len p xs) (sym (rw (lt-ltb (position_or_len p xs) (length xs) h.1) at e))

  pub position_counts : (p : A → Bool) (xs : List A) (m : ℕ) → position p xs ≡ Some m → 0 < count_by p xs
  position_counts p xs m e = go (place_or_none p xs)
    where
      go : ((count_by p xs ≡ 0) × (position_or_len p xs ≡ length xs)) ⊎ ((0 < count_by p xs) × (position_or_len p xs < length xs)) → 0 < count_by p xs
      go (inl h) = none_some m (rw (le-ltb (position_or_len p xs) (length xs) (omega (arith, h.1))) at e)
      go (inr h) = h.0
