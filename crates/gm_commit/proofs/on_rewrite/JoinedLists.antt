-- Lists one after another: one more, what they contain, and how long they are.
use Rattle.std.proofs.Common.{◌≡◌, ◌≢◌, ℕ, zero, suc, ◌+◌, ◌*◌, ◌<◌, ◌≤◌, List, [], ◌∷◌, ◌++◌, length, Option, Some, None, ap, ◌∙◌, subst, inl, inr, arith, append_assoc, length-append}
use Rattle.std.specs.List.{Contains}
use Rattle.std.proofs.lemmas.Bool.{cases_eq}
use Rattle.std.proofs.lemmas.List.Elements.{Contains-append_left, Contains-append_right, Contains-append_cases}
use Rattle.gm_arena.specs.declared.slot.Slot.{Slot}
use Rattle.gm_commit.specs.inner.InstanceEdits.{as_list, concat_below}
use Rattle.gm_commit.specs.inner.EditLists.{AreDistinct}
use Rattle.gm_commit.proofs.ListMembers.{contains_first, contains_later, contains_either, contains_none}

module _ {A : Type 0} where
  pub concat_next : (f : ℕ → List A) (k : ℕ) → concat_below f k ++ f k ≡ concat_below f (k + 1)
  concat_next f k = let e : suc k ≡ k + 1 = omega arith in ap (concat_below f) e

  pub concat_more : (f : ℕ → List A) (xs : List A) (k : ℕ) → (xs ++ concat_below f k) ++ f k ≡ xs ++ concat_below f (k + 1)
  concat_more f xs k = append_assoc xs (concat_below f k) (f k) ∙ ap (λ ys. xs ++ ys) (concat_next f k)

  -- one more behind what stands there
  pub put_more : (f : ℕ → List A) (start now after item : List A) (k : ℕ) → after ≡ now ++ item → item ≡ f k → now ≡ start ++ concat_below f k → after ≡ start ++ concat_below f (k + 1)
  put_more f start now after item k put is so_far = put ∙ ap (λ xs. now ++ xs) is ∙ ap (λ xs. xs ++ f k) so_far ∙ concat_more f start k

  pub put_next : (f : ℕ → List A) (now after : List A) (k : ℕ) → after ≡ now ++ f k → now ≡ concat_below f k → after ≡ concat_below f (k + 1)
  put_next f now after k put so_far = put ∙ ap (λ xs. xs ++ f k) so_far ∙ concat_next f k

  pub concat_contains : (f : ℕ → List A) (n : ℕ) (x : A) → Contains (concat_below f n) x → (i : ℕ) × (i < n) × Contains (f i) x
  concat_contains f zero x among = absurd (contains_none x among)
  concat_contains f (suc n) x among = elim (Contains-append_cases (concat_below f n) (f n) x among) [
    | inl before ↦ let there = concat_contains f n x before in (there.0, omega (arith, there.1), there.2)
    | inr here ↦ (n, omega arith, here)
  ]

  pub contains_concat : (f : ℕ → List A) (n i : ℕ) (x : A) → i < n → Contains (f i) x → Contains (concat_below f n) x
  contains_concat f zero i x h among = absurd (omega arith)
  contains_concat f (suc n) i x h among = elim (cases_eq i n) [
    | inl e ↦ Contains-append_right (concat_below f n) (f n) x (subst (λ k. Contains (f k) x) e among)
    | inr apart ↦ Contains-append_left (concat_below f n) (f n) x (contains_concat f n i x (omega arith) among)
  ]

  pub list_contains : (o : Option A) (x : A) → Contains (as_list o) x → o ≡ Some x
  list_contains None x among = absurd (contains_none x among)
  list_contains (Some y) x among = elim (contains_either y [] x among) [
    | inl e ↦ ap Some e
    | inr none ↦ absurd (contains_none x none)
  ]

  pub contains_list : (o : Option A) (x : A) → o ≡ Some x → Contains (as_list o) x
  contains_list o x e = rw e (contains_first x [])

  pub length_concat : (f : ℕ → List A) (n most : ℕ) → ((i : ℕ) → length (f i) ≤ most) → length (concat_below f n) ≤ n * most
  length_concat f zero most each = omega arith
  length_concat f (suc n) most each = omega (arith, length-append (concat_below f n) (f n), length_concat f n most each, each n)

  pub length_same : (f : ℕ → List A) (n count : ℕ) → ((i : ℕ) → length (f i) ≡ count) → length (concat_below f n) ≡ n * count
  length_same f zero count each = omega arith
  length_same f (suc n) count each = omega (arith, length-append (concat_below f n) (f n), length_same f n count each, each n)

  pub length_list : (o : Option A) → length (as_list o) ≤ 1
  length_list None = omega arith
  length_list (Some x) = omega arith

-- ---- distinct slots

abbrev pub AreApart : List Slot → List Slot → Type 0
AreApart slots others = (s t : Slot) → Contains slots s → Contains others t → t.at ≢ s.at

distinct_append : (slots others : List Slot) → AreDistinct slots → AreDistinct others → AreApart slots others → AreDistinct (slots ++ others)
distinct_append [] others distinct distinct' apart = distinct'
distinct_append (slot ∷ slots) others distinct distinct' apart = (first, distinct_append slots others distinct.1 distinct' (λ s t among among'. apart s t (contains_later slot slots s among) among'))
  where
    first : (other : Slot) → Contains (slots ++ others) other → other.at ≢ slot.at
    first other among = elim (Contains-append_cases slots others other among) [
      | inl here ↦ distinct.0 other here
      | inr there ↦ apart slot other (contains_first slot slots) there
    ]

pub distinct_concat : (f : ℕ → List Slot) (n : ℕ) → ((i : ℕ) → i < n → AreDistinct (f i)) → ((i j : ℕ) → i < j → j < n → AreApart (f i) (f j)) → AreDistinct (concat_below f n)
distinct_concat f zero each apart = tt
distinct_concat f (suc n) each apart =
    distinct_append (concat_below f n) (f n) (distinct_concat f n (λ i h. each i (omega arith)) (λ i j l h. apart i j l (omega arith))) (each n (omega arith))
    (λ s t among among'. let there = concat_contains f n s among in apart there.0 n there.1 (omega arith) s t there.2 among')

pub distinct_list : (o : Option Slot) → AreDistinct (as_list o)
distinct_list None = tt
distinct_list (Some slot) = (λ other among. absurd (contains_none other among), tt)
