-- The labels of a mask, one after another, and which words can be walked along.
use Rattle.std.proofs.Common.{◌≡◌, ℕ, zero, suc, ◌+◌, ◌^◌, ◌<◌, ◌≤◌, Bool, true, false, List, [], ◌∷◌, ◌++◌, IsTrue, Some, cond, length, get_or, map, take, set, slice_get, refl, sym, ap, subst, ◌∙◌, inl, inr, arith}
use Rattle.std.specs.List.{All, Contains, filter}
use Rattle.std.specs.Option.{option_map}
use Rattle.std.specs.Prelude.{◌==◌}
use Rattle.std.proofs.lemmas.Bool.{cases_lt, false≢true}
use Rattle.std.proofs.lemmas.Nat.Bits.{bit_at_above}
use Rattle.std.proofs.lemmas.List.{append-nil, length-map, take_more_set, map_push}
use Rattle.std.proofs.lemmas.List.Elements.{All-map, All-filter, All-from_recursion, filter_more, filter_passes}
use Rattle.std.proofs.lemmas.Option.{slice_get-get_or, slice_get-map, slice_get_within, get_or_from_slice_get}
use Rattle.gm_model.specs.declared.word.Letter.{Letter}
use Rattle.gm_model.specs.declared.word.Letter.TheVariants.{At, Gone}
use Rattle.gm_model.specs.declared.word.Mask.{Mask}
use Rattle.gm_model.specs.Labels.{has}
use Rattle.gm_model.specs.Structure.{IsPlainWord, HasLabelsUpTo}
use Rattle.gm_walk.specs.inner.Seen.{HasLettersOf}
use Rattle.gm_walk.specs.inner.Walks.{IsLabelUpTo, IsWord, labels_of, letters_of}

module _ (mask : Mask) (letters : List Letter) (used index : ℕ) (labels : List ℕ) (within : index < length labels) (front : take used letters ≡ map At (filter (has mask) (take index labels))) where
  -- one more label of the mask
  pub one_more : used < length letters → has mask (get_or labels index 0) ≡ true → take (used + 1) (set letters used (At (get_or labels index 0))) ≡ map At (filter (has mask) (take (index + 1) labels))
  one_more room has_it =
      let x = get_or labels index 0 in
      let more : filter (has mask) (take (index + 1) labels) ≡ filter (has mask) (take index labels) ++ x ∷ [] = filter_more (has mask) labels index 0 within ∙ ap (λ b. filter (has mask) (take index labels) ++ cond b (x ∷ []) []) has_it in
      take_more_set letters used (At x) room ∙ (ap (λ xs. xs ++ At x ∷ []) front ∙ sym (ap (map At) more ∙ map_push At (filter (has mask) (take index labels)) x))

  -- a label that the mask lacks
  pub no_more : has mask (get_or labels index 0) ≡ false → take used letters ≡ map At (filter (has mask) (take (index + 1) labels))
  no_more lacks_it =
      let x = get_or labels index 0 in
      let same : filter (has mask) (take (index + 1) labels) ≡ filter (has mask) (take index labels) = filter_more (has mask) labels index 0 within ∙ (ap (λ b. filter (has mask) (take index labels) ++ cond b (x ∷ []) []) lacks_it ∙ append-nil _) in
      front ∙ sym (ap (map At) same)

-- the letters of a mask with labels up to n are labels up to n
pub is_word : (n : ℕ) (mask : Mask) → ((label : ℕ) → label ≤ 7 → IsTrue (has mask label) → label ≤ n) → IsWord n (letters_of mask)
is_word n mask few = All-map (IsLabelUpTo n) At (labels_of mask) (λ k d h. few (get_or (labels_of mask) k d) (small k d h) (filter_passes (has mask) (0 ∷ 1 ∷ 2 ∷ 3 ∷ 4 ∷ 5 ∷ 6 ∷ 7 ∷ []) k d h))
  where
    small : All (λ label. label ≤ 7) (labels_of mask)
    small = All-filter (has mask) (λ label. label ≤ 7) (0 ∷ 1 ∷ 2 ∷ 3 ∷ 4 ∷ 5 ∷ 6 ∷ 7 ∷ []) (All-from_recursion (λ label. label ≤ 7) (0 ∷ 1 ∷ 2 ∷ 3 ∷ 4 ∷ 5 ∷ 6 ∷ 7 ∷ []) ((omega arith), ((omega arith), ((omega arith), ((omega arith), ((omega arith), ((omega arith), ((omega arith), ((omega arith), tt)))))))))

-- a plain word with labels up to n, as a rule has it, can be walked along
pub plain_is_word : (n : ℕ) (word : List Letter) → IsPlainWord word → HasLabelsUpTo n word → IsWord n word
plain_is_word n word plain labels = λ k d h. go k (get_or word k d) (slice_get-get_or word k d h) (All-from_recursion (λ letter. (i : ℕ) → letter ≡ At i → i ≤ n) word labels k d h)
  where
    go : (k : ℕ) (letter : Letter) → slice_get word k ≡ Some letter → ((i : ℕ) → letter ≡ At i → i ≤ n) → IsLabelUpTo n letter
    go k (At i) e f = f i refl
    go k Gone e f = plain.labels k e

-- ---- the set of a mask

small : (mask : Mask) → mask.bits < 2 ^ 8 → (i : ℕ) → IsTrue (has mask i) → i ≤ 7
small mask few i h = elim (cases_lt i 8) [
  | inl l ↦ omega arith
  | inr l ↦ absurd (false≢true (sym (ap (λ b. b == 1) (bit_at_above mask.bits 8 i few l)) ∙ h))
]

-- labels up to 7 that are up to n are all
pub set_within : (n : ℕ) (mask : Mask) → mask.bits < 2 ^ 8 → ((label : ℕ) → label ≤ 7 → IsTrue (has mask label) → label ≤ n) → (i : ℕ) → IsTrue (has mask i) → i ≤ n
set_within n mask few within i h = within i (small mask few i h) h

passes : (p : ℕ → Bool) (xs : List ℕ) (x : ℕ) → Contains xs x → IsTrue (p x) → Contains (filter p xs) x
passes p [] x c h = absurd (let k = c.1 in omega arith)
passes p (y ∷ ys) x (zero, k, e) h = subst (λ b. Contains (cond b (y ∷ filter p ys) (filter p ys)) x) (sym (ap p e ∙ h)) (zero, omega arith, e)
passes p (y ∷ ys) x (suc q, k, e) h = go (p y) (passes p ys x (q, omega (arith, k), e) h)
  where
    go : (b : Bool) → Contains (filter p ys) x → Contains (cond b (y ∷ filter p ys) (filter p ys)) x
    go true c = (suc c.0, omega (arith, c.1), c.2)
    go false c = c

there : (i : ℕ) → i ≤ 7 → Contains (0 ∷ 1 ∷ 2 ∷ 3 ∷ 4 ∷ 5 ∷ 6 ∷ 7 ∷ []) i
there zero h = (0, omega arith, refl)
there (suc zero) h = (1, omega arith, refl)
there (suc (suc zero)) h = (2, omega arith, refl)
there (suc (suc (suc zero))) h = (3, omega arith, refl)
there (suc (suc (suc (suc zero)))) h = (4, omega arith, refl)
there (suc (suc (suc (suc (suc zero))))) h = (5, omega arith, refl)
there (suc (suc (suc (suc (suc (suc zero)))))) h = (6, omega arith, refl)
there (suc (suc (suc (suc (suc (suc (suc zero))))))) h = (7, omega arith, refl)
there (suc (suc (suc (suc (suc (suc (suc (suc i)))))))) h = absurd (omega arith)

-- the letters of a mask are the labels that it has
pub letters_are : (mask : Mask) → ((i : ℕ) → IsTrue (has mask i) → i ≤ 7) → HasLettersOf (has mask) (letters_of mask)
letters_are mask few = record { has = to; only = from }
  where
    to : (i : ℕ) → IsTrue (has mask i) → (place : ℕ) × (slice_get (letters_of mask) place ≡ Some (At i))
    to i h =
        let c : Contains (labels_of mask) i = passes (has mask) (0 ∷ 1 ∷ 2 ∷ 3 ∷ 4 ∷ 5 ∷ 6 ∷ 7 ∷ []) i (there i (few i h)) h in
        (c.0, slice_get-map At (labels_of mask) c.0 ∙ ap (option_map At) (slice_get-get_or (labels_of mask) c.0 i c.1 ∙ ap Some c.2))

    from : (place : ℕ) (letter : Letter) → slice_get (letters_of mask) place ≡ Some letter → (i : ℕ) × (letter ≡ At i) × IsTrue (has mask i)
    from place letter e =
        let within : place < length (labels_of mask) = omega (arith, slice_get_within (letters_of mask) place letter e, length-map (labels_of mask) At) in
        let i = get_or (labels_of mask) place 0 in
        let is : Some letter ≡ Some (At i) = sym e ∙ (slice_get-map At (labels_of mask) place ∙ ap (option_map At) (slice_get-get_or (labels_of mask) place 0 within)) in
        (i, some_same letter (At i) is, filter_passes (has mask) (0 ∷ 1 ∷ 2 ∷ 3 ∷ 4 ∷ 5 ∷ 6 ∷ 7 ∷ []) place 0 within)
      where
        some_same : (x y : Letter) → Some x ≡ Some y → x ≡ y
        some_same x y e = cc

-- and those of a word that is its letters
pub letters_of_word : (mask : Mask) (word : List Letter) (n : ℕ) → n ≤ 7 → ((i : ℕ) → IsTrue (has mask i) → i ≤ n) → word ≡ letters_of mask → HasLettersOf (has mask) word
letters_of_word mask word n most few is = subst (HasLettersOf (has mask)) (sym is) (letters_are mask (λ i h. let k = few i h in omega (arith, k, most)))

-- ---- its letters

pub is_letter : (n : ℕ) (word : List Letter) → IsWord n word → (l : ℕ) (letter : Letter) → slice_get word l ≡ Some letter → IsLabelUpTo n letter
is_letter n word is l letter e = subst (IsLabelUpTo n) (get_or_from_slice_get word l letter letter e) (is l letter (slice_get_within word l letter e))

pub two_labels : (n first second : ℕ) (word : List Letter) → IsWord n word → word ≡ At first ∷ At second ∷ [] → (first ≤ n) × (second ≤ n)
two_labels n first second word is two =
    let both = subst (IsWord n) two is in
    (both 0 (At first) (omega arith), both 1 (At second) (omega arith))
