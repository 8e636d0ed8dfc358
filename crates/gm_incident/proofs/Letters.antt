-- Counting letters, and when a word is plain.
use Rattle.std.proofs.Common.{◌≡◌, ◌≢◌, ℕ, ◌+◌, ◌<◌, inl, inr, true, false, eqb, List, length, get_or, set, take, Some, sym, ◌∙◌, ap, arith}
use borrow.Author.Count.{below_more}
use Rattle.std.specs.List.{slice_get, count_by}
use Rattle.std.proofs.lemmas.Bool.{cases_Bool, cases_lt, eqb-true, eqb-false}
use Rattle.std.proofs.lemmas.List.{get_or-set_same, get_or-set_other}
use Rattle.std.proofs.lemmas.List.Sums.{count_by_more_yes, count_by_more_no}
use Rattle.std.proofs.lemmas.Option.{slice_get_within, get_or_from_slice_get}
use Rattle.gm_model.specs.declared.word.Letter.{Letter}
use Rattle.gm_model.specs.declared.word.Letter.TheVariants.{At, Gone}
use Rattle.gm_model.specs.Rules.{is_label}
use Rattle.gm_incident.specs.inner.Words.{StandsBefore}

-- ---- one turn of the loop that counts

pub letter_counted : (word : List Letter) (k i label before : ℕ) (counts : List ℕ) → slice_get word k ≡ Some (At label) → i < length counts →
    get_or counts i 0 ≡ before + count_by (is_label i) (take k word) →
    get_or (set counts label (get_or counts label 0 + 1)) i 0 ≡ before + count_by (is_label i) (take (k + 1) word)
letter_counted word k i label before counts h b held =
    let within : k < length word = slice_get_within word k (At label) h in
    let here : get_or word k (At label) ≡ At label = get_or_from_slice_get word k (At label) (At label) h in
    elim (cases_Bool (eqb label i)) [
      | inl e ↦ (
          let e' : label ≡ i = eqb-true label i e in
          let test : is_label i (get_or word k (At label)) ≡ true = ap (is_label i) here ∙ e in
          let more = count_by_more_yes (is_label i) word k (At label) within test in
          let b' : label < length counts = rw e' b in
          let read : get_or (set counts label (get_or counts label 0 + 1)) i 0 ≡ get_or counts i 0 + 1 = rw (← e') (get_or-set_same counts label (get_or counts label 0 + 1) 0 b') in
          omega (arith, more, read, held))
      | inr e ↦ (
          let ne : i ≢ label = (λ p. eqb-false label i e (sym p)) in
          let test : is_label i (get_or word k (At label)) ≡ false = ap (is_label i) here ∙ e in
          let more = count_by_more_no (is_label i) word k (At label) within test in
          let read = get_or-set_other counts label i (get_or counts label 0 + 1) 0 ne in
          omega (arith, more, read, held))
    ]

pub gap_counted : (word : List Letter) (k i before : ℕ) (counts : List ℕ) → slice_get word k ≡ Some Gone →
    get_or counts i 0 ≡ before + count_by (is_label i) (take k word) → get_or counts i 0 ≡ before + count_by (is_label i) (take (k + 1) word)
gap_counted word k i before counts h held =
    let within : k < length word = slice_get_within word k Gone h in
    let test : is_label i (get_or word k Gone) ≡ false = ap (is_label i) (get_or_from_slice_get word k Gone Gone h) in
    let more = count_by_more_no (is_label i) word k Gone within test in
    omega (arith, more, held)

-- ---- plain words

pub labels_more : (word : List Letter) (k : ℕ) (letter : Letter) → slice_get word k ≡ Some letter → letter ≢ Gone →
    ((m : ℕ) → m < k → slice_get word m ≢ Some Gone) → (m : ℕ) → m < k + 1 → slice_get word m ≢ Some Gone
labels_more word k letter h ne held = below_more (λ m. slice_get word m ≢ Some Gone) k held (λ e. ne (let p : Some letter ≡ Some Gone = sym h ∙ e in cc))

module _ (word : List Letter) (k : ℕ) (letter : Letter) (h : slice_get word k ≡ Some letter) (new : StandsBefore word k letter → ⊥) where
  only_here : (m i : ℕ) → m < k → slice_get word m ≡ Some (At i) → slice_get word k ≡ Some (At i) → ⊥
  only_here m i b p q = let e : At i ≡ letter = (let e' : Some (At i) ≡ Some letter = sym q ∙ h in cc) in new (m, b, p ∙ ap Some e)

  pub distinct_more : ((m m' i : ℕ) → m < k → m' < k → slice_get word m ≡ Some (At i) → slice_get word m' ≡ Some (At i) → m ≡ m') →
      (m m' i : ℕ) → m < k + 1 → m' < k + 1 → slice_get word m ≡ Some (At i) → slice_get word m' ≡ Some (At i) → m ≡ m'
  distinct_more held m m' i b b' p p' = elim (cases_lt m k) [
    | inl lt ↦ elim (cases_lt m' k) [
      | inl lt' ↦ held m m' i lt lt' p p'
      | inr ge' ↦ (let e : m' ≡ k = omega arith in absurd (only_here m i lt p (rw (← e) p')))
    ]
    | inr ge ↦ (let e : m ≡ k = omega arith in elim (cases_lt m' k) [
      | inl lt' ↦ absurd (only_here m' i lt' p' (rw (← e) p))
      | inr ge' ↦ omega arith
    ])
  ]
