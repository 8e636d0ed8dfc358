-- What the steps of an accepted rule's nodes say of its links and words.
use Rattle.std.proofs.Common.{◌≡◌, ℕ, zero, suc, ◌<◌, ◌≤◌, ◌⊎◌, Bool, false, IsTrue, List, [], ◌∷◌, length, Contains, Some, None, slice_get, eqb, refl, sym, ◌∙◌, ap, ap₂, subst, inl, inr, arith}
use Rattle.std.proofs.lemmas.Bool.{cases_lt, eq-eqb, eqb-true, lt-ltb, le-ltb}
use Rattle.std.proofs.lemmas.List.Elements.{recursion_from_All, Contains-get_or}
use Rattle.std.specs.List.{find, position, position_or_len, count_by}
use Rattle.gm_model.specs.declared.rule.Link.{Link}
use Rattle.gm_model.specs.declared.rule.Side.{Side}
use Rattle.gm_model.specs.declared.schema.Schema.{Schema}
use Rattle.gm_model.specs.declared.step.Step.TheVariants.{Exp, Imp}
use Rattle.gm_model.specs.declared.word.Letter.{Letter}
use Rattle.gm_model.specs.declared.word.Letter.TheVariants.{At, Gone}
use Rattle.gm_model.specs.Rules.{Rule, has_word, letters, links_on, link_from, is_end, is_label, other_end, step, step_by, IsLinked}
use Rattle.gm_model.specs.Structure.{IsInRange, HasIncidence, HasOnce}
use Rattle.gm_theory.proofs.RuleLinks.{contains_counts, linked_in_range, linked_step}
use Rattle.gm_theory.proofs.Lists.{get_contained, some_same, none_some, count_yes, count_no, find_passes, find_has}
use Rattle.gm_theory.proofs.RuleSteps.{end_parts, step_link, step_place, once}
use Rattle.gm_theory.proofs.Tests.{true_or_false, not_both}

-- the steps of a rule's nodes say what its links and words are
pub record IsReadOff (n : ℕ) (rule : Rule) : Type 0 where
  pub link : (side : Side) (x i y : ℕ) → IsTrue (has_word rule side x) → i ≤ n → IsLinked (links_on rule side) x i y → step rule side x i ≡ Exp y
  pub letter : (side : Side) (x i m : ℕ) → IsTrue (has_word rule side x) → i ≤ n → slice_get (letters rule side x) m ≡ Some (At i) → step rule side x i ≡ Imp m
  pub linked : (side : Side) (x i y : ℕ) → step rule side x i ≡ Exp y → IsLinked (links_on rule side) x i y
  pub lettered : (side : Side) (x i m : ℕ) → step rule side x i ≡ Imp m → slice_get (letters rule side x) m ≡ Some (At i)
  pub end : (side : Side) (x i y : ℕ) → IsLinked (links_on rule side) x i y → IsTrue (has_word rule side y)

-- ---- lists

module _ {A : Type 0} (p : A → Bool) where
  none_found : (xs : List A) → count_by p xs ≡ 0 → find p xs ≡ None
  none_found [] c = refl
  none_found (y ∷ xs) c = go (true_or_false (p y)) (λ d. none_found xs d)
    where
      go : IsTrue (p y) ⊎ (p y ≡ false) → (count_by p xs ≡ 0 → find p xs ≡ None) → find p (y ∷ xs) ≡ None
      go (inl t) further = absurd (omega (arith, count_yes p y xs t))
      go (inr f) further = rw f (further (sym (count_no p y xs f) ∙ c))

  found_contained : (xs : List A) (x : A) → find p xs ≡ Some x → Contains xs x
  found_contained xs x e = find_has (Contains xs) p xs x (recursion_from_All (Contains xs) xs (λ k d h. Contains-get_or xs k d h)) e

-- ---- letters

letter_same : (l : Letter) (i : ℕ) → IsTrue (is_label i l) → l ≡ At i
letter_same (At j) i h = ap At (eqb-true j i h)
letter_same Gone i h = not_both false h refl

own_label : (i : ℕ) → IsTrue (is_label i (At i))
own_label i = eq-eqb i i refl

first_place : (i : ℕ) (word : List Letter) → position_or_len (is_label i) word < length word → slice_get word (position_or_len (is_label i) word) ≡ Some (At i)
first_place i [] h = absurd (omega arith)
first_place i (l ∷ word) h = go (true_or_false (is_label i l)) (λ k. first_place i word k)
  where
    go : IsTrue (is_label i l) ⊎ (is_label i l ≡ false) → (position_or_len (is_label i) word < length word → slice_get word (position_or_len (is_label i) word) ≡ Some (At i)) → slice_get (l ∷ word) (position_or_len (is_label i) (l ∷ word)) ≡ Some (At i)
    go (inl t) further = rw t (ap Some (letter_same l i t))
    go (inr f) further =
        let more : position_or_len (is_label i) (l ∷ word) ≡ suc (position_or_len (is_label i) word) = rw f (omega arith) in
        subst (λ k. slice_get (l ∷ word) k ≡ Some (At i)) (sym more) (further (omega arith))

placed : (i : ℕ) (word : List Letter) (m : ℕ) → position (is_label i) word ≡ Some m → slice_get word m ≡ Some (At i)
placed i word m e = go (cases_lt (position_or_len (is_label i) word) (length word))
  where
    go : (position_or_len (is_label i) word < length word) ⊎ (length word ≤ position_or_len (is_label i) word) → slice_get word m ≡ Some (At i)
    go (inl h) = subst (λ k. slice_get word k ≡ Some (At i)) (some_same (position_or_len (is_label i) word) m (rw (lt-ltb (position_or_len (is_label i) word) (length word) h) at e)) (first_place i word h)
    go (inr h) = none_some m (rw (le-ltb (position_or_len (is_label i) word) (length word) h) at e)

letter_counts : (i : ℕ) (word : List Letter) (m : ℕ) → slice_get word m ≡ Some (At i) → 0 < count_by (is_label i) word
letter_counts i word m e = contains_counts (is_label i) word (At i) (get_contained word m (At i) e) (own_label i)

only_place : (i : ℕ) (word : List Letter) (m : ℕ) → slice_get word m ≡ Some (At i) → count_by (is_label i) word ≤ 1 → (position_or_len (is_label i) word ≡ m) × (m < length word)
only_place i [] m e c = none_some (At i) e
only_place i (l ∷ word) zero e c = let t : IsTrue (is_label i l) = subst (λ k. IsTrue (is_label i k)) (sym (some_same l (At i) e)) (own_label i) in (rw t refl, omega arith)
only_place i (l ∷ word) (suc m) e c = go (true_or_false (is_label i l)) (λ d. only_place i word m e d)
  where
    go : IsTrue (is_label i l) ⊎ (is_label i l ≡ false) → (count_by (is_label i) word ≤ 1 → (position_or_len (is_label i) word ≡ m) × (m < length word)) → (position_or_len (is_label i) (l ∷ word) ≡ suc m) × (suc m < length (l ∷ word))
    go (inl t) further = absurd (omega (arith, letter_counts i word m e, count_yes (is_label i) l word t))
    go (inr f) further = let rest : (position_or_len (is_label i) word ≡ m) × (m < length word) = further (subst (λ n. n ≤ 1) (count_no (is_label i) l word f) c) in (rw f (omega (arith, rest.0)), omega (arith, rest.1))

place_of : (i : ℕ) (word : List Letter) (m : ℕ) → slice_get word m ≡ Some (At i) → count_by (is_label i) word ≤ 1 → position (is_label i) word ≡ Some m
place_of i word m e c = let o : (position_or_len (is_label i) word ≡ m) × (m < length word) = only_place i word m e c in
    rw (o.0, lt-ltb m (length word) o.1) refl

-- ---- links and letters

link_same : (l : Link) (x i y : ℕ) → l.from ≡ x → l.label ≡ i → l.to ≡ y → l ≡ link_from x i y
link_same l x i y e f g = ap (λ z. link_from z l.label l.to) e ∙ ap (λ z. link_from x z l.to) f ∙ ap (link_from x i) g

linked_by : (links : List Link) (x i y : ℕ) (l : Link) → Contains links l → IsTrue (is_end x i l) → other_end x l ≡ y → IsLinked links x i y
linked_by links x i y l c h o = go (end_parts x i l h)
  where
    go : (l.label ≡ i) × ((l.from ≡ x) ⊎ ((l.to ≡ x) × (eqb l.from x ≡ false))) → IsLinked links x i y
    go (e, inl f) = let to : l.to ≡ y = (rw (eq-eqb l.from x f) at o) in inl (subst (Contains links) (link_same l x i y f e to) c)
    go (e, inr (f, g)) = let from : l.from ≡ y = (rw g at o) in inr (subst (Contains links) (link_same l y i x from e f) c)

-- a link step of x is that of a link
pub step_linked : (rule : Rule) (side : Side) (x i y : ℕ) → step rule side x i ≡ Exp y → IsLinked (links_on rule side) x i y
step_linked rule side x i y e =
    let parts : (l : Link) × (find (is_end x i) (links_on rule side) ≡ Some l) × (other_end x l ≡ y) = step_link x y (find (is_end x i) (links_on rule side)) (position (is_label i) (letters rule side x)) e in
    linked_by (links_on rule side) x i y parts.0 (found_contained (is_end x i) (links_on rule side) parts.0 parts.1) (find_passes (is_end x i) (links_on rule side) parts.0 parts.1) parts.2

module _ (schema : Schema) (rule : Rule) (in_range : IsInRange schema rule) (incidence : HasIncidence schema.dim rule) where
  -- a letter is a step
  pub letter_step : (side : Side) (x i m : ℕ) → IsTrue (has_word rule side x) → i ≤ schema.dim → slice_get (letters rule side x) m ≡ Some (At i) → step rule side x i ≡ Imp m
  letter_step side x i m h b e =
      let one : HasOnce rule side x i = once schema rule in_range incidence side x i h b in
      let some : 0 < count_by (is_label i) (letters rule side x) = letter_counts i (letters rule side x) m e in
      let no_link : find (is_end x i) (links_on rule side) ≡ None = none_found (is_end x i) (links_on rule side) (omega arith) in
      let at_place : position (is_label i) (letters rule side x) ≡ Some m = place_of i (letters rule side x) m e (omega arith) in
      ap₂ (step_by x) no_link at_place

  lettered : (side : Side) (x i m : ℕ) → step rule side x i ≡ Imp m → slice_get (letters rule side x) m ≡ Some (At i)
  lettered side x i m e = placed i (letters rule side x) m (step_place x m (find (is_end x i) (links_on rule side)) (position (is_label i) (letters rule side x)) e).1

  pub read_off : IsReadOff schema.dim rule
  read_off = record {
    link = λ side x i y w h l. linked_step schema rule in_range incidence side x i y l;
    letter = letter_step;
    linked = step_linked rule;
    lettered = lettered;
    end = λ side x i y l. (linked_in_range schema rule in_range incidence side x i y l).1;
  }
