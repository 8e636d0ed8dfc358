-- What the nodes of the dual of a rule have: the words, links and steps of the rule, at the dual of each label.
use Rattle.std.proofs.Common.{◌≡◌, ℕ, zero, suc, ◌+◌, Bool, true, false, cond, ◌&&◌, not, nat_lt, List, [], ◌∷◌, map, length, Option, Some, None, is_some, slice_get, refl, sym, ap, ap₂, ◌∙◌, arith}
use Rattle.std.specs.List.{Contains, count_by, find, position, position_or_len}
use Rattle.std.specs.Option.{option_and_then, option_map, unwrap_or}
use Rattle.std.specs.Prelude.{◌==◌, ◌||◌}
use Rattle.std.proofs.Math.Path.{fun_ext}
use Rattle.std.proofs.lemmas.List.{length-map}
use Rattle.std.proofs.lemmas.List.Sums.{sum_by-cons}
use Rattle.std.proofs.lemmas.Option.{slice_get-map}
use Rattle.gm_model.specs.declared.rule.Link.{Link}
use Rattle.gm_model.specs.declared.rule.Side.{Side}
use Rattle.gm_model.specs.declared.rule.Side.TheVariants.{Left, Right}
use Rattle.gm_model.specs.declared.word.Letter.{Letter}
use Rattle.gm_model.specs.declared.word.Letter.TheVariants.{At, Gone}
use Rattle.gm_model.specs.Rules.{Rule, RuleNode, first_hook, has_word, hook_word, is_added, is_end, is_label, is_preserved, is_removed, letters, links_on, step, step_by, width, word_at, word_on}
use Rattle.gm_model.specs.Structure.{arcs_at}
use Rattle.gm_dual.specs.Duals.{dual_label, dual_letter, dual_link, dual_node, dual_rule, dual_word}
use Rattle.gm_dual.proofs.LabelLemmas.{dual_same}

-- ---- lists

find_map : {A B : Type 0} (p : B → Bool) (f : A → B) (xs : List A) → find p (map f xs) ≡ option_map f (find (λ x. p (f x)) xs)
find_map p f [] = refl
find_map p f (x ∷ xs) = ap (cond (p (f x)) (Some (f x))) (find_map p f xs) ∙ go (p (f x))
  where
    go : (b : Bool) → cond b (Some (f x)) (option_map f (find (λ x. p (f x)) xs)) ≡ option_map f (cond b (Some x) (find (λ x. p (f x)) xs))
    go true = refl
    go false = refl

count_map : {A B : Type 0} (p : B → Bool) (f : A → B) (xs : List A) → count_by p (map f xs) ≡ count_by (λ x. p (f x)) xs
count_map p f [] = refl
count_map p f (x ∷ xs) = sum_by-cons (λ y. cond (p y) 1 0) (f x) (map f xs) ∙ (ap (λ k. cond (p (f x)) 1 0 + k) (count_map p f xs) ∙ sym (sum_by-cons (λ y. cond (p (f y)) 1 0) x xs))

place_map : {A B : Type 0} (p : B → Bool) (f : A → B) (xs : List A) → position_or_len p (map f xs) ≡ position_or_len (λ x. p (f x)) xs
place_map p f [] = refl
place_map p f (x ∷ xs) = ap (λ k. cond (not (p (f x))) (1 + k) 0) (place_map p f xs)

position_map : {A B : Type 0} (p : B → Bool) (f : A → B) (xs : List A) → position p (map f xs) ≡ position (λ x. p (f x)) xs
position_map p f xs = ap₂ (λ k l. cond (nat_lt k l) (Some k) None) (place_map p f xs) (length-map xs f)

pub is_some_map : {A B : Type 0} (f : A → B) (o : Option A) → is_some (option_map f o) ≡ is_some o
is_some_map f None = refl
is_some_map f (Some x) = refl

pub contains_map : {A B : Type 0} (f : A → B) (xs : List A) (x : A) → Contains xs x → Contains (map f xs) (f x)
contains_map f [] x c = absurd (let k = c.1 in omega arith)
contains_map f (y ∷ ys) x (zero, k, e) = (zero, omega arith, ap f e)
contains_map f (y ∷ ys) x (suc p, k, e) = let c = contains_map f ys x (p, omega (arith, k), e) in (suc c.0, omega (arith, c.1), c.2)

pub contains_from_map : {A B : Type 0} (f : A → B) (xs : List A) (y : B) → Contains (map f xs) y → (x : A) × Contains xs x × (y ≡ f x)
contains_from_map f [] y c = absurd (let k = c.1 in omega arith)
contains_from_map f (x ∷ xs) y (zero, k, e) = (x, (zero, omega arith, refl), sym e)
contains_from_map f (x ∷ xs) y (suc p, k, e) = let c = contains_from_map f xs y (p, omega (arith, k), e) in (c.0, (suc c.1.0, omega (arith, c.1.1), c.1.2), c.2)

-- ---- links and letters

module _ (n : ℕ) where
  end_dual : (x i : ℕ) → (λ link. is_end x i (dual_link n link)) ≡ is_end x (dual_label n i)
  end_dual x i = fun_ext (λ (link : Link). ap (λ b. b && ((link.from == x) || (link.to == x))) (dual_same n link.label i))

  letter_dual : (i : ℕ) → (λ letter. is_label i (dual_letter n letter)) ≡ is_label (dual_label n i)
  letter_dual i = fun_ext go
    where
      go : (letter : Letter) → is_label i (dual_letter n letter) ≡ is_label (dual_label n i) letter
      go (At j) = dual_same n j i
      go Gone = refl

  step_by_dual : (x : ℕ) (o : Option Link) (place : Option ℕ) → step_by x (option_map (dual_link n) o) place ≡ step_by x o place
  step_by_dual x (Some link) place = refl
  step_by_dual x None (Some place) = refl
  step_by_dual x None None = refl

  module _ (rule : Rule) where
    pub word_dual : (side : Side) (x : ℕ) → word_at (dual_rule n rule) side x ≡ option_map (dual_word n) (word_at rule side x)
    word_dual side x = ap (option_and_then (word_on side)) (slice_get-map (dual_node n) rule.nodes x) ∙ go side (slice_get rule.nodes x)
      where
        go : (side : Side) (o : Option RuleNode) → option_and_then (word_on side) (option_map (dual_node n) o) ≡ option_map (dual_word n) (option_and_then (word_on side) o)
        go Left None = refl
        go Right None = refl
        go Left (Some node) = refl
        go Right (Some node) = refl

    pub has_word_dual : (side : Side) (x : ℕ) → has_word (dual_rule n rule) side x ≡ has_word rule side x
    has_word_dual side x = ap is_some (word_dual side x) ∙ is_some_map (dual_word n) (word_at rule side x)

    pub letters_dual : (side : Side) (x : ℕ) → letters (dual_rule n rule) side x ≡ dual_word n (letters rule side x)
    letters_dual side x = ap (λ o. unwrap_or o []) (word_dual side x) ∙ go (word_at rule side x)
      where
        go : (o : Option (List Letter)) → unwrap_or (option_map (dual_word n) o) [] ≡ dual_word n (unwrap_or o [])
        go None = refl
        go (Some word) = refl

    pub links_dual : (side : Side) → links_on (dual_rule n rule) side ≡ map (dual_link n) (links_on rule side)
    links_dual Left = refl
    links_dual Right = refl

    pub preserved_dual : (x : ℕ) → is_preserved (dual_rule n rule) x ≡ is_preserved rule x
    preserved_dual x = ap₂ (λ a b. a && b) (has_word_dual Left x) (has_word_dual Right x)

    pub removed_dual : (x : ℕ) → is_removed (dual_rule n rule) x ≡ is_removed rule x
    removed_dual x = ap₂ (λ a b. a && not b) (has_word_dual Left x) (has_word_dual Right x)

    pub added_dual : (x : ℕ) → is_added (dual_rule n rule) x ≡ is_added rule x
    added_dual x = ap₂ (λ a b. not a && b) (has_word_dual Left x) (has_word_dual Right x)

    pub step_dual : (side : Side) (x i : ℕ) → step (dual_rule n rule) side x i ≡ step rule side x (dual_label n i)
    step_dual side x i = ap₂ (step_by x) link place ∙ step_by_dual x (find (is_end x (dual_label n i)) (links_on rule side)) (position (is_label (dual_label n i)) (letters rule side x))
      where
        link : find (is_end x i) (links_on (dual_rule n rule) side) ≡ option_map (dual_link n) (find (is_end x (dual_label n i)) (links_on rule side))
        link = ap (find (is_end x i)) (links_dual side) ∙ (find_map (is_end x i) (dual_link n) (links_on rule side) ∙ ap (λ p. option_map (dual_link n) (find p (links_on rule side))) (end_dual x i))

        place : position (is_label i) (letters (dual_rule n rule) side x) ≡ position (is_label (dual_label n i)) (letters rule side x)
        place = ap (position (is_label i)) (letters_dual side x) ∙ (position_map (is_label i) (dual_letter n) (letters rule side x) ∙ ap (λ p. position p (letters rule side x)) (letter_dual i))

    pub arcs_dual : (side : Side) (x i : ℕ) → arcs_at (dual_rule n rule) side x i ≡ arcs_at rule side x (dual_label n i)
    arcs_dual side x i = ap₂ (λ a b. a + b) links words
      where
        links : count_by (is_end x i) (links_on (dual_rule n rule) side) ≡ count_by (is_end x (dual_label n i)) (links_on rule side)
        links = ap (count_by (is_end x i)) (links_dual side) ∙ (count_map (is_end x i) (dual_link n) (links_on rule side) ∙ ap (λ p. count_by p (links_on rule side)) (end_dual x i))

        words : count_by (is_label i) (letters (dual_rule n rule) side x) ≡ count_by (is_label (dual_label n i)) (letters rule side x)
        words = ap (count_by (is_label i)) (letters_dual side x) ∙ (count_map (is_label i) (dual_letter n) (letters rule side x) ∙ ap (λ p. count_by p (letters rule side x)) (letter_dual i))

    pub hook_word_dual : hook_word (dual_rule n rule) ≡ dual_word n (hook_word rule)
    hook_word_dual = go (first_hook rule)
      where
        go : (o : Option ℕ) → unwrap_or (option_and_then (word_at (dual_rule n rule) Left) o) [] ≡ dual_word n (unwrap_or (option_and_then (word_at rule Left) o) [])
        go None = refl
        go (Some h) = letters_dual Left h

    pub width_dual : width (dual_rule n rule) ≡ width rule
    width_dual = ap length hook_word_dual ∙ length-map (hook_word rule) (dual_letter n)
