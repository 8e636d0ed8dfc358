-- Which names are among those of a list, as names are taken in.
use Rattle.std.proofs.Common.{◌≡◌, ℕ, ◌+◌, ◌⊎◌, Bool, true, false, ◌||◌, ltb, inl, inr, List, [], ◌∷◌, length, is_some, refl, sym, ap, ◌∙◌, arith}
use Rattle.std.proofs.lemmas.Bool.{cases_Bool, ltb-true, ltb-false, lt-ltb, le-ltb}
use Rattle.std.proofs.lemmas.List.Folds.{list_any-append}
use Rattle.std.proofs.lemmas.Slice.Eq.{bytes_eq-Decides}
use Rattle.std.specs.List.{list_any, position, position_or_len}
use Rattle.std.specs.Str.{bytes_eq}
use Rattle.gm_forms.specs.BookText.{Item, NodeItem, LinkItem, with_name, names_of, nodes_in}
use Rattle.gm_model.specs.Names.{is_among}
use Rattle.gm_book.specs.inner.FirstNameFault.{with_items}

pub same_name : (x y : List ℕ) → bytes_eq x y ≡ true → x ≡ y
same_name x y = (bytes_eq-Decides x y).0

pub own_name : (x : List ℕ) → bytes_eq x x ≡ true
own_name x = (bytes_eq-Decides x x).1 refl

pub or_false : (b : Bool) → b ≡ (b || false)
or_false true = refl
or_false false = refl

pub or_regroup : (a b c : Bool) → ((a || b) || c) ≡ (a || (b || c))
or_regroup true b c = refl
or_regroup false b c = refl

pub among_with : (names : List (List ℕ)) (name x : List ℕ) → is_among (with_name names name) x ≡ (is_among names x || bytes_eq x name)
among_with names name x = elim (cases_Bool (is_among names name)) [
  | inl there ↦ rw there (by there (cases_Bool (bytes_eq x name)))
  | inr absent ↦ rw absent (list_any-append (bytes_eq x) names (name ∷ []) ∙ ap (λ b. is_among names x || b) (sym (or_false (bytes_eq x name))))
]
  where
    by : is_among names name ≡ true → (bytes_eq x name ≡ true) ⊎ (bytes_eq x name ≡ false) → is_among names x ≡ (is_among names x || bytes_eq x name)
    by there (inl same) = let e : is_among names x ≡ true = rw (same_name x name same) there in rw e refl
    by there (inr other) = rw other (or_false (is_among names x))

pub among_items : (items : List Item) (names : List (List ℕ)) (x : List ℕ) → is_among (with_items names items) x ≡ (is_among names x || is_among (names_of (nodes_in items)) x)
among_items [] names x = or_false (is_among names x)
among_items (NodeItem node word hook sets ∷ items) names x =
    among_items items (with_name names node.name) x
    ∙ (ap (λ b. b || is_among (names_of (nodes_in items)) x) (among_with names node.name x) ∙ or_regroup (is_among names x) (bytes_eq x node.name) (is_among (names_of (nodes_in items)) x))
among_items (LinkItem from label to ∷ items) names x = among_items items names x

pub or_true : (b : Bool) → (b || true) ≡ true
or_true true = refl
or_true false = refl

pub or_neither : (a b : Bool) → (a || b) ≡ false → (a ≡ false) × (b ≡ false)
or_neither true b h = cc
or_neither false b h = (refl, h)

-- ---- the number of a name that is among them

module _ {X : Type 0} (test : X → Bool) where
  within_any : (xs : List X) → ltb (position_or_len test xs) (length xs) ≡ list_any test xs
  within_any [] = refl
  within_any (x ∷ xs) = go (within_any xs) (test x) refl
    where
      behind : ltb (1 + position_or_len test xs) (length (x ∷ xs)) ≡ ltb (position_or_len test xs) (length xs)
      behind = elim (cases_Bool (ltb (position_or_len test xs) (length xs))) [
        | inl less ↦ lt-ltb _ _ (omega (arith, ltb-true (position_or_len test xs) (length xs) less)) ∙ sym less
        | inr more ↦ le-ltb _ _ (omega (arith, ltb-false (position_or_len test xs) (length xs) more)) ∙ sym more
      ]

      go : ltb (position_or_len test xs) (length xs) ≡ list_any test xs → (b : Bool) → test x ≡ b → ltb (position_or_len test (x ∷ xs)) (length (x ∷ xs)) ≡ list_any test (x ∷ xs)
      go others true e = rw e (lt-ltb 0 (length (x ∷ xs)) (omega arith))
      go others false e = rw e (behind ∙ others)

  pub position_any : (xs : List X) → is_some (position test xs) ≡ list_any test xs
  position_any xs = go (ltb (position_or_len test xs) (length xs)) refl ∙ within_any xs
    where
      go : (b : Bool) → ltb (position_or_len test xs) (length xs) ≡ b → is_some (position test xs) ≡ ltb (position_or_len test xs) (length xs)
      go true e = rw e refl
      go false e = rw e refl
