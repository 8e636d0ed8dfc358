-- What the items of a side say of a name, one item after another.
use Rattle.std.proofs.Common.{◌≡◌, ℕ, Bool, true, false, List, [], ◌∷◌, ◌++◌, Some, Vec, Global, map, refl, sym}
use Rattle.std.specs.Prelude.{bytes_eq}
use Rattle.gm_model.specs.Tokens.{bytes_of}
use Rattle.gm_model.specs.declared.token.Token.{Token}
use Rattle.gm_model.specs.declared.word.Word.{Word}
use Rattle.gm_forms.specs.declared.form.Item.{Item}
use Rattle.gm_forms.specs.declared.form.Item.TheVariants.{Node, Link}
use Rattle.gm_forms.specs.declared.form.SetForm.{SetForm}
use Rattle.gm_forms.specs.BookText as text
use Rattle.gm_forms.specs.BookText.{number_of, hooks_in, links_in, word_in, sets_in, assignments_in, with_name}
use Rattle.gm_forms.specs.inner.Forms.{item_of, mention_of, set_form_of}
use Rattle.gm_book.specs.inner.FirstNameFault.{least_of, with_items, again_at, unknown_at, least_again, least_unknown, least_set, least_assigned}

module _ (bytes : List ℕ) (items : List text.Item) (item : Item) where
  module _ (name : Token) (word : Word) (hook : Bool) (sets : Vec SetForm Global) (is : item ≡ Node name word hook sets) where
    pub hook_there : (names : List (List ℕ)) (number : ℕ) → hook ≡ true → number ≡ number_of names (mention_of bytes name) → hooks_in names (item_of bytes item ∷ items) ≡ (number ∷ []) ++ hooks_in names items
    hook_there names number marked e = rw (is, marked, e) refl

    pub no_hook : (names : List (List ℕ)) → hook ≡ false → hooks_in names (item_of bytes item ∷ items) ≡ hooks_in names items
    no_hook names plain = rw (is, plain) refl

    pub node_no_link : (names : List (List ℕ)) → links_in names (item_of bytes item ∷ items) ≡ links_in names items
    node_no_link names = rw is refl

    pub node_taken_in : (names : List (List ℕ)) → with_items names (item_of bytes item ∷ items) ≡ with_items (with_name names (bytes_of bytes name)) items
    node_taken_in names = rw is refl

    pub node_again : (names : List (List ℕ)) → least_again names (item_of bytes item ∷ items) ≡ least_of (again_at names (mention_of bytes name)) (least_again (with_name names (bytes_of bytes name)) items)
    node_again names = rw is refl

    pub node_all_known : (names : List (List ℕ)) → least_unknown names (item_of bytes item ∷ items) ≡ least_unknown names items
    node_all_known names = rw is refl

    pub node_names_sets : (known : List (List ℕ)) → least_assigned known (item_of bytes item ∷ items) ≡ least_of (least_set known [] (map (set_form_of bytes) sets.items)) (least_assigned known items)
    node_names_sets known = rw is refl

    pub node_assigns : assignments_in (item_of bytes item ∷ items) ≡ map (set_form_of bytes) sets.items ++ assignments_in items
    node_assigns = rw is refl

    module _ (other : List ℕ) (e : other ≡ bytes_of bytes name) (x : List ℕ) where
      pub word_there : bytes_eq x other ≡ true → word_in (item_of bytes item ∷ items) x ≡ Some word
      word_there same = rw (is, sym e, same) refl

      pub no_word : bytes_eq x other ≡ false → word_in (item_of bytes item ∷ items) x ≡ word_in items x
      no_word differs = rw (is, sym e, differs) refl

      pub sets_there : bytes_eq x other ≡ true → sets_in (item_of bytes item ∷ items) x ≡ map (set_form_of bytes) sets.items
      sets_there same = rw (is, sym e, same) refl

      pub no_sets : bytes_eq x other ≡ false → sets_in (item_of bytes item ∷ items) x ≡ sets_in items x
      no_sets differs = rw (is, sym e, differs) refl

  module _ (from : Token) (label : ℕ) (to : Token) (is : item ≡ Link from label to) where
    pub link_no_hook : (names : List (List ℕ)) → hooks_in names (item_of bytes item ∷ items) ≡ hooks_in names items
    link_no_hook names = rw is refl

    pub link_there : (names : List (List ℕ)) (a b : ℕ) → a ≡ number_of names (mention_of bytes from) → b ≡ number_of names (mention_of bytes to)
        → links_in names (item_of bytes item ∷ items) ≡ (record { from = a; label = label; to = b } ∷ []) ++ links_in names items
    link_there names a b e f = rw (is, e, f) refl

    pub link_no_word : (x : List ℕ) → word_in (item_of bytes item ∷ items) x ≡ word_in items x
    link_no_word x = rw is refl

    pub link_no_sets : (x : List ℕ) → sets_in (item_of bytes item ∷ items) x ≡ sets_in items x
    link_no_sets x = rw is refl

    pub link_not_taken_in : (names : List (List ℕ)) → with_items names (item_of bytes item ∷ items) ≡ with_items names items
    link_not_taken_in names = rw is refl

    pub link_not_again : (names : List (List ℕ)) → least_again names (item_of bytes item ∷ items) ≡ least_again names items
    link_not_again names = rw is refl

    pub link_unknown : (names : List (List ℕ)) → least_unknown names (item_of bytes item ∷ items) ≡ least_of (least_of (unknown_at names (mention_of bytes from)) (unknown_at names (mention_of bytes to))) (least_unknown names items)
    link_unknown names = rw is refl

    pub link_names_no_set : (known : List (List ℕ)) → least_assigned known (item_of bytes item ∷ items) ≡ least_assigned known items
    link_names_no_set known = rw is refl

    pub link_assigns_nothing : assignments_in (item_of bytes item ∷ items) ≡ assignments_in items
    link_assigns_nothing = rw is refl
