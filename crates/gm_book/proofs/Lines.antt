-- One line more: what is printed of the first elements of a list goes on with what is printed of the next.
use Rattle.std.proofs.Common.{◌≡◌, ℕ, ◌+◌, ◌<◌, Bool, cond, List, [], ◌∷◌, ◌++◌, length, take, drop, get_or, map, filter, Option, Some, None, refl, sym, ap, subst, ◌∙◌, append_assoc, eqb, arith}
use Rattle.std.specs.Prelude.{slice_get}
use Rattle.std.specs.List.{flat_map, list_any, AllByRecursion}
use Rattle.std.proofs.lemmas.Grind.{flat_map-append}
use Rattle.std.proofs.lemmas.List.{take_more, append-nil, length-take-le, length-map, get_or-map, drop_more}
use Rattle.std.proofs.lemmas.List.Elements.{filter-append, All-from_recursion}
use Rattle.std.proofs.lemmas.Bool.{ne_eqb, eq-eqb}
use Rattle.std.proofs.lemmas.Option.{get_or_from_slice_get, slice_get_read, slice_get-map}
use Rattle.std.specs.Option.{option_map, unwrap_or}
use Rattle.gm_model.specs.declared.word.Letter.{Letter}
use Rattle.gm_model.specs.declared.rule.Node.{Node}
use Rattle.gm_model.specs.declared.schema.Embed.{Embed}
use Rattle.gm_model.specs.declared.schema.Schema.{Schema}
use Rattle.gm_model.specs.Rules.{Rule, RuleNode, node_of, name_at}
use Rattle.gm_expr.specs.ExprText.{embed_name}
use Rattle.gm_book.specs.Canonical.{letter_text, letters_text, left_lines, right_line}
use Rattle.gm_book.specs.inner.Printing.{left_line}

-- of a text that goes through a list element by element
pub line_more : {X : Type 0} (F : List X → List ℕ) → ((xs ys : List X) → F (xs ++ ys) ≡ F xs ++ F ys) → (xs : List X) (k : ℕ) (d : X) (start text after : List ℕ) → k < length xs
    → text ≡ start ++ F (take k xs) → after ≡ text ++ F (get_or xs k d ∷ []) → after ≡ start ++ F (take (k + 1) xs)
line_more F parts xs k d start text after within before last =
    last ∙ ap (λ bytes. bytes ++ F (get_or xs k d ∷ [])) before ∙ append_assoc start (F (take k xs)) (F (get_or xs k d ∷ []))
    ∙ ap (λ bytes. start ++ bytes) (sym (parts (take k xs) (get_or xs k d ∷ [])) ∙ ap F (sym (take_more xs k d within)))

-- of a line for each element
pub flat_more : {X : Type 0} (f : X → List ℕ) (xs : List X) (k : ℕ) (d : X) (start text after : List ℕ) → k < length xs
    → text ≡ start ++ flat_map f (take k xs) → after ≡ text ++ f (get_or xs k d) → after ≡ start ++ flat_map f (take (k + 1) xs)
flat_more f xs k d start text after within before last =
    line_more (flat_map f) (flat_map-append f) xs k d start text after within before (last ∙ ap (λ bytes. text ++ bytes) (sym (append-nil (f (get_or xs k d)))))

-- ---- letters

-- a letter behind others, or the first
abbrev letters_after : List Letter → Letter → List ℕ
letters_after [] x = letter_text x
letters_after (y ∷ word) x = 32 ∷ letter_text x

letters-append : (word : List Letter) (x : Letter) → letters_text (word ++ x ∷ []) ≡ letters_text word ++ letters_after word x
letters-append [] x = append-nil (letter_text x)
letters-append (y ∷ word) x =
    ap (λ bytes. letter_text y ++ bytes) (flat_map-append (λ z. 32 ∷ letter_text z) word (x ∷ []) ∙ ap (λ bytes. flat_map (λ z. 32 ∷ letter_text z) word ++ bytes) (append-nil (32 ∷ letter_text x)))
    ∙ sym (append_assoc (letter_text y) (flat_map (λ z. 32 ∷ letter_text z) word) (32 ∷ letter_text x))

-- of letters, with a gap before each but the first
pub letters_more : (word : List Letter) (k : ℕ) (x : Letter) (start text gap put after : List ℕ) → k < length word → slice_get word k ≡ Some x
    → text ≡ start ++ letters_text (take k word) → gap ≡ cond (eqb k 0) [] (32 ∷ []) → put ≡ text ++ gap → after ≡ put ++ letter_text x → after ≡ start ++ letters_text (take (k + 1) word)
letters_more word k x start text gap put after within here before is-gap is-put last =
    let taken : take (k + 1) word ≡ take k word ++ x ∷ [] = take_more word k x within ∙ ap (λ y. take k word ++ y ∷ []) (get_or_from_slice_get word k x x here) in
    let behind : letters_after (take k word) x ≡ gap ++ letter_text x = go (take k word) (length-take-le k word (omega arith)) in
    last ∙ ap (λ bytes. bytes ++ letter_text x) (is-put ∙ ap (λ bytes. bytes ++ gap) before) ∙ append_assoc (start ++ letters_text (take k word)) gap (letter_text x)
    ∙ append_assoc start (letters_text (take k word)) (gap ++ letter_text x)
    ∙ ap (λ bytes. start ++ bytes) (ap (λ bytes. letters_text (take k word) ++ bytes) (sym behind) ∙ sym (letters-append (take k word) x) ∙ ap letters_text (sym taken))
  where
    go : (front : List Letter) → length front ≡ k → letters_after front x ≡ gap ++ letter_text x
    go [] long = let none : gap ≡ [] = is-gap ∙ rw (eq-eqb k 0 (sym long)) refl in ap (λ bytes. bytes ++ letter_text x) (sym none)
    go (y ∷ front) long = let one : gap ≡ 32 ∷ [] = is-gap ∙ rw (ne_eqb k 0 (λ e. omega (arith, e, long))) refl in ap (λ bytes. bytes ++ letter_text x) (sym one)

-- ---- nodes

-- of a node's line on the left
pub left_more : (hooks : List ℕ) (nodes : List Node) (k : ℕ) (d : Node) (hook : Bool) (start text after : List ℕ) → k < length nodes → hook ≡ list_any (eqb k) hooks
    → text ++ left_lines hooks k (drop k (map node_of nodes)) ≡ start → after ≡ text ++ left_line (node_of (get_or nodes k d)) hook
    → after ++ left_lines hooks (k + 1) (drop (k + 1) (map node_of nodes)) ≡ start
left_more hooks nodes k d hook start text after within is-hook before last =
    let node = node_of (get_or nodes k d) in
    let long : k < length (map node_of nodes) = omega (arith, length-map nodes node_of) in
    let here : get_or (map node_of nodes) k node ≡ node = get_or-map node_of nodes k d node within in
    let dropped : drop k (map node_of nodes) ≡ node ∷ drop (k + 1) (map node_of nodes) = drop_more (map node_of nodes) k node long ∙ ap (λ n. n ∷ drop (k + 1) (map node_of nodes)) here in
    let rest = left_lines hooks (k + 1) (drop (k + 1) (map node_of nodes)) in
    let one : left_lines hooks k (drop k (map node_of nodes)) ≡ left_line node hook ++ rest = ap (left_lines hooks k) dropped ∙ go node (drop (k + 1) (map node_of nodes)) in
    ap (λ bytes. bytes ++ rest) last ∙ append_assoc text (left_line node hook) rest ∙ ap (λ bytes. text ++ bytes) (sym one) ∙ before
  where
    go : (node : RuleNode) (nodes : List RuleNode) → left_lines hooks k (node ∷ nodes) ≡ left_line node hook ++ left_lines hooks (k + 1) nodes
    go node nodes = by_word node.left refl
      where
        by_word : (word : Option (List Letter)) → node.left ≡ word → left_lines hooks k (node ∷ nodes) ≡ left_line node hook ++ left_lines hooks (k + 1) nodes
        by_word None is = rw is refl
        by_word (Some word) is = rw (is, is-hook) refl

module _ (schema : Schema) (rule : Rule) where
  abbrev lines_where : (RuleNode → Bool) → List RuleNode → List ℕ
  lines_where p nodes = flat_map (right_line schema rule) (filter p nodes)

  right_parts : (p : RuleNode → Bool) (xs ys : List RuleNode) → lines_where p (xs ++ ys) ≡ lines_where p xs ++ lines_where p ys
  right_parts p xs ys = ap (flat_map (right_line schema rule)) (filter-append p xs ys) ∙ flat_map-append (right_line schema rule) (filter p xs) (filter p ys)

  -- of a node's line on the right
  pub right_more : (p : RuleNode → Bool) (nodes : List Node) (k : ℕ) (d : Node) (start text after : List ℕ) → k < length nodes
      → text ≡ start ++ flat_map (right_line schema rule) (filter p (take k (map node_of nodes))) → after ≡ text ++ flat_map (right_line schema rule) (filter p (node_of (get_or nodes k d) ∷ []))
      → after ≡ start ++ flat_map (right_line schema rule) (filter p (take (k + 1) (map node_of nodes)))
  right_more p nodes k d start text after within before last =
      let node = node_of (get_or nodes k d) in
      let here : get_or (map node_of nodes) k node ≡ node = get_or-map node_of nodes k d node within in
      line_more (lines_where p) (right_parts p) (map node_of nodes) k node start text after (omega (arith, length-map nodes node_of, within)) before
      (last ∙ ap (λ n. text ++ lines_where p (n ∷ [])) (sym here))

-- of a line for what each element stands for
pub mapped_more : {X Y : Type 0} (g : X → Y) (f : Y → List ℕ) (xs : List X) (k : ℕ) (d : X) (start text after : List ℕ) → k < length xs
    → text ≡ start ++ flat_map f (take k (map g xs)) → after ≡ text ++ f (g (get_or xs k d)) → after ≡ start ++ flat_map f (take (k + 1) (map g xs))
mapped_more g f xs k d start text after within before last =
    let here : get_or (map g xs) k (g d) ≡ g (get_or xs k d) = get_or-map g xs k d (g d) within in
    flat_more f (map g xs) k (g d) start text after (omega (arith, length-map xs g, within)) before (last ∙ ap (λ y. text ++ f y) (sym here))

-- what holds of all that is stood for holds of one
pub each_at : {X Y : Type 0} (P : Y → Type 0) (g : X → Y) (xs : List X) (k : ℕ) (d : X) → k < length xs → AllByRecursion P (map g xs) → P (g (get_or xs k d))
each_at P g xs k d within all =
    subst P (get_or-map g xs k d (g d) within) (All-from_recursion P (map g xs) all k (g d) (omega (arith, length-map xs g, within)))

-- ---- parts of a line

-- one part more behind what was put since the start
pub put_more : (start before put text a b : List ℕ) → before ≡ start ++ put → text ≡ before ++ a → a ≡ b → text ≡ start ++ (put ++ b)
put_more start before put text a b begun is same = is ∙ ap (λ first. first ++ a) begun ∙ append_assoc start put a ∙ ap (λ part. start ++ (put ++ part)) same

-- the name of a node by its number
pub node_named : (nodes : List Node) (k : ℕ) (node : Node) → k < length nodes → node ≡ get_or nodes k node → node.name ≡ name_at (map node_of nodes) k
node_named nodes k node inside is =
    let there : slice_get (map node_of nodes) k ≡ Some (node_of node) = slice_get-map node_of nodes k ∙ ap (option_map node_of) (slice_get_read nodes (length nodes) k node refl inside is) in
    sym (ap (λ (found : Option RuleNode). unwrap_or (option_map (λ (n : RuleNode). n.name) found) []) there)

-- and that of an embedding
pub embed_named : (embeds : List Embed) (k : ℕ) (embed : Embed) → k < length embeds → embed ≡ get_or embeds k embed → embed.name ≡ embed_name embeds k
embed_named embeds k embed inside is = sym (ap (λ (found : Option Embed). unwrap_or (option_map (λ (e : Embed). e.name) found) []) (slice_get_read embeds (length embeds) k embed refl inside is))
