-- What is read of each element of a list, the numbers of embeddings, and the node to which assignments belong.
use Rattle.std.proofs.Common.{◌≡◌, ℕ, zero, suc, ◌+◌, ◌<◌, Bool, true, false, not, ◌||◌, cond, ltb, List, [], ◌∷◌, ◌++◌, length, get_or, map, take, Option, Some, None, inl, inr, refl, sym, ap, subst, ◌∙◌, arith}
use Rattle.std.specs.Prelude.{is_some, IsTrue, if◌then◌else◌}
use Rattle.std.specs.List.{AllByRecursion, AllZip, Contains, position, position_or_len}
use Rattle.std.specs.Option.{unwrap_or}
use Rattle.std.specs.Str.{bytes_eq}
use Rattle.std.proofs.lemmas.Bool.{cases_Bool, or_parts, lt-ltb, ltb-true}
use Rattle.std.proofs.lemmas.List.{map-append, take_more}
use Rattle.std.proofs.lemmas.List.Elements.{Contains-append_left, Contains-append_right}
use Rattle.std.proofs.lemmas.List.Folds.{list_any-append}
use Rattle.std.proofs.lemmas.Slice.Eq.{bytes_eq-Decides}
use Rattle.gm_model.specs.declared.schema.Embed.{Embed}
use Rattle.gm_model.specs.declared.schema.Schema.{Schema}
use Rattle.gm_model.specs.declared.rule.Link.{Link}
use Rattle.gm_model.specs.declared.rule.Node.{Node}
use Rattle.gm_model.specs.declared.rule.Param.{Param}
use Rattle.gm_model.specs.declared.rule.Side.TheVariants.{Right}
use Rattle.gm_model.specs.Names.{Mention, is_among}
use Rattle.gm_model.specs.Rules.{RuleNode, Assignment}
use Rattle.gm_model.specs.Trees.{Tree}
use Rattle.gm_parse.specs.Meaning.{Names, embed_number}
use Rattle.gm_tree.specs.inner.FirstNames.{first_names}
use Rattle.gm_forms.specs.BookText.{SetForm, Item, NodeItem, LinkItem, RuleForm, Count, no_count, count_after, counted, with_name, nodes_of, sets_in, node_in, links_in, hooks_in, names_for, param_of, MeansSet, MeansPre, MeansRule, IsSet, IsItem, assignments_in}
use Rattle.gm_text.specs.SchemaText.{names_in as names_of_embeds}
use Rattle.gm_forms.proofs.Contained.{contains_here, contains_behind}
use Rattle.gm_book.specs.inner.Building.{IsKnownSet, HasKnownSets}
use Rattle.gm_book.specs.inner.Fitting.{HasExprs}
use Rattle.gm_book.specs.inner.FirstNameFault.{embed_names}

-- ---- element by element

pub each_read : {X A : Type 0} (P : A → Type 0) (f : X → A) (xs : List X) (i : ℕ) (x d : X) → AllByRecursion P (map f xs) → i < length xs → x ≡ get_or xs i d → P (f x)
each_read P f [] i x d all inside is = absurd (omega (arith, inside))
each_read P f (y ∷ xs) zero x d all inside is = subst (λ z. P (f z)) (sym is) all.0
each_read P f (y ∷ xs) (suc i) x d all inside is = each_read P f xs i x d all.1 (omega (arith, inside)) is

pub read_among : {X A : Type 0} (f : X → A) (xs : List X) (i : ℕ) (x d : X) → i < length xs → x ≡ get_or xs i d → Contains (map f xs) (f x)
read_among f [] i x d inside is = absurd (omega (arith, inside))
read_among f (y ∷ xs) zero x d inside is = subst (λ z. Contains (map f (y ∷ xs)) (f z)) (sym is) (contains_here (f y) (map f xs))
read_among f (y ∷ xs) (suc i) x d inside is = contains_behind (f y) (map f xs) (f x) (read_among f xs i x d (omega (arith, inside)) is)

pub zip_push : {A B : Type 0} (R : A → B → Type 0) (xs : List A) (ys : List B) (x : A) (y : B) → AllZip R xs ys → R x y → AllZip R (xs ++ x ∷ []) (ys ++ y ∷ [])
zip_push R [] [] x y all one = (one, tt)
zip_push R [] (b ∷ ys) x y all one = absurd all
zip_push R (a ∷ xs) [] x y all one = absurd all
zip_push R (a ∷ xs) (b ∷ ys) x y all one = (all.0, zip_push R xs ys x y all.1 one)

pub zip_more : {X Y A B : Type 0} (R : A → B → Type 0) (f : X → A) (g : Y → B) (xs : List X) (ys new : List Y) (i : ℕ) (x d : X) (y : Y) → i < length xs → x ≡ get_or xs i d → AllZip R (map f (take i xs)) (map g ys) → R (f x) (g y)
    → new ≡ ys ++ y ∷ [] → AllZip R (map f (take (i + 1) xs)) (map g new)
zip_more R f g xs ys new i x d y inside is all one pushed =
    let behind : map f (take (i + 1) xs) ≡ map f (take i xs) ++ f x ∷ [] =
    ap (map f) (take_more xs i d inside ∙ ap (λ z. take i xs ++ z ∷ []) (sym is)) ∙ map-append f (take i xs) (x ∷ []) in
    let made : map g new ≡ map g ys ++ g y ∷ [] = ap (map g) pushed ∙ map-append g ys (y ∷ []) in
    subst (λ firsts. AllZip R firsts (map g new)) (sym behind) (subst (λ seconds. AllZip R (map f (take i xs) ++ f x ∷ []) seconds) (sym made) (zip_push R (map f (take i xs)) (map g ys) (f x) (g y) all one))

-- ---- numbers

-- the number of what is found among the first ones is its number among all
abbrev IsFirstOf : ℕ → ℕ → ℕ → ℕ → Type 0
IsFirstOf n long all few = (all ≡ few) × (all < long) × (all < n)

first_of_first : {A : Type 0} (test : A → Bool) (n : ℕ) (xs : List A) → position_or_len test (take n xs) < length (take n xs) → IsFirstOf n (length xs) (position_or_len test xs) (position_or_len test (take n xs))
first_of_first test zero xs less = absurd (omega (arith, less))
first_of_first test (suc n) [] less = absurd (omega (arith, less))
first_of_first test (suc n) (x ∷ xs) less = go (test x) (first_of_first test n xs) less
  where
    go : (b : Bool) → (position_or_len test (take n xs) < length (take n xs) → IsFirstOf n (length xs) (position_or_len test xs) (position_or_len test (take n xs)))
        → cond (not b) (1 + position_or_len test (take n xs)) 0 < suc (length (take n xs)) → IsFirstOf (suc n) (suc (length xs)) (cond (not b) (1 + position_or_len test xs) 0) (cond (not b) (1 + position_or_len test (take n xs)) 0)
    go true rest lower = (refl, omega arith, omega arith)
    go false rest lower = let (same, inside, low) = rest (omega (arith, lower)) in (ap (λ k. 1 + k) same, omega (arith, inside), omega (arith, low))

number_known : {A : Type 0} (test : A → Bool) (xs : List A) → IsTrue (is_some (position test xs)) → position_or_len test xs < length xs
number_known test xs some = go (ltb (position_or_len test xs) (length xs)) refl some
  where
    go : (b : Bool) → ltb (position_or_len test xs) (length xs) ≡ b → IsTrue (is_some (cond b (Some (position_or_len test xs)) None)) → position_or_len test xs < length xs
    go true less some = ltb-true (position_or_len test xs) (length xs) less
    go false less some = absurd cc

number_there : {A : Type 0} (test : A → Bool) (xs : List A) → position_or_len test xs < length xs → position test xs ≡ Some (position_or_len test xs)
number_there test xs less = rw (lt-ltb (position_or_len test xs) (length xs) less) refl

-- an embedding that is known among the first ones has its number among all
pub embed_known : (schema : Schema) (params : List Param) (nodes : List Node) (mention : Mention) (number : Option ℕ) → number ≡ position (bytes_eq mention.name) (embed_names schema)
    → IsTrue (is_some (embed_number (first_names schema params nodes) mention)) → (embed_number (first_names schema params nodes) mention ≡ Some (unwrap_or number 0)) × (unwrap_or number 0 < 256)
embed_known schema params nodes mention number is known =
    let test = bytes_eq mention.name in
    let inside : position_or_len test (take 256 (embed_names schema)) < length (take 256 (embed_names schema)) = number_known test (take 256 (embed_names schema)) known in
    let (same, within, low) = first_of_first test 256 (embed_names schema) inside in
    let found : unwrap_or number 0 ≡ position_or_len test (embed_names schema) = ap (λ (n : Option ℕ). unwrap_or n 0) (is ∙ number_there test (embed_names schema) within) in
    (number_there test (take 256 (embed_names schema)) inside ∙ ap Some (sym same ∙ sym found), omega (arith, found, low))

-- ---- nodes with their assignments

-- the assignments of the first node with the name
abbrev pub sets_at : List RuleNode → List ℕ → List Assignment
sets_at [] name = []
sets_at (node ∷ nodes) name = if bytes_eq name node.name then node.sets else sets_at nodes name

-- no name is among those behind it
abbrev AreDifferent : List (List ℕ) → Type 0
AreDifferent [] = Unit {0}
AreDifferent (name ∷ names) = (is_among names name ≡ false) × AreDifferent names

other_bytes : (x y : List ℕ) → bytes_eq x y ≡ false → bytes_eq y x ≡ false
other_bytes x y differ = elim (cases_Bool (bytes_eq y x)) [
  | inl same ↦ absurd (let e : y ≡ x = (bytes_eq-Decides y x).0 same in let back : bytes_eq x y ≡ true = (bytes_eq-Decides x y).1 (sym e) in let clash : false ≡ true = sym differ ∙ back in cc)
  | inr other ↦ other
]

different_more : (names : List (List ℕ)) (name : List ℕ) → AreDifferent names → is_among names name ≡ false → AreDifferent (names ++ name ∷ [])
different_more [] name differ new = (refl, tt)
different_more (other ∷ names) name differ new =
    let parts = or_parts (bytes_eq name other) (is_among names name) new in
    let apart : bytes_eq other name ≡ false = other_bytes name other parts.0 in
    (list_any-append (bytes_eq other) names (name ∷ []) ∙ rw (differ.0, apart) refl, different_more names name differ.1 parts.1)

different_with : (names : List (List ℕ)) (name : List ℕ) → AreDifferent names → AreDifferent (with_name names name)
different_with names name differ = elim (cases_Bool (is_among names name)) [
  | inl known ↦ rw known differ
  | inr new ↦ rw new (different_more names name differ new)
]

different_counted : (items : List Item) (count : Count) → AreDifferent count.nodes → AreDifferent (counted count items).nodes
different_counted [] count differ = differ
different_counted (NodeItem node word hook sets ∷ items) count differ = different_counted items (count_after count (NodeItem node word hook sets)) (different_with count.nodes node.name differ)
different_counted (LinkItem from label to ∷ items) count differ = different_counted items (count_after count (LinkItem from label to)) differ

nodes_differ : (form : RuleForm) → AreDifferent (nodes_of form)
nodes_differ form = different_counted form.right (counted no_count form.left) (different_counted form.left no_count tt)

-- the node of the rule with the name, whose assignments mean what is written
pub record IsAssigned (n : ℕ) (names : Names) (rule : RuleForm) (name : List ℕ) (node : RuleNode) : Type 0 where
  pub sets : AllZip (MeansSet n names) (sets_in rule.right name) node.sets
  pub same : node ≡ node_in rule (λ _. node.sets) name

module _ (n : ℕ) (names : Names) (form : RuleForm) where
  -- an earlier node of another name changes nothing
  nodes_behind : (node : RuleNode) (nodes : List RuleNode) (behind : List (List ℕ)) → is_among behind node.name ≡ false → map (node_in form (sets_at (node ∷ nodes))) behind ≡ map (node_in form (sets_at nodes)) behind
  nodes_behind node nodes [] new = refl
  nodes_behind node nodes (name ∷ behind) new =
      let parts = or_parts (bytes_eq node.name name) (is_among behind node.name) new in
      let apart : bytes_eq name node.name ≡ false = other_bytes node.name name parts.0 in
      rw apart (ap (λ rest. node_in form (sets_at nodes) name ∷ rest) (nodes_behind node nodes behind parts.1))

  nodes_again : (behind : List (List ℕ)) (nodes : List RuleNode) → AllZip (IsAssigned n names form) behind nodes → AreDifferent behind → map (node_in form (sets_at nodes)) behind ≡ nodes
  nodes_again [] [] all differ = refl
  nodes_again [] (node ∷ nodes) all differ = absurd all
  nodes_again (name ∷ behind) [] all differ = absurd all
  nodes_again (name ∷ behind) (node ∷ nodes) all differ =
      let named : node.name ≡ name = ap (λ (x : RuleNode). x.name) all.0.same in
      let here : bytes_eq name node.name ≡ true = (bytes_eq-Decides name node.name).1 (sym named) in
      let first : node_in form (sets_at (node ∷ nodes)) name ≡ node = rw here (sym all.0.same) in
      let later : map (node_in form (sets_at (node ∷ nodes))) behind ≡ nodes =
      nodes_behind node nodes behind (ap (is_among behind) named ∙ differ.0) ∙ nodes_again behind nodes all.1 differ.1 in
      ap (λ x. x ∷ map (node_in form (sets_at (node ∷ nodes))) behind) first ∙ ap (λ rest. node ∷ rest) later

  each_assigned : (behind : List (List ℕ)) (nodes : List RuleNode) → AllZip (IsAssigned n names form) behind nodes → (name : List ℕ) → is_among behind name ≡ true → AllZip (MeansSet n names) (sets_in form.right name) (sets_at nodes name)
  each_assigned [] nodes all name among = absurd cc
  each_assigned (other ∷ behind) [] all name among = absurd all
  each_assigned (other ∷ behind) (node ∷ nodes) all name among =
      let named : node.name ≡ other = ap (λ (x : RuleNode). x.name) all.0.same in
      elim (cases_Bool (bytes_eq name node.name)) [
        | inl same ↦ (let e : name ≡ other = (bytes_eq-Decides name node.name).0 same ∙ named in rw same (subst (λ (x : List ℕ). AllZip (MeansSet n names) (sets_in form.right x) node.sets) (sym e) all.0.sets))
        | inr differ ↦ (
            let apart : bytes_eq name other ≡ false = ap (bytes_eq name) (sym named) ∙ differ in
            let rest : is_among (other ∷ behind) name ≡ is_among behind name = rw apart refl in
            rw differ (each_assigned behind nodes all.1 name (sym rest ∙ among)))
      ]

-- ---- a rule

pub means_rule : (n : ℕ) (embeds : List Embed) (form : RuleForm) (name : List ℕ) (params : List Param) (nodes : List RuleNode) (left right : List Link) (hooks : List ℕ) (pre : Option Tree)
    → name ≡ form.name.name → params ≡ map param_of form.params → AllZip (IsAssigned n (names_for embeds form) form) (nodes_of form) nodes → left ≡ links_in (nodes_of form) form.left → right ≡ links_in (nodes_of form) form.right
    → hooks ≡ hooks_in (nodes_of form) form.left → MeansPre n (names_for embeds form) form.pre pre → MeansRule n embeds form (record { name = name; params = params; nodes = nodes; left_links = left; right_links = right; hooks = hooks; pre = pre })
means_rule n embeds form name params nodes left right hooks pre named declared assigned on_left on_right hooked holds = record {
  sets = sets_at nodes;
  pre = pre;
  each = each_assigned n (names_for embeds form) form (nodes_of form) nodes assigned;
  holds = holds;
  same =
      let again = nodes_again n (names_for embeds form) form (nodes_of form) nodes assigned (nodes_differ form) in
      rw (named, declared, on_left, on_right, hooked) (ap (λ ns. record { name = form.name.name; params = map param_of form.params; nodes = ns; left_links = links_in (nodes_of form) form.left; right_links = links_in (nodes_of form) form.right; hooks = hooks_in (nodes_of form) form.left; pre = pre }) (sym again));
}

-- ---- what is known of assignments

among_number : (names : List (List ℕ)) (name : List ℕ) → is_among names name ≡ true → position_or_len (bytes_eq name) names < length names
among_number [] name among = absurd cc
among_number (other ∷ names) name among = go (bytes_eq name other) among (among_number names name)
  where
    go : (b : Bool) → (b || is_among names name) ≡ true → (is_among names name ≡ true → position_or_len (bytes_eq name) names < length names) → cond (not b) (1 + position_or_len (bytes_eq name) names) 0 < suc (length names)
    go true is rest = omega arith
    go false is rest = omega (arith, rest is)

known_embed : (names : List (List ℕ)) (name : List ℕ) → is_among names name ≡ true → IsTrue (is_some (position (bytes_eq name) names))
known_embed names name among = rw (number_there (bytes_eq name) names (among_number names name among)) refl

module _ (n : ℕ) (embeds : List Embed) (form : RuleForm) where
  known_sets : (sets : List SetForm) → AllByRecursion (IsSet n) sets → ((set : SetForm) → Contains sets set → is_among (names_of_embeds embeds) set.embed.name ≡ true) → AllByRecursion (IsKnownSet n (names_for embeds form)) sets
  known_sets [] are known = tt
  known_sets (set ∷ sets) are known =
      (record { embed = known_embed (names_of_embeds embeds) set.embed.name (known set (contains_here set sets)); value = are.0.1 }, known_sets sets are.1 (λ other there. known other (contains_behind set sets other there)))

  known_items : (items : List Item) → AllByRecursion (IsItem n Right) items → ((set : SetForm) → Contains (assignments_in items) set → is_among (names_of_embeds embeds) set.embed.name ≡ true) → AllByRecursion (HasKnownSets n (names_for embeds form)) items
  known_items [] are known = tt
  known_items (NodeItem node word hook sets ∷ items) are known =
      (known_sets sets are.0.2 (λ set there. known set (Contains-append_left sets (assignments_in items) set there)), known_items items are.1 (λ set there. known set (Contains-append_right sets (assignments_in items) set there)))
  known_items (LinkItem from label to ∷ items) are known = (tt, known_items items are.1 known)

  -- where each embedding that is assigned is known
  pub all_known : ((set : SetForm) → Contains (assignments_in form.right) set → is_among (names_of_embeds embeds) set.embed.name ≡ true) → HasExprs n form → AllByRecursion (HasKnownSets n (names_for embeds form)) form.right
  all_known there exprs = known_items form.right exprs.sets there
