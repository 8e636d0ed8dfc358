-- Whether an expression that is assigned to an embedding collects, by the assignments of the table's nodes.
use Rattle.std.proofs.Common.{◌≡◌, ℕ, ◌+◌, ◌<◌, ◌≤◌, ◌⊎◌, inl, inr, Bool, true, false, IsTrue, List, length, map, get_or, Option, Some, None, slice_get, refl, sym, ap, subst, ◌∙◌, arith}
use Rattle.std.specs.Option.{option_map}
use Rattle.std.proofs.lemmas.Bool.{cases_lt}
use Rattle.std.proofs.lemmas.Option.{same_Some, slice_get-map, slice_get-get_or, slice_get_within, get_or_from_slice_get}
use Rattle.gm_model.specs.declared.rule.Node.{Node}
use Rattle.gm_model.specs.declared.rule.RuleTable.{RuleTable}
use Rattle.gm_model.specs.declared.rule.Set.{Set}
use Rattle.gm_model.specs.Rules.{Assignment, RuleNode, assignment_of, node_of, rule_of}
use Rattle.gm_model.specs.Trees.{Tree, tree_of}
use Rattle.gm_plan.specs.inner.Collecting.{Collects, CollectsNothing, SetsCollect, collects}

some_mapped : {X Y : Type 0} (f : X → Y) (found : Option X) (y : Y) → option_map f found ≡ Some y → (x : X) × (found ≡ Some x) × (f x ≡ y)
some_mapped f (Some x) y h = (x, refl, cc)
some_mapped f None y h = cc

mapped : {X Y : Type 0} (f : X → Y) (xs : List X) (k : ℕ) (y : Y) → slice_get (map f xs) k ≡ Some y → (x : X) × (slice_get xs k ≡ Some x) × (f x ≡ y)
mapped f xs k y h = some_mapped f (slice_get xs k) y (sym (slice_get-map f xs k) ∙ h)

not_true : (b : Bool) → (IsTrue b → ⊥) → b ≡ false
not_true false none = refl
not_true true none = absurd (none refl)

abbrev assigned : ℕ → Tree → Assignment
assigned e tree = record { embed = e; tree = tree }

-- the assignments of no node of the list collect
abbrev pub NodesCollectNothing : List Node → ℕ → Type 0
NodesCollectNothing nodes e = (x : ℕ) (node : Node) → slice_get nodes x ≡ Some node → SetsCollect node.sets e → ⊥

module _ (table : RuleTable) (e : ℕ) where
  pub some_collects : (x : ℕ) (node : Node) → slice_get table.nodes x ≡ Some node → SetsCollect node.sets e → Collects (rule_of table) e
  some_collects x node at (k, s, found, same, true_there) =
      let tree : Tree = tree_of s.expr in
      let here : slice_get (map node_of table.nodes) x ≡ Some (node_of node) = slice_get-map node_of table.nodes x ∙ ap (option_map node_of) at in
      let set : slice_get (map assignment_of node.sets) k ≡ Some (assigned e tree) = slice_get-map assignment_of node.sets k ∙ ap (option_map assignment_of) found ∙ ap (λ n. Some (assigned n tree)) same in
      (x, tree, (node_of node, here, (k, slice_get_within (map assignment_of node.sets) k _ set, get_or_from_slice_get (map assignment_of node.sets) k _ _ set)), true_there)

  pub none_collects : NodesCollectNothing table.nodes e → CollectsNothing (rule_of table) e
  none_collects none x tree (node, at, (k, within, is)) = not_true (collects tree) (λ there.
      let from = mapped node_of table.nodes x node at in
      let held : node.sets ≡ map assignment_of from.0.sets = ap (λ (n : RuleNode). n.sets) (sym from.2) in
      let found : slice_get (map assignment_of from.0.sets) k ≡ Some (assigned e tree) = ap (λ sets. slice_get sets k) (sym held) ∙ slice_get-get_or node.sets k _ within ∙ ap Some is in
      let set = mapped assignment_of from.0.sets k (assigned e tree) found in
      none x from.0 from.1 (k, set.0, set.1, ap (λ (a : Assignment). a.embed) set.2, subst (λ t. IsTrue (collects t)) (sym (ap (λ (a : Assignment). a.tree) set.2)) there))

-- a node that is read from a slice of the list stands in the list there
pub node_read : (nodes items : List Node) (i : ℕ) (node : Node) → items ≡ nodes → node ≡ get_or items i node → i < length items → slice_get nodes i ≡ Some node
node_read nodes items i node same read within = ap (λ these. slice_get these i) (sym same) ∙ slice_get-get_or items i node within ∙ ap Some (sym read)

-- one node more
pub none_more : (nodes : List Node) (e i : ℕ) (read : Node) → slice_get nodes i ≡ Some read → (SetsCollect read.sets e → ⊥)
    → ((x : ℕ) (node : Node) → x < i → slice_get nodes x ≡ Some node → SetsCollect node.sets e → ⊥) → (x : ℕ) (node : Node) → x < i + 1 → slice_get nodes x ≡ Some node → SetsCollect node.sets e → ⊥
none_more nodes e i read at none before x node less there some = go (cases_lt x i)
  where
    go : (x < i) ⊎ (i ≤ x) → ⊥
    go (inl earlier) = before x node earlier there some
    go (inr last) =
        let same : x ≡ i = omega (arith, less, last) in
        let one : node ≡ read = same_Some node read (sym there ∙ ap (slice_get nodes) same ∙ at) in
        none (subst (λ (n : Node). SetsCollect n.sets e) one some)

-- one assignment more
pub no_set_more : (sets : List Set) (e i : ℕ) (read : Set) → slice_get sets i ≡ Some read → (read.embed ≡ e → collects (tree_of read.expr) ≡ false)
    → ((k : ℕ) (s : Set) → k < i → slice_get sets k ≡ Some s → s.embed ≡ e → collects (tree_of s.expr) ≡ false) → (k : ℕ) (s : Set) → k < i + 1 → slice_get sets k ≡ Some s → s.embed ≡ e → collects (tree_of s.expr) ≡ false
no_set_more sets e i read at none before k s less there of = go (cases_lt k i)
  where
    go : (k < i) ⊎ (i ≤ k) → collects (tree_of s.expr) ≡ false
    go (inl earlier) = before k s earlier there of
    go (inr last) =
        let same : k ≡ i = omega (arith, less, last) in
        let one : s ≡ read = same_Some s read (sym there ∙ ap (slice_get sets) same ∙ at) in
        ap (λ (set : Set). collects (tree_of set.expr)) one ∙ none (sym (ap (λ (set : Set). set.embed) one) ∙ of)
