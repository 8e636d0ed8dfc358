-- The dual of the dual.
use Rattle.std.proofs.Common.{◌≡◌, ℕ, suc, ◌<◌, ◌≤◌, List, [], ◌∷◌, map, length, get_or, slice_get, Option, Some, None, refl, ap, ap₂, ◌∙◌, arith}
use Rattle.std.specs.List.{Contains}
use Rattle.std.specs.Option.{option_map}
use Rattle.std.proofs.Math.Path.{fun_ext}
use Rattle.std.proofs.lemmas.Option.{slice_get-get_or}
use Rattle.gm_model.specs.declared.expr.DartTerm.{DartTerm}
use Rattle.gm_model.specs.declared.rule.Link.{Link}
use Rattle.gm_model.specs.declared.schema.Schema.{Schema}
use Rattle.gm_model.specs.declared.word.Letter.{Letter}
use Rattle.gm_model.specs.declared.word.Letter.TheVariants.{At, Gone}
use Rattle.gm_model.specs.declared.word.Mask.{Mask}
use Rattle.gm_model.specs.Kinds.{IsMaskInRange, IsTreeInRange, IsTyped}
use Rattle.gm_model.specs.Maps.{IsSchema, Map}
use Rattle.gm_model.specs.Rules.{Assignment, Rule, RuleNode}
use Rattle.gm_model.specs.Structure.{IsInRange}
use Rattle.gm_model.specs.Trees.{Tree, Number, Truth, Param, Field, Same, Count, Sum, Least, Greatest, Unary, Binary, If, MakeVec2, MakeVec3, MakeRgb}
use Rattle.gm_dual.specs.Duals.{dual_assignment, dual_embed, dual_label, dual_letter, dual_link, dual_map, dual_mask, dual_node, dual_rule, dual_schema, dual_term, dual_tree, dual_word}
use Rattle.gm_dual.proofs.LabelLemmas.{dual_twice, duals_twice}
use Rattle.gm_dual.proofs.MaskLemmas.{dual_mask_twice, few_bits}

pub map_twice : {A : Type 0} (f : A → A) (xs : List A) → ((x : A) → Contains xs x → f (f x) ≡ x) → map f (map f xs) ≡ xs
map_twice f [] twice = refl
map_twice f (x ∷ xs) twice = ap₂ (λ y ys. y ∷ ys) (twice x (0, omega arith, refl)) (map_twice f xs (λ y c. twice y (suc c.0, omega (arith, c.1), c.2)))

pub option_twice : {A : Type 0} (f : A → A) (o : Option A) → ((x : A) → o ≡ Some x → f (f x) ≡ x) → option_map f (option_map f o) ≡ o
option_twice f None twice = refl
option_twice f (Some x) twice = ap Some (twice x refl)

-- what stands at a place of a list
pub found : {A : Type 0} (xs : List A) (k : ℕ) → k < length xs → (x : A) × (slice_get xs k ≡ Some x)
found [] k h = absurd (omega arith)
found (x ∷ xs) k h = (get_or (x ∷ xs) k x, slice_get-get_or (x ∷ xs) k x h)

module _ (n : ℕ) where
  pub letter_twice : (letter : Letter) → dual_letter n (dual_letter n letter) ≡ letter
  letter_twice (At i) = ap At (dual_twice n i)
  letter_twice Gone = refl

  pub word_twice : (word : List Letter) → dual_word n (dual_word n word) ≡ word
  word_twice word = map_twice (dual_letter n) word (λ letter c. letter_twice letter)

  pub link_twice : (link : Link) → dual_link n (dual_link n link) ≡ link
  link_twice link = ap (λ i. record { from = link.from; label = i; to = link.to }) (dual_twice n link.label)

  pub term_twice : (d : DartTerm) → dual_term n (dual_term n d) ≡ d
  term_twice d = ap (λ path. record { node = d.node; path = path }) (duals_twice n d.path)

-- a mask in range has eight bits
pub few_in_range : (schema : Schema) (rule : Rule) (mask : Mask) → schema.dim ≤ 7 → IsMaskInRange schema rule mask → mask.bits < 256
few_in_range schema rule mask most labels = few_bits mask (λ i h. let k = labels i h in omega (arith, k, most))

module _ (schema : Schema) (rule : Rule) (most : schema.dim ≤ 7) where
  mask_twice : (o : Mask) → IsMaskInRange schema rule o → dual_mask schema.dim (dual_mask schema.dim o) ≡ o
  mask_twice o h = dual_mask_twice schema.dim most o (few_in_range schema rule o most h)

  pub tree_twice : (tree : Tree) → IsTreeInRange schema rule tree → dual_tree schema.dim (dual_tree schema.dim tree) ≡ tree
  tree_twice (Number k) h = refl
  tree_twice (Truth b) h = refl
  tree_twice (Param k) h = refl
  tree_twice (Field d e) h = ap (λ x. Field x e) (term_twice schema.dim d)
  tree_twice (Same d d') h = ap₂ Same (term_twice schema.dim d) (term_twice schema.dim d')
  tree_twice (Count o d) h = ap₂ Count (mask_twice o h.0) (term_twice schema.dim d)
  tree_twice (Sum o d e) h = ap₂ (λ x y. Sum x y e) (mask_twice o h.0) (term_twice schema.dim d)
  tree_twice (Least o d e) h = ap₂ (λ x y. Least x y e) (mask_twice o h.0) (term_twice schema.dim d)
  tree_twice (Greatest o d e) h = ap₂ (λ x y. Greatest x y e) (mask_twice o h.0) (term_twice schema.dim d)
  tree_twice (Unary op a) h = ap (Unary op) (tree_twice a h)
  tree_twice (Binary op a b) h = ap₂ (Binary op) (tree_twice a h.0) (tree_twice b h.1)
  tree_twice (If c a b) h = let x = tree_twice c h.0 in let y = tree_twice a h.1 in let z = tree_twice b h.2 in λ k. If (x k) (y k) (z k)
  tree_twice (MakeVec2 a b) h = ap₂ MakeVec2 (tree_twice a h.0) (tree_twice b h.1)
  tree_twice (MakeVec3 a b c) h = let x = tree_twice a h.0 in let y = tree_twice b h.1 in let z = tree_twice c h.2 in λ k. MakeVec3 (x k) (y k) (z k)
  tree_twice (MakeRgb a b c) h = let x = tree_twice a h.0 in let y = tree_twice b h.1 in let z = tree_twice c h.2 in λ k. MakeRgb (x k) (y k) (z k)

  module _ (in_range : IsInRange schema rule) (typed : IsTyped schema rule) where
    node_twice : (x : ℕ) (node : RuleNode) → slice_get rule.nodes x ≡ Some node → dual_node schema.dim (dual_node schema.dim node) ≡ node
    node_twice x node is =
        let left = option_twice (dual_word schema.dim) node.left (λ word e. word_twice schema.dim word) in
        let right = option_twice (dual_word schema.dim) node.right (λ word e. word_twice schema.dim word) in
        let sets = map_twice (dual_assignment schema.dim) node.sets assignment_twice in
        λ k. record { name = node.name; left = left k; right = right k; sets = sets k }
      where
        assignment_twice : (s : Assignment) → Contains node.sets s → dual_assignment schema.dim (dual_assignment schema.dim s) ≡ s
        assignment_twice s c =
            let within = (in_range.sets x node s is c).1 in
            let embed = found schema.embeds s.embed within in
            let kind = typed.sets x s.embed s.tree embed.0 (node, is, c) embed.1 in
            ap (λ tree. record { embed = s.embed; tree = tree }) (tree_twice s.tree kind.in_range)

    pub rule_twice : dual_rule schema.dim (dual_rule schema.dim rule) ≡ rule
    rule_twice =
        let nodes = map_twice (dual_node schema.dim) rule.nodes (λ node c. node_twice c.0 node (slice_get-get_or rule.nodes c.0 node c.1 ∙ ap Some c.2)) in
        let left = map_twice (dual_link schema.dim) rule.left_links (λ link c. link_twice schema.dim link) in
        let right = map_twice (dual_link schema.dim) rule.right_links (λ link c. link_twice schema.dim link) in
        let pre = option_twice (dual_tree schema.dim) rule.pre (λ tree e. let kind = typed.pre tree e in tree_twice tree kind.in_range) in
        λ k. record { name = rule.name; params = rule.params; nodes = nodes k; left_links = left k; right_links = right k; hooks = rule.hooks; pre = pre k }

pub schema_twice : (schema : Schema) → schema.dim ≤ 7 → IsSchema schema → dual_schema (dual_schema schema) ≡ schema
schema_twice schema most is =
    let embeds = map_twice (dual_embed schema.dim) schema.embeds (λ embed c.
    let few = few_bits embed.mask (λ i h. let k = is.labels c.0 i embed (slice_get-get_or schema.embeds c.0 embed c.1 ∙ ap Some c.2) h in omega (arith, k, most)) in
    ap (λ mask. record { name = embed.name; mask = mask; kind = embed.kind }) (dual_mask_twice schema.dim most embed.mask few)) in
    λ k. record { dim = schema.dim; embeds = embeds k }

pub map_is_twice : (map : Map) → map.schema.dim ≤ 7 → IsSchema map.schema → dual_map (dual_map map) ≡ map
map_is_twice map most is =
    let schema = schema_twice map.schema most is in
    let alpha : (λ i. map.alpha (dual_label map.schema.dim (dual_label map.schema.dim i))) ≡ map.alpha = fun_ext (λ i. ap map.alpha (dual_twice map.schema.dim i)) in
    λ k. record { schema = schema k; live = map.live; alpha = alpha k; value = map.value; next = map.next }
