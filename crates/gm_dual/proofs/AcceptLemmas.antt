-- The dual of an accepted rule is accepted.
use Rattle.std.proofs.Common.{◌≡◌, ℕ, ◌<◌, ◌≤◌, IsTrue, List, [], ◌∷◌, map, length, Option, Some, None, slice_get, refl, sym, ap, subst, ◌∙◌, inl, inr, arith}
use Rattle.std.specs.List.{AllByRecursion, Contains}
use Rattle.std.specs.Option.{option_and_then, option_map}
use Rattle.std.proofs.lemmas.List.{length-map}
use Rattle.std.proofs.lemmas.Option.{slice_get-map}
use Rattle.gm_arena.proofs.InsideLemmas.{some_from_map}
use Rattle.gm_model.specs.declared.expr.DartTerm.{DartTerm}
use Rattle.gm_model.specs.declared.rule.Link.{Link}
use Rattle.gm_model.specs.declared.rule.Side.{Side}
use Rattle.gm_model.specs.declared.rule.Side.TheVariants.{Left, Right}
use Rattle.gm_model.specs.declared.schema.Embed.{Embed}
use Rattle.gm_model.specs.declared.schema.Schema.{Schema}
use Rattle.gm_model.specs.declared.value.Kind.{Kind}
use Rattle.gm_model.specs.declared.word.Letter.{Letter}
use Rattle.gm_model.specs.declared.word.Letter.TheVariants.{At, Gone}
use Rattle.gm_model.specs.declared.word.Mask.{Mask}
use Rattle.gm_model.specs.Kinds.{HasKind, IsMaskInRange, IsTermInRange, IsTreeInRange, IsTyped, embed_kind, only_int, param_kinds, sum_kind, tree_kind}
use Rattle.gm_model.specs.Orbits.{IsPathIn}
use Rattle.gm_model.specs.Rules.{Assignment, Assigns, IsLinked, Rule, RuleNode, has_word, letters, link_from, links_on}
use Rattle.gm_model.specs.Structure.{HasLabelsUpTo, IsInRange, IsLinkInRange, Leads, any_label}
use Rattle.gm_model.specs.Trees.{Tree, Number, Truth, Param, Field, Same, Count, Sum, Least, Greatest, Unary, Binary, If, MakeVec2, MakeVec3, MakeRgb}
use Rattle.gm_dual.specs.Duals.{dual_assignment, dual_embed, dual_label, dual_link, dual_mask, dual_node, dual_rule, dual_schema, dual_term, dual_tree, dual_word}
use Rattle.gm_dual.proofs.LabelLemmas.{dual_most}
use Rattle.gm_dual.proofs.MaskLemmas.{dual_labels}
use Rattle.gm_dual.proofs.RuleLemmas.{contains_from_map, contains_map, has_word_dual, letters_dual, links_dual}
use Rattle.gm_dual.proofs.SoundLemmas.{embed_from_dual}
use Rattle.gm_dual.proofs.TwiceLemmas.{few_in_range}

-- ---- links

module _ (n : ℕ) (links : List Link) where
  linked_dual : (x i y : ℕ) → IsLinked links x i y → IsLinked (map (dual_link n) links) x (dual_label n i) y
  linked_dual x i y (inl c) = inl (contains_map (dual_link n) links (link_from x i y) c)
  linked_dual x i y (inr c) = inr (contains_map (dual_link n) links (link_from y i x) c)

  pub leads_dual : (path : List ℕ) (x y : ℕ) → Leads links x path y → Leads (map (dual_link n) links) x (map (dual_label n) path) y
  leads_dual [] x y e = e
  leads_dual (i ∷ path) x y (z, one, more) = (z, linked_dual x i z one, leads_dual path z y more)

pub any_path : (path : List ℕ) → IsPathIn any_label path
any_path [] = tt
any_path (i ∷ path) = (refl, any_path path)

-- ---- in range

labels_up : (n : ℕ) (word : List Letter) → HasLabelsUpTo n word → HasLabelsUpTo n (dual_word n word)
labels_up n [] h = tt
labels_up n (At i ∷ word) h = ((λ j e. up j e), labels_up n word h.1)
  where
    up : (j : ℕ) → At (dual_label n i) ≡ At j → j ≤ n
    up j e = subst (λ k. k ≤ n) (same (dual_label n i) j e) (dual_most n i (h.0 i refl))
      where
        same : (a b : ℕ) → At a ≡ At b → a ≡ b
        same a b e = cc
labels_up n (Gone ∷ word) h = ((λ j e. absurd (cc)), labels_up n word h.1)

module _ (schema : Schema) (rule : Rule) (most : schema.dim ≤ 7) where
  has_to : (side : Side) (x : ℕ) → IsTrue (has_word rule side x) → IsTrue (has_word (dual_rule schema.dim rule) side x)
  has_to side x h = has_word_dual schema.dim rule side x ∙ h

  has_from : (side : Side) (x : ℕ) → IsTrue (has_word (dual_rule schema.dim rule) side x) → IsTrue (has_word rule side x)
  has_from side x h = sym (has_word_dual schema.dim rule side x) ∙ h

  node_from : (x : ℕ) (node : RuleNode) → slice_get (map (dual_node schema.dim) rule.nodes) x ≡ Some node → (old : RuleNode) × (slice_get rule.nodes x ≡ Some old) × (node ≡ dual_node schema.dim old)
  node_from x node is = some_from_map (dual_node schema.dim) (slice_get rule.nodes x) node (sym (slice_get-map (dual_node schema.dim) rule.nodes x) ∙ is)

  links_range : (side : Side) (links : List Link) → AllByRecursion (IsLinkInRange schema.dim rule side) links → AllByRecursion (IsLinkInRange schema.dim (dual_rule schema.dim rule) side) (map (dual_link schema.dim) links)
  links_range side [] h = tt
  links_range side (link ∷ links) h = (record { label = dual_most schema.dim link.label h.0.label; from = has_to side link.from h.0.from; to = has_to side link.to h.0.to }, links_range side links h.1)

  hooks_range : (hooks : List ℕ) → AllByRecursion (λ h. IsTrue (has_word rule Left h)) hooks → AllByRecursion (λ h. IsTrue (has_word (dual_rule schema.dim rule) Left h)) hooks
  hooks_range [] h = tt
  hooks_range (x ∷ hooks) h = (has_to Left x h.0, hooks_range hooks h.1)

  pub range_dual : IsInRange schema rule → IsInRange (dual_schema schema) (dual_rule schema.dim rule)
  range_dual r = record {
    words = λ side x. subst (HasLabelsUpTo schema.dim) (sym (letters_dual schema.dim rule side x)) (labels_up schema.dim (letters rule side x) (r.words side x));
    some_word = λ x h. elim (r.some_word x (omega (arith, h, length-map rule.nodes (dual_node schema.dim)))) [ inl k ↦ inl (has_to Left x k) | inr k ↦ inr (has_to Right x k) ];
    left_first = λ x y less h. has_to Left x (r.left_first x y less (has_from Left y h));
    links = λ side. subst (AllByRecursion (IsLinkInRange schema.dim (dual_rule schema.dim rule) side)) (sym (links_dual schema.dim rule side)) (links_range side (links_on rule side) (r.links side));
    hooks = hooks_range rule.hooks r.hooks;
    hooks_differ = r.hooks_differ;
    sets = λ x node s is c.
        let old = node_from x node is in
        let s0 = contains_from_map (dual_assignment schema.dim) old.0.sets s (subst (λ (k : RuleNode). Contains k.sets s) old.2 c) in
        let both = r.sets x old.0 s0.0 old.1 s0.1 in
        (has_to Right x both.0, omega (arith, both.1, ap (λ (k : Assignment). k.embed) s0.2, length-map schema.embeds (dual_embed schema.dim)));
    sets_differ = λ x node k l s t is at also same.
        let old = node_from x node is in
        let s0 = some_from_map (dual_assignment schema.dim) (slice_get old.0.sets k) s (sym (slice_get-map (dual_assignment schema.dim) old.0.sets k) ∙ subst (λ (m : RuleNode). slice_get m.sets k ≡ Some s) old.2 at) in
        let t0 = some_from_map (dual_assignment schema.dim) (slice_get old.0.sets l) t (sym (slice_get-map (dual_assignment schema.dim) old.0.sets l) ∙ subst (λ (m : RuleNode). slice_get m.sets l ≡ Some t) old.2 also) in
        r.sets_differ x old.0 k l s0.0 t0.0 old.1 s0.1 t0.1 (ap (λ (m : Assignment). m.embed) (sym s0.2) ∙ (same ∙ ap (λ (m : Assignment). m.embed) t0.2));
  }

  -- ---- kinds

  path_up : (path : List ℕ) → AllByRecursion (λ i. i ≤ schema.dim) path → AllByRecursion (λ i. i ≤ schema.dim) (map (dual_label schema.dim) path)
  path_up [] h = tt
  path_up (i ∷ path) h = (dual_most schema.dim i h.0, path_up path h.1)

  term_range : (d : DartTerm) → IsTermInRange schema rule d → IsTermInRange (dual_schema schema) (dual_rule schema.dim rule) (dual_term schema.dim d)
  term_range d h = record { node = has_to Left d.node h.node; path = path_up d.path h.path }

  mask_range : (o : Mask) → IsMaskInRange schema rule o → IsMaskInRange (dual_schema schema) (dual_rule schema.dim rule) (dual_mask schema.dim o)
  mask_range o h = dual_labels schema.dim most o (few_in_range schema rule o most h) h

  embed_range : (e : ℕ) → e < length schema.embeds → e < length (map (dual_embed schema.dim) schema.embeds)
  embed_range e h = omega (arith, h, length-map schema.embeds (dual_embed schema.dim))

  pub tree_range : (tree : Tree) → IsTreeInRange schema rule tree → IsTreeInRange (dual_schema schema) (dual_rule schema.dim rule) (dual_tree schema.dim tree)
  tree_range (Number k) h = tt
  tree_range (Truth b) h = tt
  tree_range (Param k) h = h
  tree_range (Field d e) h = (term_range d h.0, embed_range e h.1)
  tree_range (Same d d') h = (term_range d h.0, term_range d' h.1)
  tree_range (Count o d) h = (mask_range o h.0, term_range d h.1)
  tree_range (Sum o d e) h = (mask_range o h.0, term_range d h.1, embed_range e h.2)
  tree_range (Least o d e) h = (mask_range o h.0, term_range d h.1, embed_range e h.2)
  tree_range (Greatest o d e) h = (mask_range o h.0, term_range d h.1, embed_range e h.2)
  tree_range (Unary op a) h = tree_range a h
  tree_range (Binary op a b) h = (tree_range a h.0, tree_range b h.1)
  tree_range (If c a b) h = (tree_range c h.0, tree_range a h.1, tree_range b h.2)
  tree_range (MakeVec2 a b) h = (tree_range a h.0, tree_range b h.1)
  tree_range (MakeVec3 a b c) h = (tree_range a h.0, tree_range b h.1, tree_range c h.2)
  tree_range (MakeRgb a b c) h = (tree_range a h.0, tree_range b h.1, tree_range c h.2)

  kind_at : (e : ℕ) → embed_kind (map (dual_embed schema.dim) schema.embeds) (param_kinds rule.params) e ≡ embed_kind schema.embeds (param_kinds rule.params) e
  kind_at e = ap (option_map (λ (embed : Embed). embed.kind)) (slice_get-map (dual_embed schema.dim) schema.embeds e) ∙ go (slice_get schema.embeds e)
    where
      go : (o : Option Embed) → option_map (λ (embed : Embed). embed.kind) (option_map (dual_embed schema.dim) o) ≡ option_map (λ (embed : Embed). embed.kind) o
      go None = refl
      go (Some embed) = refl

  abbrev kind_now : Tree → Option Kind
  kind_now tree = tree_kind (map (dual_embed schema.dim) schema.embeds) (param_kinds rule.params) (dual_tree schema.dim tree)

  abbrev kind_was : Tree → Option Kind
  kind_was tree = tree_kind schema.embeds (param_kinds rule.params) tree

  kind_dual : (tree : Tree) → kind_now tree ≡ kind_was tree
  kind_dual (Number k) = refl
  kind_dual (Truth b) = refl
  kind_dual (Param k) = refl
  kind_dual (Field d e) = kind_at e
  kind_dual (Same d d') = refl
  kind_dual (Count o d) = refl
  kind_dual (Sum o d e) = ap (option_and_then sum_kind) (kind_at e)
  kind_dual (Least o d e) = ap (option_and_then only_int) (kind_at e)
  kind_dual (Greatest o d e) = ap (option_and_then only_int) (kind_at e)
  kind_dual (Unary op a) = rw (kind_dual a) refl
  kind_dual (Binary op a b) = rw (kind_dual a, kind_dual b) refl
  kind_dual (If c a b) = rw (kind_dual c, kind_dual a, kind_dual b) refl
  kind_dual (MakeVec2 a b) = rw (kind_dual a, kind_dual b) refl
  kind_dual (MakeVec3 a b c) = rw (kind_dual a, kind_dual b, kind_dual c) refl
  kind_dual (MakeRgb a b c) = rw (kind_dual a, kind_dual b, kind_dual c) refl

  has_kind : (tree : Tree) (kind : Kind) → HasKind schema rule tree kind → HasKind (dual_schema schema) (dual_rule schema.dim rule) (dual_tree schema.dim tree) kind
  has_kind tree kind h = record { in_range = tree_range tree h.in_range; kind_is = kind_dual tree ∙ h.kind_is }

  pub assigns_from : (x e : ℕ) (tree : Tree) → Assigns (dual_rule schema.dim rule) x e tree → (old : Tree) × Assigns rule x e old × (tree ≡ dual_tree schema.dim old)
  assigns_from x e tree (node, is, c) =
      let old = node_from x node is in
      let s = contains_from_map (dual_assignment schema.dim) old.0.sets (record { embed = e; tree = tree }) (subst (λ (k : RuleNode). Contains k.sets (record { embed = e; tree = tree })) old.2 c) in
      let same : s.0 ≡ record { embed = e; tree = s.0.tree } = ap (λ k. record { embed = k; tree = s.0.tree }) (sym (ap (λ (k : Assignment). k.embed) s.2)) in
      (s.0.tree, (old.0, old.1, subst (Contains old.0.sets) same s.1), ap (λ (k : Assignment). k.tree) s.2)

  pub typed_dual : IsTyped schema rule → IsTyped (dual_schema schema) (dual_rule schema.dim rule)
  typed_dual t = record {
    pre = λ tree is. (let old = some_from_map (dual_tree schema.dim) rule.pre tree is in rw old.2 (has_kind old.0 _ (t.pre old.0 old.1)));
    sets = λ x e tree embed by at.
        let old = assigns_from x e tree by in
        let was = embed_from_dual schema e embed at in
        rw (old.2, was.2) (has_kind old.0 was.0.kind (t.sets x e old.0 was.0 old.1 was.1));
  }
