-- The assignment of a node's table that is found is the one of the rule's node.
use Rattle.std.proofs.Common.{◌≡◌, ◌≢◌, ℕ, ◌+◌, ◌<◌, ◌⊎◌, inl, inr, List, length, map, get_or, Option, Some, None, refl, sym, subst, ap, ◌∙◌, arith}
use Rattle.std.specs.List.{slice_get}
use Rattle.std.specs.Option.{option_map}
use Rattle.std.proofs.lemmas.Bool.{cases_eq}
use Rattle.std.proofs.lemmas.Option.{slice_get-map, slice_get-get_or, slice_get_within, get_or_from_slice_get}
use Rattle.gm_model.specs.declared.rule.Set.{Set}
use Rattle.gm_model.specs.Components.{IsAssigned}
use Rattle.gm_model.specs.Rules.{Rule, RuleNode, Assignment, Assigns, assignment_of}
use Rattle.gm_model.specs.Trees.{tree_of}
use Rattle.gm_apply.specs.inner.Reads.{SetsEmbed}

some_mapped : (found : Option Set) (a : Assignment) → option_map assignment_of found ≡ Some a → (s : Set) × (found ≡ Some s) × (assignment_of s ≡ a)
some_mapped (Some s) a h = (s, refl, cc)
some_mapped None a h = cc

module _ (rule : Rule) (x : ℕ) (node : RuleNode) (sets : List Set) (here : slice_get rule.nodes x ≡ Some node) (held : node.sets ≡ map assignment_of sets) (e : ℕ) where
  pub set_is_there : IsAssigned rule e x → SetsEmbed sets e
  set_is_there (tree, (node', at, (k, b, is))) =
      let same : node' ≡ node = (let p : Some node' ≡ Some node = sym at ∙ here in cc) in
      let found : slice_get node'.sets k ≡ Some (record { embed = e; tree = tree }) = slice_get-get_or node'.sets k _ b ∙ ap Some is in
      let moved : option_map assignment_of (slice_get sets k) ≡ Some (record { embed = e; tree = tree }) =
      sym (slice_get-map assignment_of sets k) ∙ ap (λ l. slice_get l k) (sym held) ∙ ap (λ (n : RuleNode). slice_get n.sets k) (sym same) ∙ found in
      let s = some_mapped (slice_get sets k) (record { embed = e; tree = tree }) moved in
      (k, s.0, s.1, ap (λ (a : Assignment). a.embed) s.2)

  pub set_is_assigned : (k : ℕ) (s : Set) → slice_get sets k ≡ Some s → s.embed ≡ e → Assigns rule x e (tree_of s.expr)
  set_is_assigned k s is same =
      let at : slice_get node.sets k ≡ Some (assignment_of s) = ap (λ l. slice_get l k) held ∙ slice_get-map assignment_of sets k ∙ ap (option_map assignment_of) is in
      let found : slice_get node.sets k ≡ Some (record { embed = e; tree = tree_of s.expr }) = subst (λ n. slice_get node.sets k ≡ Some (record { embed = n; tree = tree_of s.expr })) same at in
      (node, here, (k, slice_get_within node.sets k _ found, get_or_from_slice_get node.sets k _ _ found))

-- an assigned node is one of the rule's
pub assigned_within : (rule : Rule) (e x : ℕ) → IsAssigned rule e x → x < length rule.nodes
assigned_within rule e x (tree, (node, at, c)) = slice_get_within rule.nodes x node at

-- ---- the search among the assignments of a node

module _ (sets : List Set) (e i : ℕ) (here : Set) (there : here ≡ get_or sets i here) where
  -- where none of the first has the embedding, and the next hasn't either
  pub none_more : here.embed ≢ e → ((k : ℕ) (s : Set) → k < i → slice_get sets k ≡ Some s → s.embed ≢ e) → (k : ℕ) (s : Set) → k < i + 1 → slice_get sets k ≡ Some s → s.embed ≢ e
  none_more apart before k s less at = go (cases_eq k i)
    where
      go : (k ≡ i) ⊎ (k ≡ i → ⊥) → s.embed ≢ e
      go (inl same) = subst (λ (t : Set). t.embed ≢ e) (there ∙ ap (λ n. get_or sets n here) (sym same) ∙ get_or_from_slice_get sets k s here at) apart
      go (inr other) = before k s (omega (arith, less, other)) at

  pub among_them : i < length sets → (k : ℕ) × (slice_get sets k ≡ Some here)
  among_them within = (i, slice_get-get_or sets i here within ∙ ap Some (sym there))
