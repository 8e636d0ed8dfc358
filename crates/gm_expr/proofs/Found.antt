-- What a name leads to: there is something with the name at its number.
use Rattle.std.proofs.Common.{◌≡◌, ℕ, ◌<◌, Bool, true, false, if◌then◌else◌, List, [], ◌∷◌, length, map, get_or, Option, Some, None, is_some, refl, sym, ap, ◌∙◌, arith}
use Rattle.std.specs.Prelude.{slice_get, IsTrue}
use Rattle.std.specs.List.{position}
use Rattle.std.specs.Option.{option_map}
use Rattle.std.specs.Str.{bytes_eq}
use Rattle.std.proofs.lemmas.List.{length-map}
use Rattle.std.proofs.lemmas.List.Quantifiers.{position-Some}
use Rattle.std.proofs.lemmas.Option.{slice_get-map, slice_get-get_or, slice_get_within}
use Rattle.gm_model.specs.declared.expr.DartTerm.{DartTerm}
use Rattle.gm_model.specs.declared.rule.Param.{Param}
use Rattle.gm_model.specs.declared.schema.Embed.{Embed}
use Rattle.gm_model.specs.Rules.{RuleNode, name_at}
use Rattle.gm_parse.specs.Meaning.{is_named}
use Rattle.gm_expr.specs.ExprText.{param_name, embed_name}
use Rattle.gm_expr.specs.inner.Writable.{left_name_of, IsGoodParam, IsGoodEmbed, IsGoodTerm}

pub found : {A : Type 0} (test : A → Bool) (xs : List A) (k : ℕ) → position test xs ≡ Some k → (x : A) × (slice_get xs k ≡ Some x) × (test x ≡ true)
found test [] k e = absurd cc
found test (first ∷ xs) k e = let (low, holds, before) = position-Some test (first ∷ xs) k first e in (get_or (first ∷ xs) k first, slice_get-get_or (first ∷ xs) k first low, holds)

pub mapped : {A B : Type 0} (f : A → B) (xs : List A) (k : ℕ) (y : B) → slice_get (map f xs) k ≡ Some y → (x : A) × (slice_get xs k ≡ Some x) × (f x ≡ y)
mapped {A = A} f xs k y e = go (slice_get xs k) refl
  where
    go : (at : Option A) → slice_get xs k ≡ at → (x : A) × (slice_get xs k ≡ Some x) × (f x ≡ y)
    go None is = let both : None ≡ Some y = sym (slice_get-map f xs k ∙ ap (option_map f) is) ∙ e in absurd cc
    go (Some x) is = let both : Some (f x) ≡ Some y = sym (slice_get-map f xs k ∙ ap (option_map f) is) ∙ e in (x, is, cc both)

pub left_is : (name : List ℕ) (node : RuleNode) → is_named name (left_name_of node) ≡ true → IsTrue (is_some node.left)
left_is name node e = go (is_some node.left) refl e
  where
    go : (b : Bool) → is_some node.left ≡ b → is_named name (if b then Some node.name else None) ≡ true → IsTrue (is_some node.left)
    go true is e = is
    go false is e = absurd cc

found_low : {A : Type 0} (name_of : A → List ℕ) (name : List ℕ) (xs : List A) (k : ℕ) → position (bytes_eq name) (map name_of xs) ≡ Some k → k < length xs
found_low name_of name xs k is =
    let (other, there, same) = found (bytes_eq name) (map name_of xs) k is in
    let low = slice_get_within (map name_of xs) k other there in
    omega (arith, low, length-map xs name_of)

module _ (embeds : List Embed) (params : List Param) (nodes : List RuleNode) where
  pub param_low : (k : ℕ) → IsGoodParam embeds params nodes k → k < length params
  param_low k is = found_low (λ (param : Param). param.name) (param_name params k) params k is

  pub embed_low : (e : ℕ) → IsGoodEmbed embeds params nodes e → e < length embeds
  embed_low e is = found_low (λ (embed : Embed). embed.name) (embed_name embeds e) embeds e is

  pub node_there : (n : ℕ) (term : DartTerm) → IsGoodTerm embeds params nodes n term → (node : RuleNode) × (slice_get nodes term.node ≡ Some node) × IsTrue (is_some node.left)
  node_there n term is =
      let (name, at, holds) = found (is_named (name_at nodes term.node)) (map left_name_of nodes) term.node is.0 in
      let (node, there, named) = mapped left_name_of nodes term.node name at in
      (node, there, left_is (name_at nodes term.node) node (ap (is_named (name_at nodes term.node)) named ∙ holds))

  pub node_low : (n : ℕ) (term : DartTerm) → IsGoodTerm embeds params nodes n term → term.node < length nodes
  node_low n term is = let (node, there, left) = node_there n term is in slice_get_within nodes term.node node there
