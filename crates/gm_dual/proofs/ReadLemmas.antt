-- The dual of an expression has in the dual map the value that the expression has in the map.
use Rattle.std.proofs.Common.{◌≡◌, ℕ, ◌≤◌, ◌↔◌, true, false, ℤ, ◌≤ℤ◌, List, map, sym, ap, ap₂, subst, ◌∙◌, inl, inr}
use Rattle.gm_model.specs.declared.expr.DartTerm.{DartTerm}
use Rattle.gm_model.specs.declared.value.Value.{Value}
use Rattle.gm_model.specs.declared.word.Mask.{Mask}
use Rattle.std.specs.Prelude.{◌==◌}
use Rattle.gm_model.specs.declared.value.Value.TheVariants as values
use Rattle.gm_model.specs.Expressions.{HasValue, IsCollected, IsFirstOf, Reading, dart_at}
use Rattle.gm_model.specs.Kinds.{IsMaskInRange, IsTreeInRange, sum_kind}
use Rattle.gm_model.specs.Labels.{has}
use Rattle.gm_model.specs.Orbits.{IsInOrbit, IsListOf, follow}
use Rattle.gm_model.specs.Rules.{Rule}
use Rattle.gm_model.specs.Trees.{Tree, Number, Truth, Param, Field, Same, Count, Sum, Least, Greatest, Unary, Binary, If, MakeVec2, MakeVec3, MakeRgb}
use Rattle.gm_model.specs.Values.{kind_of}
use Rattle.gm_dual.specs.Duals.{dual_label, dual_map, dual_mask, dual_term, dual_tree}
use Rattle.gm_dual.proofs.LabelLemmas.{duals_twice}
use Rattle.gm_dual.proofs.MaskLemmas.{has_dual}
use Rattle.gm_dual.proofs.SoundLemmas.{follow_dual, orbit_from_dual, orbit_to_dual}
use Rattle.gm_dual.proofs.TwiceLemmas.{few_in_range}

abbrev pub dual_reading : Reading → Reading
dual_reading r = record { map = dual_map r.map; place = r.place; position = r.position; params = r.params }

-- a list of all that have a property is one of all that have another, where they are the same
pub list_alike : (P Q : ℕ → Type 0) → ((d : ℕ) → P d ↔ Q d) → (darts : List ℕ) → IsListOf P darts → IsListOf Q darts
list_alike P Q alike darts list = record { distinct = list.distinct; same = λ d. ((λ c. (alike d).0 ((list.same d).0 c)), (λ q. (list.same d).1 ((alike d).1 q))) }

-- The reading is in a map of the schema, and the expression is one of the rule.
module _ (r : Reading) (rule : Rule) (most : r.map.schema.dim ≤ 7) where
  dart_dual : (d : DartTerm) → dart_at (dual_reading r) (dual_term r.map.schema.dim d) ≡ dart_at r d
  dart_dual d =
      follow_dual r.map.schema.dim r.map.alpha (map (dual_label r.map.schema.dim) d.path) (r.place.dart_of d.node r.position)
      ∙ ap (λ path. follow r.map.alpha path (r.place.dart_of d.node r.position)) (duals_twice r.map.schema.dim d.path)

  pub collected_dual : (o : Mask) (d : DartTerm) → IsMaskInRange r.map.schema rule o → (e : ℕ) → IsCollected r o d e ↔ IsCollected (dual_reading r) (dual_mask r.map.schema.dim o) (dual_term r.map.schema.dim d) e
  collected_dual o d range e =
      let same = has_dual r.map.schema.dim most o (few_in_range r.map.schema rule o most range) in (
        (λ to. subst (λ x. IsInOrbit (dual_map r.map).alpha (has (dual_mask r.map.schema.dim o)) x e) (sym (dart_dual d)) (orbit_to_dual r.map.schema.dim r.map.alpha (has o) (has (dual_mask r.map.schema.dim o)) same (dart_at r d) e to)),
        (λ to. orbit_from_dual r.map.schema.dim r.map.alpha (has o) (has (dual_mask r.map.schema.dim o)) same (dart_at r d) e (subst (λ x. IsInOrbit (dual_map r.map).alpha (has (dual_mask r.map.schema.dim o)) x e) (dart_dual d) to)),
      )

  first_dual : (before : ℤ → ℤ → Type 0) (o : Mask) (d : DartTerm) (e : ℕ) (v : Value) → IsMaskInRange r.map.schema rule o → IsFirstOf r before o d e v → IsFirstOf (dual_reading r) before (dual_mask r.map.schema.dim o) (dual_term r.map.schema.dim d) e v
  first_dual before o d e v range h =
      let alike = collected_dual o d range in
      (h.0, h.1, (h.2.0, (alike h.2.0).0 h.2.1, h.2.2), (λ x y c is. h.3 x y ((alike x).1 c) is))

  pub value_dual : (tree : Tree) (v : Value) → IsTreeInRange r.map.schema rule tree → HasValue r tree v → HasValue (dual_reading r) (dual_tree r.map.schema.dim tree) v
  value_dual (Number n) v range h = h
  value_dual (Truth b) v range h = h
  value_dual (Param k) v range h = h
  value_dual (Field d e) v range h = h ∙ ap (r.map.value e) (sym (dart_dual d))
  value_dual (Same d d') v range h = h ∙ ap₂ (λ x y. values.Bool (x == y)) (sym (dart_dual d)) (sym (dart_dual d'))
  value_dual (Count o d) v range h = (h.0, (h.1.0, list_alike (IsCollected r o d) (IsCollected (dual_reading r) (dual_mask r.map.schema.dim o) (dual_term r.map.schema.dim d)) (collected_dual o d range.0) h.1.0 h.1.1, h.1.2), h.2)
  value_dual (Sum o d e) v range h = (h.0, list_alike (IsCollected r o d) (IsCollected (dual_reading r) (dual_mask r.map.schema.dim o) (dual_term r.map.schema.dim d)) (collected_dual o d range.0) h.0 h.1, h.2, ap (λ x. sum_kind (kind_of (r.map.value e x))) (dart_dual d) ∙ h.3, h.4)
  value_dual (Least o d e) v range h = first_dual ◌≤ℤ◌ o d e v range.0 h
  value_dual (Greatest o d e) v range h = first_dual (λ x y. y ≤ℤ x) o d e v range.0 h
  value_dual (Unary op a) v range h = (h.0, value_dual a h.0 range h.1, h.2)
  value_dual (Binary op a b) v range h = (h.0, h.1, value_dual a h.0 range.0 h.2, value_dual b h.1 range.1 h.3, h.4)
  value_dual (If c a b) v range (inl h) = inl (value_dual c (values.Bool true) range.0 h.0, value_dual a v range.1 h.1)
  value_dual (If c a b) v range (inr h) = inr (value_dual c (values.Bool false) range.0 h.0, value_dual b v range.2 h.1)
  value_dual (MakeVec2 a b) v range h = (h.0, h.1, value_dual a (values.Int h.0) range.0 h.2, value_dual b (values.Int h.1) range.1 h.3, h.4)
  value_dual (MakeVec3 a b c) v range h = (h.0, h.1, h.2, value_dual a (values.Int h.0) range.0 h.3, value_dual b (values.Int h.1) range.1 h.4, value_dual c (values.Int h.2) range.2 h.5, h.6)
  value_dual (MakeRgb a b c) v range h = (h.0, h.1, h.2, value_dual a (values.Int h.0) range.0 h.3, value_dual b (values.Int h.1) range.1 h.4, value_dual c (values.Int h.2) range.2 h.5, h.6)
