-- An application of the dual rule to the dual map is done where that of the rule to the map is, with the dual of its result.
use Rattle.std.proofs.Common.{◌≡◌, ℕ, ◌*◌, ◌≤◌, true, sym, ap, subst, ◌∙◌}
use Rattle.std.specs.Option.{option_map}
use Rattle.std.proofs.lemmas.Option.{slice_get-map}
use Rattle.gm_arena.proofs.InsideLemmas.{some_from_map}
use Rattle.gm_model.specs.declared.schema.Embed.{Embed}
use Rattle.gm_model.specs.declared.schema.Schema.{Schema}
use Rattle.gm_model.specs.declared.value.Value.{Value}
use Rattle.gm_model.specs.declared.value.Value.TheVariants as values
use Rattle.gm_model.specs.Acceptance.{IsAccepted}
use Rattle.gm_model.specs.Applications.{Application, GivesValue, IsDone, IsReady, IsResult, IsStaying, MeetsPre, more}
use Rattle.gm_model.specs.Maps.{IsDart, IsEmbedAt, IsSchema, Map, type_of}
use Rattle.gm_model.specs.Matches.{Placement}
use Rattle.gm_model.specs.NewValues.{IsAssignedAt, IsUndecided, IsValueAfter, LiesIn}
use Rattle.gm_model.specs.NewValues.IsValueAfter.{Added, Decided, Kept}
use Rattle.gm_model.specs.Orbits.{IsInOrbit, Labels}
use Rattle.gm_model.specs.Unfolding.{IsGone, IsUnfolding, name_in, scene_of}
use Rattle.gm_dual.specs.Duals.{dual_application, dual_assignment, dual_embed, dual_label, dual_map, dual_node, dual_rule, dual_schema, dual_tree}
use Rattle.gm_dual.proofs.ConditionLemmas.{assigned_from, assigned_to, keeper_dual}
use Rattle.gm_dual.proofs.MatchLemmas.{match_dual}
use Rattle.gm_dual.proofs.ReadLemmas.{list_alike, value_dual}
use Rattle.gm_dual.proofs.RuleLemmas.{added_dual, contains_map}
use Rattle.gm_dual.proofs.SceneLemmas.{added_nodes_dual, dual_scene, name_dual, scene_dual, unfolding_dual}
use Rattle.gm_dual.proofs.SoundLemmas.{embed_from_dual, has_embed_dual, orbit_from_dual, orbit_to_dual}

module _ (app : Application) (most : app.map.schema.dim ≤ 7) (lawful : IsSchema app.map.schema) (accepted : IsAccepted app.map.schema app.rule) where
  module _ (place : Placement) where
    pub pre_dual : MeetsPre app place → MeetsPre (dual_application app) place
    pre_dual meets tree is =
        let old = some_from_map (dual_tree app.map.schema.dim) app.rule.pre tree is in
        let range = accepted.typed.pre old.0 old.1 in
        rw old.2 (value_dual (record { map = app.map; place = place; position = 0; params = app.params }) app.rule most old.0 (values.Bool true) range.in_range (meets old.0 old.1))

    pub gone_to : (d : ℕ) → IsGone (scene_of app.map app.rule place) d → IsGone (scene_of (dual_map app.map) (dual_rule app.map.schema.dim app.rule) place) d
    gone_to d h = subst (λ s. IsGone s d) (sym (scene_dual app.map app.rule place)) h

    pub gone_from : (d : ℕ) → IsGone (scene_of (dual_map app.map) (dual_rule app.map.schema.dim app.rule) place) d → IsGone (scene_of app.map app.rule place) d
    gone_from d h = subst (λ s. IsGone s d) (scene_dual app.map app.rule place) h

    pub more_dual : more (dual_application app) place ≡ more app place
    more_dual = ap (λ k. place.positions * k) (added_nodes_dual app.map.schema.dim app.rule)

    pub ready_dual : IsReady app place → IsReady (dual_application app) place
    ready_dual r = record {
      matched = match_dual app.map app.rule accepted.in_range accepted.incidence app.hooks place r.matched;
      pre = pre_dual r.pre;
      live = r.live;
      live_is = (r.live_is.0, list_alike (IsStaying app place) (IsStaying (dual_application app) place) (λ d. ((λ s. (s.0, λ g. s.1 (gone_from d g))), (λ s. (s.0, λ g. s.1 (gone_to d g))))) r.live_is.0 r.live_is.1, r.live_is.2);
      darts_fit = rw more_dual r.darts_fit;
      names_fit = rw more_dual r.names_fit;
    }

    pub gives_dual : (e x p : ℕ) (v : Value) (embed : Embed) → IsEmbedAt app.map.schema e embed → GivesValue app place e x p v → GivesValue (dual_application app) place e x p v
    gives_dual e x p v embed at h =
        let tree = h.0 in
        let node = h.1.0 in
        let range = accepted.typed.sets x e tree embed node at in (
          dual_tree app.map.schema.dim tree,
          (
            (
              dual_node app.map.schema.dim node.0,
              slice_get-map (dual_node app.map.schema.dim) app.rule.nodes x ∙ ap (option_map (dual_node app.map.schema.dim)) node.1,
              contains_map (dual_assignment app.map.schema.dim) node.0.sets (record { embed = e; tree = tree }) node.2,
            ),
            h.1.1,
          ),
          value_dual (record { map = app.map; place = place; position = p; params = app.params }) app.rule most tree v range.in_range h.2,
        )

    module _ (result : Map) (e : ℕ) (o o' : Labels) (same : (i : ℕ) → o' i ≡ o (dual_label app.map.schema.dim i)) where
      pub lies_to : (d x p : ℕ) → LiesIn app.map app.rule place result.alpha e o d x p → LiesIn (dual_map app.map) (dual_rule app.map.schema.dim app.rule) place (λ i. result.alpha (dual_label app.map.schema.dim i)) e o' d x p
      lies_to d x p h = subst (λ y. IsInOrbit (λ i. result.alpha (dual_label app.map.schema.dim i)) o' d y) (sym (name_dual app.map.schema.dim app.rule app.map place x p)) (orbit_to_dual app.map.schema.dim result.alpha o o' same d (name_in app.map app.rule place x p) h)

      pub lies_from : (d x p : ℕ) → LiesIn (dual_map app.map) (dual_rule app.map.schema.dim app.rule) place (λ i. result.alpha (dual_label app.map.schema.dim i)) e o' d x p → LiesIn app.map app.rule place result.alpha e o d x p
      lies_from d x p h = orbit_from_dual app.map.schema.dim result.alpha o o' same d (name_in app.map app.rule place x p) (subst (λ y. IsInOrbit (λ i. result.alpha (dual_label app.map.schema.dim i)) o' d y) (name_dual app.map.schema.dim app.rule app.map place x p) h)

      pub at_from : (x p : ℕ) → IsAssignedAt (dual_map app.map) (dual_rule app.map.schema.dim app.rule) place (λ i. result.alpha (dual_label app.map.schema.dim i)) e o' x p → IsAssignedAt app.map app.rule place result.alpha e o x p
      at_from x p h = (assigned_from app.map.schema.dim app.rule o o' same e x h.0, h.1)

      pub at_to : (x p : ℕ) → IsAssignedAt app.map app.rule place result.alpha e o x p → IsAssignedAt (dual_map app.map) (dual_rule app.map.schema.dim app.rule) place (λ i. result.alpha (dual_label app.map.schema.dim i)) e o' x p
      at_to x p h = (assigned_to app.map.schema.dim app.rule o o' same e x h.0, h.1)

      undecided_to : (d : ℕ) → IsUndecided app.map app.rule place result.alpha e o d → IsUndecided (dual_map app.map) (dual_rule app.map.schema.dim app.rule) place (λ i. result.alpha (dual_label app.map.schema.dim i)) e o' d
      undecided_to d h x p a l = h x p (at_from x p a) (lies_from d x p l)

      after_dual : (Given Given' : ℕ → ℕ → Value → Type 0) → ((x p : ℕ) (v : Value) → Given x p v → Given' x p v) → (d : ℕ) (v : Value)
          → IsValueAfter app.map app.rule place result.alpha e o Given d v → IsValueAfter (dual_map app.map) (dual_rule app.map.schema.dim app.rule) place (λ i. result.alpha (dual_label app.map.schema.dim i)) e o' Given' d v
      after_dual Given Given' gives d v (Decided x p by is) = Decided x p (record { assigned = at_to x p by.assigned; lies = lies_to d x p by.lies; least = λ y q before a l. by.least y q before (at_from y q a) (lies_from d y q l) }) (gives x p v is)
      after_dual Given Given' gives d v (Kept none live is) = Kept (undecided_to d none) live is
      after_dual Given Given' gives d v (Added x p keeper none added low name kept is) = Added x p keeper (undecided_to d none) (added_dual app.map.schema.dim app.rule x ∙ added) low (name ∙ sym (name_dual app.map.schema.dim app.rule app.map place x p)) (keeper_dual app.map.schema.dim app.rule o o' same x keeper kept) is

    result_dual : (result : Map) → IsResult app place result → IsResult (dual_application app) place (dual_map result)
    result_dual result r = record {
      schema = ap dual_schema r.schema;
      unfolded = subst (λ s. IsUnfolding s (IsDart result) (dual_map result).alpha result.next) (sym (scene_dual app.map app.rule place)) unfolded;
      values = λ e d dual at live.
          let embed = embed_from_dual app.map.schema e dual at in
          let labels = has_embed_dual app.map.schema most lawful e embed.0 embed.1 in
          let after = after_dual result e (type_of embed.0) (type_of (dual_embed app.map.schema.dim embed.0)) labels (GivesValue app place e) (GivesValue (dual_application app) place e) (λ x p v g. gives_dual e x p v embed.0 embed.1 g) d (result.value e d) (r.values e d embed.0 embed.1 live) in
          let named = subst (λ (x : Embed). IsValueAfter (dual_map app.map) (dual_rule app.map.schema.dim app.rule) place (λ i. result.alpha (dual_label app.map.schema.dim i)) e (type_of x) (GivesValue (dual_application app) place e) d (result.value e d)) (sym embed.2) after in
          subst (λ k. IsValueAfter (dual_map app.map) (dual_rule app.map.schema.dim app.rule) place (λ i. result.alpha (dual_label k i)) e (type_of dual) (GivesValue (dual_application app) place e) d (result.value e d)) (sym dims) named;
    }
      where
        dims : result.schema.dim ≡ app.map.schema.dim
        dims = ap (λ (s : Schema). s.dim) r.schema

        unfolded : IsUnfolding (dual_scene (scene_of app.map app.rule place)) (IsDart result) (dual_map result).alpha result.next
        unfolded = subst (λ k. IsUnfolding (dual_scene (scene_of app.map app.rule place)) (IsDart result) (λ i. result.alpha (dual_label k i)) result.next) (sym dims) (unfolding_dual (scene_of app.map app.rule place) (IsDart result) result.alpha result.next r.unfolded)

  pub done_dual : (result : Map) (added removed : ℕ) → IsDone app result added removed → IsDone (dual_application app) (dual_map result) added removed
  done_dual result added removed d = record {
    place = d.place;
    ready = ready_dual d.place d.ready;
    result_is = result_dual d.place result d.result_is;
    added_is = d.added_is ∙ sym (more_dual d.place);
    removed_is = (d.removed_is.0, list_alike (IsGone (scene_of app.map app.rule d.place)) (IsGone (scene_of (dual_map app.map) (dual_rule app.map.schema.dim app.rule) d.place)) (λ x. (gone_to d.place x, gone_from d.place x)) d.removed_is.0 d.removed_is.1, d.removed_is.2);
  }
