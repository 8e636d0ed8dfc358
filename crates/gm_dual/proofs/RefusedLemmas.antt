-- An application of the dual rule to the dual map is refused where that of the rule to the map is, for the same cause, unless the cause is that there is no match.
use Rattle.std.proofs.Common.{◌≡◌, ◌⊎◌, ℕ, ◌+◌, ◌<◌, ◌≤◌, false, IsTrue, Some, inl, inr, sym, ap, subst}
use Rattle.std.specs.Option.{option_map}
use Rattle.gm_model.specs.declared.schema.Embed.{Embed}
use Rattle.gm_model.specs.declared.value.Value.{Value}
use Rattle.gm_model.specs.declared.value.Value.TheVariants as values
use Rattle.gm_model.specs.Acceptance.{IsAccepted}
use Rattle.gm_model.specs.Applications.{Application, Cause, FullDarts, FullNames, Decider, GivesValue, IsDecider, IsFirstValueless, IsRefused, IsStaying, IsUnfolded, NoHookDart, BrokenStep, Repeated, ValuelessPre, FalsePre, NoRoom, NoNames, Valueless, more, reading_at}
use Rattle.gm_model.specs.Expressions.{HasNoValue, HasValue}
use Rattle.gm_model.specs.Kinds.{IsTreeInRange}
use Rattle.gm_model.specs.Limits.{most_darts, most_names}
use Rattle.gm_model.specs.Maps.{IsEmbedAt, IsSchema, Map, type_of}
use Rattle.gm_model.specs.Matches.{IsMatch, Placement}
use Rattle.gm_model.specs.NewValues.{IsDecidedBy, IsDeciding}
use Rattle.gm_model.specs.Orbits.{HasCount, Labels}
use Rattle.gm_model.specs.Trees.{Tree}
use Rattle.gm_model.specs.Unfolding.{IsUnfolding, name_in, scene_of}
use Rattle.gm_dual.specs.Duals.{IsOfMatch, dual_application, dual_embed, dual_label, dual_map, dual_rule, dual_schema, dual_tree}
use Rattle.gm_dual.proofs.AcceptLemmas.{assigns_from}
use Rattle.gm_dual.proofs.BookLemmas.{accepted_dual}
use Rattle.gm_dual.proofs.DoneLemmas.{at_from, at_to, gives_dual, gone_from, gone_to, lies_from, lies_to, more_dual, pre_dual, ready_dual}
use Rattle.gm_dual.proofs.MatchLemmas.{match_dual}
use Rattle.gm_dual.proofs.ReadLemmas.{list_alike, value_dual}
use Rattle.gm_dual.proofs.SceneLemmas.{dual_scene, name_dual, scene_dual, unfolding_dual}
use Rattle.gm_dual.proofs.SoundLemmas.{embed_from_dual, embed_to_dual, has_embed_dual}
use Rattle.gm_dual.proofs.TwiceLemmas.{map_is_twice, tree_twice}

module _ (app : Application) (most : app.map.schema.dim ≤ 7) (lawful : IsSchema app.map.schema) (accepted : IsAccepted app.map.schema app.rule) where
  abbrev n : ℕ
  n = app.map.schema.dim

  abbrev dual : Application
  dual = dual_application app

  pub fine : IsAccepted (dual_schema app.map.schema) (dual_rule n app.rule)
  fine = accepted_dual app.map.schema app.rule most lawful accepted

  -- the map with other neighbours
  abbrev pub with_neighbours : (ℕ → ℕ → ℕ) → Map
  with_neighbours alpha = record { schema = app.map.schema; live = app.map.live; alpha = alpha; value = app.map.value; next = app.map.next }

  abbrev pub turned : (ℕ → ℕ → ℕ) → ℕ → ℕ → ℕ
  turned alpha i = alpha (dual_label n i)

  module _ (place : Placement) where
    pub matched_dual : IsMatch app.map app.rule app.hooks place → IsMatch (dual_map app.map) (dual_rule n app.rule) app.hooks place
    matched_dual m = match_dual app.map app.rule accepted.in_range accepted.incidence app.hooks place m

    -- ---- what is read

    pub value_from : (p : ℕ) (tree : Tree) (v : Value) → IsTreeInRange app.map.schema app.rule tree → IsTreeInRange (dual_schema app.map.schema) (dual_rule n app.rule) (dual_tree n tree)
        → HasValue (reading_at dual place p) (dual_tree n tree) v → HasValue (reading_at app place p) tree v
    value_from p tree v range range' h =
        let again = value_dual (reading_at dual place p) (dual_rule n app.rule) most (dual_tree n tree) v range' h in
        let there = subst (λ (m : Map). HasValue (record { map = m; place = place; position = p; params = app.params }) (dual_tree n (dual_tree n tree)) v) (map_is_twice app.map most lawful) again in
        subst (λ t. HasValue (reading_at app place p) t v) (tree_twice app.map.schema app.rule most tree range) there

    pub pre_is : (tree : Tree) → app.rule.pre ≡ Some tree → (dual_rule n app.rule).pre ≡ Some (dual_tree n tree)
    pre_is tree is = ap (option_map (dual_tree n)) is

    valueless_dual : (tree : Tree) → app.rule.pre ≡ Some tree → HasNoValue (reading_at app place 0) tree → HasNoValue (reading_at dual place 0) (dual_tree n tree)
    valueless_dual tree is none v h = none v (value_from 0 tree v (accepted.typed.pre tree is).in_range (fine.typed.pre (dual_tree n tree) (pre_is tree is)).in_range h)

    pub gives_from : (e x p : ℕ) (v : Value) (embed : Embed) → IsEmbedAt app.map.schema e embed → GivesValue dual place e x p v → GivesValue app place e x p v
    gives_from e x p v embed at (tree, (assigns, within), h) =
        let old = assigns_from app.map.schema app.rule most x e tree assigns in
        let range = (accepted.typed.sets x e old.0 embed old.1 at).in_range in
        let range' = (fine.typed.sets x e tree (dual_embed n embed) assigns (embed_to_dual app.map.schema e embed at)).in_range in
        (old.0, (old.1, within), value_from p old.0 v range (subst (IsTreeInRange (dual_schema app.map.schema) (dual_rule n app.rule)) old.2 range') (subst (λ t. HasValue (reading_at dual place p) t v) old.2 h))

    -- ---- room

    staying_dual : (live : ℕ) → HasCount (IsStaying app place) live → HasCount (IsStaying dual place) live
    staying_dual live count = (
      count.0,
      list_alike (IsStaying app place) (IsStaying dual place)
          (λ d. ((λ s. (s.0, λ g. s.1 (gone_from app most lawful accepted place d g))), (λ s. (s.0, λ g. s.1 (gone_to app most lawful accepted place d g))))) count.0 count.1,
      count.2,
    )

    pub more_is : more dual place ≡ more app place
    more_is = more_dual app most lawful accepted place

    -- ---- the first deciding instance without a value

    module _ (alpha : ℕ → ℕ → ℕ) (e : ℕ) (o o' : Labels) (same : (i : ℕ) → o' i ≡ o (dual_label n i)) where
      pub decided_to : (d x p : ℕ) → IsDecidedBy app.map app.rule place alpha e o d x p → IsDecidedBy (dual_map app.map) (dual_rule n app.rule) place (turned alpha) e o' d x p
      decided_to d x p by = record {
        assigned = at_to app most lawful accepted place (with_neighbours alpha) e o o' same x p by.assigned;
        lies = lies_to app most lawful accepted place (with_neighbours alpha) e o o' same d x p by.lies;
        least = λ y q before a l. by.least y q before (at_from app most lawful accepted place (with_neighbours alpha) e o o' same y q a) (lies_from app most lawful accepted place (with_neighbours alpha) e o o' same d y q l);
      }

      pub decided_from : (d x p : ℕ) → IsDecidedBy (dual_map app.map) (dual_rule n app.rule) place (turned alpha) e o' d x p → IsDecidedBy app.map app.rule place alpha e o d x p
      decided_from d x p by = record {
        assigned = at_from app most lawful accepted place (with_neighbours alpha) e o o' same x p by.assigned;
        lies = lies_from app most lawful accepted place (with_neighbours alpha) e o o' same d x p by.lies;
        least = λ y q before a l. by.least y q before (at_to app most lawful accepted place (with_neighbours alpha) e o o' same y q a) (lies_to app most lawful accepted place (with_neighbours alpha) e o o' same d y q l);
      }

      abbrev name_is : (x p : ℕ) → name_in (dual_map app.map) (dual_rule n app.rule) place x p ≡ name_in app.map app.rule place x p
      name_is x p = name_dual n app.rule app.map place x p

      deciding_to : (x p : ℕ) → IsDeciding app.map app.rule place alpha e o x p → IsDeciding (dual_map app.map) (dual_rule n app.rule) place (turned alpha) e o' x p
      deciding_to x p by = subst (λ d. IsDecidedBy (dual_map app.map) (dual_rule n app.rule) place (turned alpha) e o' d x p) (sym (name_is x p)) (decided_to (name_in app.map app.rule place x p) x p by)

      deciding_from : (x p : ℕ) → IsDeciding (dual_map app.map) (dual_rule n app.rule) place (turned alpha) e o' x p → IsDeciding app.map app.rule place alpha e o x p
      deciding_from x p by = decided_from (name_in app.map app.rule place x p) x p (subst (λ d. IsDecidedBy (dual_map app.map) (dual_rule n app.rule) place (turned alpha) e o' d x p) (name_is x p) by)

    module _ (IsLive : ℕ → Type 0) (alpha : ℕ → ℕ → ℕ) where
      pub decider_to : (by : Decider) → IsDecider app place IsLive alpha by → IsDecider dual place IsLive (turned alpha) by
      decider_to by h = record {
        embed = dual_embed n h.embed;
        embed_at = embed_to_dual app.map.schema by.embed h.embed h.embed_at;
        deciding = deciding_to alpha by.embed (type_of h.embed) (type_of (dual_embed n h.embed)) (has_embed_dual app.map.schema most lawful by.embed h.embed h.embed_at) by.node by.position h.deciding;
      }

      pub decider_from : (by : Decider) → IsDecider dual place IsLive (turned alpha) by → IsDecider app place IsLive alpha by
      decider_from by h =
          let old = embed_from_dual app.map.schema by.embed h.embed h.embed_at in
          let there = subst (λ (x : Embed). IsDeciding (dual_map app.map) (dual_rule n app.rule) place (turned alpha) by.embed (type_of x) by.node by.position) old.2 h.deciding in
          record {
            embed = old.0;
            embed_at = old.1;
            deciding = deciding_from alpha by.embed (type_of old.0) (type_of (dual_embed n old.0)) (has_embed_dual app.map.schema most lawful by.embed old.0 old.1) by.node by.position there;
          }

      first_dual : (by : Decider) → IsFirstValueless app place IsLive alpha by → IsFirstValueless dual place IsLive (turned alpha) by
      first_dual by first = record {
        here = decider_to by first.here;
        none = λ v g. first.none v (gives_from by.embed by.node by.position v first.here.embed first.here.embed_at g);
        before = λ other low is.
            let was = decider_from other is in
            let given = first.before other low was in
            (given.0, gives_dual app most lawful accepted place other.embed other.node other.position given.0 was.embed was.embed_at given.1);
      }

      pub unfolded_dual : IsUnfolded app place IsLive alpha → IsUnfolded dual place IsLive (turned alpha)
      unfolded_dual u =
          let there : IsUnfolding (dual_scene (scene_of app.map app.rule place)) IsLive (turned alpha) (app.map.next + more app place) = unfolding_dual (scene_of app.map app.rule place) IsLive alpha (app.map.next + more app place) u in
          subst (λ k. IsUnfolding (scene_of (dual_map app.map) (dual_rule n app.rule) place) IsLive (turned alpha) (app.map.next + k)) (sym more_is)
          (subst (λ s. IsUnfolding s IsLive (turned alpha) (app.map.next + more app place)) (sym (scene_dual app.map app.rule place)) there)

  -- ---- the cause

  pub refused_dual : (cause : Cause) → IsRefused app cause → IsOfMatch cause ⊎ IsRefused dual cause
  refused_dual _ (NoHookDart index d at none before) = inr (NoHookDart index d at none before)
  refused_dual _ (BrokenStep place x p i darts candidate broken) = inl tt
  refused_dual _ (Repeated place x p y q darts candidate meets repeat) = inl tt
  refused_dual _ (ValuelessPre place tree matched pre none) = inr (ValuelessPre place (dual_tree n tree) (matched_dual place matched) (pre_is place tree pre) (valueless_dual place tree pre none))
  refused_dual _ (FalsePre place tree matched pre is) =
      inr (FalsePre place (dual_tree n tree) (matched_dual place matched) (pre_is place tree pre) (value_dual (reading_at app place 0) app.rule most tree (values.Bool false) (accepted.typed.pre tree pre).in_range is))
  refused_dual _ (NoRoom place live matched meets count full) =
      inr (subst (λ k. IsRefused dual (FullDarts live k)) (more_is place)
      (NoRoom place live (matched_dual place matched) (pre_dual app most lawful accepted place meets) (staying_dual place live count) (subst (λ k. most_darts < live + k) (sym (more_is place)) full)))
  refused_dual _ (NoNames place live matched meets count fits full) =
      inr (subst (λ k. IsRefused dual (FullNames app.map.next k)) (more_is place)
      (NoNames place live (matched_dual place matched) (pre_dual app most lawful accepted place meets) (staying_dual place live count) (subst (λ k. live + k ≤ most_darts) (sym (more_is place)) fits) (subst (λ k. most_names < app.map.next + k) (sym (more_is place)) full)))
  refused_dual _ (Valueless place IsLive alpha by ready unfolded first) =
      inr (Valueless place IsLive (turned alpha) by (ready_dual app most lawful accepted place ready) (unfolded_dual place (λ d. IsTrue (IsLive d)) alpha unfolded) (first_dual place (λ d. IsTrue (IsLive d)) alpha by first))
