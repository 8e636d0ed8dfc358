-- The value of a dart of the result: that of its deciding instance, or an old one.
use Rattle.std.proofs.Common.{◌≡◌, ℕ, ◌<◌, ◌⊎◌, not, List, length, Contains, Option, Some, None, IfSome, IsSome, IsTrue, slice_get, refl, sym, ◌∙◌, ap, subst, inl, inr}
use Rattle.gm_model.specs.declared.rule.Side.TheVariants.{Left, Right}
use Rattle.gm_model.specs.declared.schema.Embed.{Embed}
use Rattle.gm_model.specs.declared.value.Value.{Value}
use Rattle.gm_model.specs.Components.{IsTogether, IsAssigned, IsKeeper, IsUnassigned, IsInherited}
use Rattle.gm_model.specs.Maps.{IsEmbedAt, type_of}
use Rattle.gm_model.specs.NewValues.{IsUndecided, LiesIn, IsValueAfter, Decided, Kept, Added}
use Rattle.gm_model.specs.Rules.{has_word, is_preserved, width, hook_label}
use Rattle.gm_arena.specs.inner.ArenaAsMap.{as_map, value}
use Rattle.gm_arena.specs.inner.ArenaMap.{name_at}
use Rattle.gm_plan.specs.inner.InArena.{slot_number}
use Rattle.gm_theory.proofs.Lists.{get_contained}
use Rattle.gm_theory.proofs.NoFault.{one_keeper}
use Rattle.gm_theory.proofs.Tests.{both_true}
use Rattle.gm_theory.proofs.ValuesAcross.{new_together}
use Rattle.gm_theory.proofs.ValuesReadOff.{read_off}
use Rattle.gm_theory.specs.inner.Theorem.{Unfolded, IsDartOf}
use Rattle.gm_walk.specs.declared.at.At.{At}
use Rattle.gm_walk.specs.declared.at.At.TheVariants.{Old, New}
use Rattle.gm_pending.specs.declared.deciding_instance.DecidingInstance.{DecidingInstance}
use Rattle.gm_walk.specs.declared.mark.Mark.{Mark}
use Rattle.gm_pending.specs.inner.Marks.{HasKey, IsMarkedBy}
use Rattle.gm_walk.specs.inner.Keys.{key_of}
use Rattle.gm_pending.specs.inner.ReachedDarts.{AreReached}
use Rattle.gm_pending.specs.inner.ValueSources.{HasSourceNode, IsKeeperFor, IsOldValue, IsSourceOf, IsSourceValue, given_of}
use Rattle.gm_pending.specs.inner.Results.{PendingOf, IsPrepared, AreAllGiven, IsDecidedIn, IsGivenIn, IsResultDart, IsUnfoldedIn, IsValueIn, instances_of, rule_in, place_in, scene_in, name_of}
use Rattle.gm_pending.proofs.on_pending.ResultDarts.{live_dart}
use Rattle.gm_pending.proofs.on_pending.PreparedIsLawful.{law, some_unfolding}
use Rattle.gm_pending.proofs.on_marks.OneMoreMark.{get_within}
use Rattle.gm_pending.proofs.on_deciding.OrbitsWalked.{dart_after, label_within, same_key, same_name}

-- what was found for the embedding of this number is a preserved node, if it is one
module _ (app : PendingOf) (e x : ℕ) where
  pub keeper_preserved : (keeper : Option ℕ) → IsKeeperFor app e x keeper → e < length app.map.schema.embeds → IfSome keeper (λ k. IsTrue (is_preserved (rule_in app) k))
  keeper_preserved None found low = tt
  keeper_preserved (Some k) found low = let kept = get_within app.map.schema.embeds e low in (found kept.0 kept.1).preserved

  -- and the source of the new dart at a position is the keeper's dart there
  pub keeper_source : (keeper : Option ℕ) (p : ℕ) (v : Value) → IsKeeperFor app e x keeper → IfSome keeper (λ k. IsOldValue app e (slot_number app.placed k p) v) → (embed : Embed) → IsEmbedAt app.map.schema e embed → IsSourceValue app e embed (New x p) v
  keeper_source None p v found is embed at slot (other, kept, lies) = absurd (found embed at other kept.together kept.preserved)
  keeper_source (Some k) p v found is embed at slot (other, kept, lies) =
      let same : k ≡ other = one_keeper (rule_in app) (type_of embed) x k other (found embed at) kept in
      subst (λ s. IsOldValue app e s v) (ap (λ z. slot_number app.placed z p) same ∙ lies) is

module _ (app : PendingOf) (prepared : IsPrepared app) (e : ℕ) (embed : Embed) (at_embed : IsEmbedAt app.map.schema e embed) (reached : List Mark) (all : AreReached app e embed (instances_of app e) reached) (at : At) (dart : IsResultDart app at) where
  -- ---- a dart that is reached

  module _ (k : ℕ) (mark : IsMarkedBy reached (key_of at) k) where
    decider_here : (result : Unfolded) → IsUnfoldedIn app result → (instance : DecidingInstance) × (slice_get (instances_of app e) k ≡ Some instance) × IsDecidedIn app result e embed (name_of app at) instance.node instance.position
    decider_here result unfolded =
        let by = all.decided result unfolded mark.0 mark.1 in
        let name : name_of app mark.0.at ≡ name_of app at = same_name app prepared mark.0.at at (all.darts mark.0 mark.1) dart mark.2 in
        (by.0, subst (λ j. slice_get (instances_of app e) j ≡ Some by.0) mark.3 by.1, subst (λ d. IsDecidedIn app result e embed d by.0.node by.0.position) name by.2)

    pub has_given : AreAllGiven app e → IsSome (given_of (instances_of app e) k)
    has_given given =
        let here = decider_here (some_unfolding app prepared).0 (some_unfolding app prepared).1 in
        rw here.1 (given.1 here.0 (get_contained (instances_of app e) k here.0 here.1))

    pub value_decided : (v : Value) → given_of (instances_of app e) k ≡ Some v → IsValueIn app e embed (name_of app at) v
    value_decided v given result unfolded =
        let by = decider_here result unfolded in
        let is : by.0.given ≡ Some v = (rw by.1 at given) in
        let whole : by.0 ≡ record { node = by.0.node; position = by.0.position; given = Some v } = ap (λ w. record { node = by.0.node; position = by.0.position; given = w }) is in
        Decided by.0.node by.0.position by.2 (subst (Contains (instances_of app e)) whole (get_contained (instances_of app e) k by.0 by.1))

  -- ---- a dart that isn't

  module _ (absent : HasKey reached (key_of at) → ⊥) where
    undecided : (result : Unfolded) → IsUnfoldedIn app result → IsUndecided (as_map app.map) (rule_in app) (place_in app) result.alpha e (type_of embed) (name_of app at)
    undecided result unfolded x p a lies =
        let found = all.all result unfolded (name_of app at) (dart_after app prepared e embed at_embed result unfolded at dart, (x, p, a, lies)) in
        absent (found.0, found.1, same_key app prepared found.0.at at (all.darts found.0 found.1) dart found.2)

    together : (result : Unfolded) → IsUnfoldedIn app result → (x y p : ℕ) → p < app.placed.positions → IsTogether (rule_in app) (type_of embed) x y → LiesIn (as_map app.map) (rule_in app) (place_in app) result.alpha e (type_of embed) ((scene_in app).name_of x p) y p
    together result unfolded x y p b t = new_together (as_map app.map) (rule_in app) (place_in app) (length (rule_in app).nodes) (width (rule_in app)) (hook_label (rule_in app)) (law app prepared) (read_off app.map.schema (rule_in app) prepared.planned.accepted.in_range prepared.planned.accepted.incidence)
        (IsDartOf result) result.alpha result.next unfolded e (type_of embed) (λ i l. label_within app prepared e embed at_embed result unfolded i l) (prepared.sound.embedded e embed at_embed) (λ x r. prepared.planned.accepted.sources e embed at_embed x r)
        (λ x p v. ⊥) (λ x p v w g h. absurd g) x y p b t

    abbrev IsUndecidedIn : Unfolded → At → Type 0
    IsUndecidedIn result a = IsUndecided (as_map app.map) (rule_in app) (place_in app) result.alpha e (type_of embed) (name_of app a)

    pub source_node : HasSourceNode app embed at
    source_node = go at refl dart
      where
        by : (x p : ℕ) → p < app.placed.positions → IsUndecidedIn (some_unfolding app prepared).0 (New x p) →
            ((y : ℕ) × IsTogether (rule_in app) (type_of embed) x y × IsAssigned (rule_in app) e y) ⊎ (IsUnassigned (rule_in app) e (type_of embed) x × ((keeper : ℕ) × IsInherited (rule_in app) (type_of embed) x keeper)) → (keeper : ℕ) × IsKeeper (rule_in app) (type_of embed) x keeper
        by x p b u (inl (y, t, a)) = absurd (u y p (a, b) (together (some_unfolding app prepared).0 (some_unfolding app prepared).1 x y p b t))
        by x p b u (inr (none, (keeper, i))) = (keeper, i.kept)

        go : (a : At) → at ≡ a → IsResultDart app a → HasSourceNode app embed a
        go (Old slot) same d = tt
        go (New x p) same d = by x p d.1 (subst (IsUndecidedIn (some_unfolding app prepared).0) same (undecided (some_unfolding app prepared).0 (some_unfolding app prepared).1)) (prepared.planned.accepted.sources e embed at_embed x (both_true (not (has_word (rule_in app) Left x)) (has_word (rule_in app) Right x) d.0).1).source

    pub value_kept : (slot : ℕ) (v : Value) → IsSourceOf app embed at slot → v ≡ value app.map e (name_at app.map slot) → IsValueIn app e embed (name_of app at) v
    value_kept slot v source is result unfolded = go at refl dart source
      where
        go : (a : At) → at ≡ a → IsResultDart app a → IsSourceOf app embed a slot → IsValueAfter (as_map app.map) (rule_in app) (place_in app) result.alpha e (type_of embed) (IsGivenIn app e) (name_of app at) v
        go (Old old) same d from = subst (λ b. IsValueAfter (as_map app.map) (rule_in app) (place_in app) result.alpha e (type_of embed) (IsGivenIn app e) (name_of app b) v) (sym same)
            (Kept (subst (IsUndecidedIn result) same (undecided result unfolded)) (live_dart app prepared old.at d.0) (is ∙ ap (λ n. value app.map e (name_at app.map n)) from))
        go (New x p) same d (keeper, k, lies) = subst (λ b. IsValueAfter (as_map app.map) (rule_in app) (place_in app) result.alpha e (type_of embed) (IsGivenIn app e) (name_of app b) v) (sym same)
            (Added x p keeper (subst (IsUndecidedIn result) same (undecided result unfolded)) d.0 d.1 refl k (is ∙ ap (λ n. value app.map e (name_at app.map n)) (sym lies)))
