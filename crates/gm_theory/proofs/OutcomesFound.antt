-- Each application of an accepted rule to a sound map is done, or refused for a cause.
use Rattle.std.proofs.Common.{◌≡◌, ℕ, ◌+◌, ◌<◌, ◌≤◌, ◌⊎◌, Bool, true, false, not, ◌&&◌, IsTrue, length, Option, Some, None, slice_get, refl, sym, ◌∙◌, subst, inl, inr, arith}
use Rattle.std.proofs.lemmas.Bool.{cases_eq, cases_lt}
use Rattle.std.proofs.lemmas.Option.{slice_get_within}
use Rattle.gm_model.specs.declared.rule.Side.TheVariants.{Left, Right}
use Rattle.gm_model.specs.declared.schema.Embed.{Embed}
use Rattle.gm_model.specs.declared.value.Kind.TheVariants as kinds
use Rattle.gm_model.specs.declared.value.Value.{Value}
use Rattle.gm_model.specs.declared.value.Value.TheVariants as values
use Rattle.gm_model.specs.Acceptance.{IsAccepted}
use Rattle.gm_model.specs.Applications.{Application, Cause, Decider, IsDeciderBefore, HasHookDarts, MeetsSteps, IsFirstBroken, IsFirstRepeat, MeetsPre, IsStaying, more, IsReady, GivesValue, IsDecider, IsFirstValueless, IsRefused, NoDart, Arc, Same, PreNoValue, PreFalse, FullDarts, FullNames, NoValue, BrokenStep, Repeated, ValuelessPre, FalsePre, NoRoom, NoNames, Valueless, IsResult, reading_at}
use Rattle.gm_model.specs.Components.{IsAssigned}
use Rattle.gm_model.specs.Expressions.{HasValue, HasNoValue}
use Rattle.gm_model.specs.Kinds.{HasKind, AreGoodParams}
use Rattle.gm_model.specs.Limits.{most_darts, most_names}
use Rattle.gm_model.specs.Maps.{Map, IsDart, IsEmbedAt, IsSchema, IsSound, type_of}
use Rattle.gm_model.specs.Matches.{Placement, IsCandidate, IsMatch}
use Rattle.gm_model.specs.NewValues.{IsDecidedBy, IsDeciding, IsUndecided}
use Rattle.gm_model.specs.Orbits.{IsInOrbit, HasCount}
use Rattle.gm_model.specs.Rules.{Assigns, has_word, hook_label, width}
use Rattle.gm_model.specs.Runs.{Outcome, Done, Refused, IsOutcome}
use Rattle.gm_model.specs.Trees.{Tree}
use Rattle.gm_model.specs.Unfolding.{IsGone, IsUnfolding, Scene, scene_of, name_in}
use Rattle.gm_model.specs.Values.{IsValueOf, kind_of}
use Rattle.gm_theory.proofs.Arcs.{right_dart}
use Rattle.gm_theory.proofs.Candidates.{match_is_candidate}
use Rattle.gm_theory.proofs.CandidatesFound.{candidate_exists, some_position, IsDead, dead_or_live, dead_refused, broken_or_met, repeat_or_none}
use Rattle.gm_theory.proofs.FirstFound.{IsFirstPair, first_pair, decide_pair_below}
use Rattle.gm_theory.proofs.Found.{HasNoRepeat, found_match}
use Rattle.gm_theory.proofs.Keeps.{lawful, rules_keep_generalised_maps}
use Rattle.gm_theory.proofs.Lists.{some_same, none_some}
use Rattle.gm_theory.proofs.OrbitsListed.{list_all_of}
use Rattle.gm_theory.proofs.ReadingsDecided.{decide_value, not_both_truths}
use Rattle.gm_theory.proofs.ReadingsTyped.{values_have_their_kinds}
use Rattle.gm_theory.proofs.Results.{unfolding_generalised, unfolding_below}
use Rattle.gm_theory.proofs.RuleSteps.{word_below}
use Rattle.gm_theory.proofs.Scenes.{IsLawful}
use Rattle.gm_theory.proofs.Tests.{both_true, true_or_false, not_both}
use Rattle.gm_theory.proofs.ValuesFound.{IsLeast, least_below, decide_assigned, decided_or_not}
use Rattle.gm_theory.proofs.ValuesJoined.{pair_same}
use Rattle.gm_theory.proofs.ValuesKept.{match_reading, one_tree, rules_keep_well_embedded_maps}
use Rattle.gm_theory.proofs.ValuesReach.{IsDecided, decide_orbit}
use Rattle.gm_theory.proofs.ValuesUnique.{one_count}
use Rattle.gm_theory.specs.inner.Outcomes.{ApplicationsHaveOutcomes}
use Rattle.gm_theory.specs.inner.Readings.{IsReadingOf}
use Rattle.gm_theory.specs.inner.Theorem.{Unfolded, Unfolds}
use Rattle.gm_theory.specs.inner.Values.{HaveValues, with_values}

abbrev HasOutcome : Application → Type 0
HasOutcome app = (outcome : Outcome) × (after : Map) × IsOutcome app outcome after

refused : (app : Application) (cause : Cause) → IsRefused app cause → HasOutcome app
refused app cause r = (Refused cause, app.map, (r, refl))

module _ (app : Application) (of_schema : IsSchema app.map.schema) (sound : IsSound app.map) (accepted : IsAccepted app.map.schema app.rule) (params : AreGoodParams app.rule app.params) (place : Placement) (matched : IsMatch app.map app.rule app.hooks place) where
  abbrev pub scene : Scene
  scene = scene_of app.map app.rule place

  pub law : IsLawful (scene_of app.map app.rule place) (length app.rule.nodes) (width app.rule) (hook_label app.rule)
  law = lawful app.map app.rule place accepted sound.generalised sound.is_map.below app.hooks matched

  -- refused, as P doesn't hold
  abbrev pub IsRefusedWithout : Type 0 → Type 0
  IsRefusedWithout P = (cause : Cause) × IsRefused app cause × (P → ⊥)

  -- ---- the precondition

  truth_of : (v : Value) → IsValueOf kinds.Bool v → (b : Bool) × (v ≡ values.Bool b)
  truth_of v h = go v h.kind_is
    where
      go : (v : Value) → kind_of v ≡ kinds.Bool → (b : Bool) × (v ≡ values.Bool b)
      go (values.Bool b) e = (b, refl)
      go v e = absurd (cc)

  pub pre_or_none : MeetsPre app place ⊎ IsRefusedWithout (MeetsPre app place)
  pre_or_none = go app.rule.pre refl
    where
      go : (o : Option Tree) → app.rule.pre ≡ o → MeetsPre app place ⊎ IsRefusedWithout (MeetsPre app place)
      go None e = inl (λ tree f. none_some tree (sym e ∙ f))
      go (Some tree) e = side (decide_value app.rule (reading_at app place 0) good tree has_kind.in_range)
        where
          good : IsReadingOf app.rule (reading_at app place 0)
          good = match_reading app place sound.is_map sound.generalised matched 0 (some_position app.map app.rule app.hooks place (match_is_candidate app.map app.rule place accepted.in_range accepted.incidence app.hooks matched))

          has_kind : HasKind app.map.schema app.rule tree kinds.Bool
          has_kind = accepted.typed.pre tree e

          by : (v : Value) → HasValue (reading_at app place 0) tree v → (b : Bool) × (v ≡ values.Bool b) → MeetsPre app place ⊎ IsRefusedWithout (MeetsPre app place)
          by v h (true, f) = inl (λ other g. subst (λ t. HasValue (reading_at app place 0) t (values.Bool true)) (some_same tree other (sym e ∙ g)) (subst (HasValue (reading_at app place 0) tree) f h))
          by v h (false, f) = inr (PreFalse, FalsePre place tree matched e (subst (HasValue (reading_at app place 0) tree) f h), λ pre. not_both_truths (reading_at app place 0) tree (pre tree e) (subst (HasValue (reading_at app place 0) tree) f h))

          side : ((v : Value) × HasValue (reading_at app place 0) tree v) ⊎ HasNoValue (reading_at app place 0) tree → MeetsPre app place ⊎ IsRefusedWithout (MeetsPre app place)
          side (inl (v, h)) = by v h (truth_of v (values_have_their_kinds app.rule (reading_at app place 0) tree kinds.Bool v good params has_kind h))
          side (inr none) = inr (PreNoValue, ValuelessPre place tree matched e none, λ pre. none (values.Bool true) (pre tree e))

  -- ---- room

  abbrev IsGoneNode : ℕ → ℕ → ℕ → Type 0
  IsGoneNode d x p = IsTrue (has_word app.rule Left x && not (has_word app.rule Right x)) × (d ≡ place.dart_of x p)

  decide_gone_node : (d x p : ℕ) → IsDecided (IsGoneNode d x p)
  decide_gone_node d x p = go (true_or_false (has_word app.rule Left x && not (has_word app.rule Right x))) (cases_eq d (place.dart_of x p))
    where
      go : IsTrue (has_word app.rule Left x && not (has_word app.rule Right x)) ⊎ (has_word app.rule Left x && not (has_word app.rule Right x) ≡ false) → (d ≡ place.dart_of x p) ⊎ (d ≡ place.dart_of x p → ⊥) → IsDecided (IsGoneNode d x p)
      go (inl t) (inl e) = inl (t, e)
      go (inr f) side = inr (λ h. not_both (has_word app.rule Left x && not (has_word app.rule Right x)) h.0 f)
      go (inl t) (inr other) = inr (λ h. other h.1)

  decide_gone : (d : ℕ) → IsDecided (IsGone scene d)
  decide_gone d = go (decide_pair_below (IsGoneNode d) (decide_gone_node d) place.positions (length app.rule.nodes))
    where
      go : ((x : ℕ) × (p : ℕ) × (x < length app.rule.nodes) × (p < place.positions) × IsGoneNode d x p) ⊎ ((x p : ℕ) → x < length app.rule.nodes → p < place.positions → IsGoneNode d x p → ⊥) → IsDecided (IsGone scene d)
      go (inl (x, p, b, c, (t, e))) = inl (x, p, t, c, e)
      go (inr none) = inr (λ g. none g.0 g.1 (word_below app.rule Left g.0 (both_true (has_word app.rule Left g.0) (not (has_word app.rule Right g.0)) g.2).0) g.3 (g.2, g.4))

  gone_below : (d : ℕ) → IsGone scene d → d < app.map.next
  gone_below d (x, p, t, b, e) = sound.is_map.below d (subst (IsDart app.map) (sym e) (matched.embedded.live x p ((both_true (has_word app.rule Left x) (not (has_word app.rule Right x)) t).0, b)))

  decide_staying : (d : ℕ) → IsDecided (IsStaying app place d)
  decide_staying d = go (true_or_false (app.map.live d)) (decide_gone d)
    where
      go : IsDart app.map d ⊎ (app.map.live d ≡ false) → IsDecided (IsGone scene d) → IsDecided (IsStaying app place d)
      go (inl live) (inr stays) = inl (live, stays)
      go (inl live) (inl gone) = inr (λ h. h.1 gone)
      go (inr dead) side = inr (λ h. not_both (app.map.live d) h.0 dead)

  counted_staying : (live : ℕ) × HasCount (IsStaying app place) live
  counted_staying = let l = list_all_of (IsStaying app place) decide_staying app.map.next (λ d h. sound.is_map.below d h.0) in (length l.0, (l.0, l.1, refl))

  counted_gone : (removed : ℕ) × HasCount (IsGone scene) removed
  counted_gone = let l = list_all_of (IsGone scene) decide_gone app.map.next gone_below in (length l.0, (l.0, l.1, refl))

  pub ready_or_none : MeetsPre app place → IsReady app place ⊎ IsRefusedWithout (IsReady app place)
  ready_or_none pre = go counted_staying
    where
      go : (live : ℕ) × HasCount (IsStaying app place) live → IsReady app place ⊎ IsRefusedWithout (IsReady app place)
      go (live, count) = by (cases_lt most_darts (live + more app place)) (cases_lt most_names (app.map.next + more app place))
        where
          by : (most_darts < live + more app place) ⊎ (live + more app place ≤ most_darts) → (most_names < app.map.next + more app place) ⊎ (app.map.next + more app place ≤ most_names) → IsReady app place ⊎ IsRefusedWithout (IsReady app place)
          by (inl full) side = inr (FullDarts live (more app place), NoRoom place live matched pre count full, λ ready. let same : ready.live ≡ live = one_count (IsStaying app place) ready.live live ready.live_is count in let fits : ready.live + more app place ≤ most_darts = ready.darts_fit in omega (arith, subst (λ n. n + more app place ≤ most_darts) same fits))
          by (inr fits) (inl full) = inr (FullNames app.map.next (more app place), NoNames place live matched pre count fits full, λ ready. let names : app.map.next + more app place ≤ most_names = ready.names_fit in omega arith)
          by (inr fits) (inr names) = inl (record { matched = matched; pre = pre; live = live; live_is = count; darts_fit = fits; names_fit = names })

  -- ---- the deciding instances

  module _ (result : Unfolded) (unfolds : Unfolds app.map app.rule place result) where
    abbrev pub IsLiveAfter : ℕ → Type 0
    IsLiveAfter d = IsTrue (result.live d)

    abbrev pub IsDeciderAt : ℕ → ℕ → ℕ → Type 0
    IsDeciderAt e x p = IsDecider app place IsLiveAfter result.alpha (record { embed = e; node = x; position = p })

    -- an assigned node's dart is one of the result, so that its orbit can be searched
    decide_deciding : (e x p : ℕ) (embed : Embed) → IsEmbedAt app.map.schema e embed → IsAssigned app.rule e x → p < place.positions → IsDecided (IsDeciding app.map app.rule place result.alpha e (type_of embed) x p)
    decide_deciding e x p embed at assigned b = go (decided_or_not app.map app.rule place result.alpha e (type_of embed) (name_in app.map app.rule place x p) decide)
      where
        right : IsTrue (has_word app.rule Right x)
        right = (accepted.in_range.sets x assigned.1.0 (record { embed = e; tree = assigned.0 }) assigned.1.1 assigned.1.2).0

        live : IsLiveAfter (name_in app.map app.rule place x p)
        live = (unfolds.darts (name_in app.map app.rule place x p)).1 (right_dart scene (length app.rule.nodes) (width app.rule) (hook_label app.rule) law x p (right, b))

        decide : (c : ℕ) → IsDecided (IsInOrbit result.alpha (type_of embed) (name_in app.map app.rule place x p) c)
        decide c = decide_orbit app.map.schema.dim result.alpha (type_of embed) IsLiveAfter result.next (λ i t. of_schema.labels e i embed at t)
            (unfolding_generalised scene (length app.rule.nodes) (width app.rule) (hook_label app.rule) law IsLiveAfter result.alpha result.next unfolds).stays
            (unfolding_below scene (length app.rule.nodes) (width app.rule) (hook_label app.rule) law IsLiveAfter result.alpha result.next unfolds) (name_in app.map app.rule place x p) c live

        other : (y q : ℕ) → IsDecidedBy app.map app.rule place result.alpha e (type_of embed) (name_in app.map app.rule place x p) y q → IsDeciding app.map app.rule place result.alpha e (type_of embed) x p → (y ≡ x) × (q ≡ p)
        other y q by own = pair_same y q x p (λ h. own.least y q h by.assigned by.lies) (λ h. by.least x p h own.assigned own.lies)

        go : ((y : ℕ) × (q : ℕ) × IsDecidedBy app.map app.rule place result.alpha e (type_of embed) (name_in app.map app.rule place x p) y q) ⊎ IsUndecided app.map app.rule place result.alpha e (type_of embed) (name_in app.map app.rule place x p) → IsDecided (IsDeciding app.map app.rule place result.alpha e (type_of embed) x p)
        go (inr none) = inr (λ own. none x p own.assigned own.lies)
        go (inl (y, q, by)) = same (cases_eq y x) (cases_eq q p)
          where
            same : (y ≡ x) ⊎ (y ≡ x → ⊥) → (q ≡ p) ⊎ (q ≡ p → ⊥) → IsDecided (IsDeciding app.map app.rule place result.alpha e (type_of embed) x p)
            same (inl f) (inl g) = inl (subst (λ z. IsDecidedBy app.map app.rule place result.alpha e (type_of embed) (name_in app.map app.rule place x p) z p) f (subst (λ s. IsDecidedBy app.map app.rule place result.alpha e (type_of embed) (name_in app.map app.rule place x p) y s) g by))
            same (inr f) side = inr (λ own. f (other y q by own).0)
            same (inl f) (inr g) = inr (λ own. g (other y q by own).1)

    pub decide_decider : (e x p : ℕ) → IsDecided (IsDeciderAt e x p)
    decide_decider e x p = go (slice_get app.map.schema.embeds e) refl (decide_assigned app.rule e x) (cases_lt p place.positions)
      where
        go : (o : Option Embed) → slice_get app.map.schema.embeds e ≡ o → IsDecided (IsAssigned app.rule e x) → (p < place.positions) ⊎ (place.positions ≤ p) → IsDecided (IsDeciderAt e x p)
        go None f side b = inr (λ h. none_some h.embed (sym f ∙ h.embed_at))
        go (Some embed) f (inr none) b = inr (λ h. none h.deciding.assigned.0)
        go (Some embed) f (inl a) (inr b) = inr (λ h. let c : p < place.positions = h.deciding.assigned.1 in omega arith)
        go (Some embed) f (inl a) (inl b) = by (decide_deciding e x p embed f a b)
          where
            by : IsDecided (IsDeciding app.map app.rule place result.alpha e (type_of embed) x p) → IsDecided (IsDeciderAt e x p)
            by (inl deciding) = inl (record { embed = embed; embed_at = f; deciding = deciding })
            by (inr none) = inr (λ h. none (subst (λ (m : Embed). IsDeciding app.map app.rule place result.alpha e (type_of m) x p) (some_same h.embed embed (sym h.embed_at ∙ f)) h.deciding))

    -- the expression of a deciding instance has a value, or none
    abbrev pub IsValued : ℕ → ℕ → ℕ → Type 0
    IsValued e x p = (v : Value) × GivesValue app place e x p v

    decide_valued : (e x p : ℕ) → IsDeciderAt e x p → IsDecided (IsValued e x p)
    decide_valued e x p by = go (decide_value app.rule (reading_at app place p) (match_reading app place sound.is_map sound.generalised matched p by.deciding.assigned.1) by.deciding.assigned.0.0 (accepted.typed.sets x e by.deciding.assigned.0.0 by.embed assigns by.embed_at).in_range)
      where
        assigns : Assigns app.rule x e by.deciding.assigned.0.0
        assigns = by.deciding.assigned.0.1

        go : ((v : Value) × HasValue (reading_at app place p) by.deciding.assigned.0.0 v) ⊎ HasNoValue (reading_at app place p) by.deciding.assigned.0.0 → IsDecided (IsValued e x p)
        go (inl (v, h)) = inl (v, (by.deciding.assigned.0.0, (assigns, by.deciding.assigned.1), h))
        go (inr none) = inr (λ given. none given.0 (subst (λ t. HasValue (reading_at app place p) t given.0) (one_tree app.map.schema app.rule accepted.in_range x e given.1.0 by.deciding.assigned.0.0 given.1.1.0 assigns) given.1.2))

    abbrev pub IsValueless : ℕ → ℕ → ℕ → Type 0
    IsValueless e x p = IsDeciderAt e x p × (IsValued e x p → ⊥)

    pub decide_valueless : (e x p : ℕ) → IsDecided (IsValueless e x p)
    decide_valueless e x p = go (decide_decider e x p)
      where
        go : IsDecided (IsDeciderAt e x p) → IsDecided (IsValueless e x p)
        go (inr none) = inr (λ h. none h.0)
        go (inl by) = side (decide_valued e x p by)
          where
            side : IsDecided (IsValued e x p) → IsDecided (IsValueless e x p)
            side (inl given) = inr (λ h. h.1 given)
            side (inr none) = inl (by, none)

    pub valued : (e x p : ℕ) → IsDeciderAt e x p → (IsValueless e x p → ⊥) → IsValued e x p
    valued e x p by some = go (decide_valued e x p by)
      where
        go : IsDecided (IsValued e x p) → IsValued e x p
        go (inl given) = given
        go (inr none) = absurd (some (by, none))

    abbrev HasValueless : ℕ → Type 0
    HasValueless e = (x : ℕ) × (p : ℕ) × (x < length app.rule.nodes) × IsFirstPair (IsValueless e) (decide_valueless e) place.positions x p

    first_valueless : (e : ℕ) → HasValueless e ⊎ ((x p : ℕ) → x < length app.rule.nodes → p < place.positions → IsValueless e x p → ⊥)
    first_valueless e = first_pair (IsValueless e) (decide_valueless e) place.positions (length app.rule.nodes)

    decide_has_valueless : (e : ℕ) → IsDecided (HasValueless e)
    decide_has_valueless e = go (first_valueless e)
      where
        go : HasValueless e ⊎ ((x p : ℕ) → x < length app.rule.nodes → p < place.positions → IsValueless e x p → ⊥) → IsDecided (HasValueless e)
        go (inl first) = inl first
        go (inr none) = inr (λ h. none h.0 h.1 h.2 h.3.within h.3.here)

    none_valueless : (e x p : ℕ) → (HasValueless e → ⊥) → IsValueless e x p → ⊥
    none_valueless e x p none h = go (first_valueless e)
      where
        node : x < length app.rule.nodes
        node = slice_get_within app.rule.nodes x h.0.deciding.assigned.0.1.0 h.0.deciding.assigned.0.1.1

        go : HasValueless e ⊎ ((x p : ℕ) → x < length app.rule.nodes → p < place.positions → IsValueless e x p → ⊥) → ⊥
        go (inl first) = none first
        go (inr nowhere) = nowhere x p node h.0.deciding.assigned.1 h

    valueless_or_none : ((decider : Decider) × IsFirstValueless app place IsLiveAfter result.alpha decider) ⊎ HaveValues app place result.alpha
    valueless_or_none = go (least_below HasValueless decide_has_valueless (length app.map.schema.embeds))
      where
        go : ((e : ℕ) × (e < length app.map.schema.embeds) × IsLeast HasValueless e) ⊎ ((e : ℕ) → e < length app.map.schema.embeds → HasValueless e → ⊥) → ((decider : Decider) × IsFirstValueless app place IsLiveAfter result.alpha decider) ⊎ HaveValues app place result.alpha
        go (inr none) = inr (λ e x p embed at deciding. valued e x p (record { embed = embed; embed_at = at; deciding = deciding }) (none_valueless e x p (none e (slice_get_within app.map.schema.embeds e embed at))))
        go (inl (e, b, ((x, p, c, first), least))) = inl (record { embed = e; node = x; position = p }, record { here = first.here.0; none = λ v given. first.here.1 (v, given); before = before })
          where
            before : (other : Decider) → IsDeciderBefore other (record { embed = e; node = x; position = p }) → IsDecider app place IsLiveAfter result.alpha other → (v : Value) × GivesValue app place other.embed other.node other.position v
            before other (inl h) by = valued other.embed other.node other.position by (none_valueless other.embed other.node other.position (least other.embed h))
            before other (inr (f, h)) by = valued other.embed other.node other.position by (λ bad. first.before other.node other.position h by.deciding.assigned.1 (subst (λ k. IsValueless k other.node other.position) f bad))

  -- ---- done, or refused for a value

  done_or_valueless : IsReady app place → HasOutcome app
  done_or_valueless ready = go (rules_keep_generalised_maps app.map app.rule app.hooks place sound.is_map.below sound.generalised accepted matched).exists
    where
      go : (result : Unfolded) × Unfolds app.map app.rule place result → HasOutcome app
      go (result, unfolds) = by (valueless_or_none result unfolds)
        where
          done : (value : ℕ → ℕ → Value) × IsResult app place (with_values app.map result value) → (removed : ℕ) × HasCount (IsGone scene) removed → HasOutcome app
          done (value, is) (removed, count) = (Done (more app place) removed, with_values app.map result value, record { place = place; ready = ready; result_is = is; added_is = refl; removed_is = count })

          by : ((decider : Decider) × IsFirstValueless app place (λ d. IsTrue (result.live d)) result.alpha decider) ⊎ HaveValues app place result.alpha → HasOutcome app
          by (inl (decider, first)) = refused app (NoValue decider.embed decider.node) (Valueless place result.live result.alpha decider ready (subst (λ n. IsUnfolding scene (λ d. IsTrue (result.live d)) result.alpha n) unfolds.next_is unfolds) first)
          by (inr given) = done ((rules_keep_well_embedded_maps app place of_schema sound.is_map sound.generalised sound.embedded accepted matched).exists result unfolds given) counted_gone

  found_outcome : HasOutcome app
  found_outcome = go pre_or_none
    where
      ready : IsReady app place ⊎ IsRefusedWithout (IsReady app place) → HasOutcome app
      ready (inl r) = done_or_valueless r
      ready (inr (cause, r, none)) = refused app cause r

      go : MeetsPre app place ⊎ IsRefusedWithout (MeetsPre app place) → HasOutcome app
      go (inl pre) = ready (ready_or_none pre)
      go (inr (cause, r, none)) = refused app cause r

pub applications_have_outcomes : ApplicationsHaveOutcomes
applications_have_outcomes app of_schema sound accepted count params = begin (dead_or_live app)
  where
    at : (place : Placement) (darts : HasHookDarts app) (candidate : IsCandidate app.map app.rule app.hooks place) →
        ((x : ℕ) × (p : ℕ) × (i : ℕ) × IsFirstBroken app place x p i) ⊎ MeetsSteps app place → ((x : ℕ) × (p : ℕ) × (y : ℕ) × (q : ℕ) × IsFirstRepeat app place x p y q) ⊎ HasNoRepeat app place → HasOutcome app
    at place darts candidate (inl (x, p, i, first)) side = refused app (Arc x p i) (BrokenStep place x p i darts candidate first)
    at place darts candidate (inr met) (inl (x, p, y, q, first)) = refused app (Same x p y q) (Repeated place x p y q darts candidate met first)
    at place darts candidate (inr met) (inr apart) = found_outcome app of_schema sound accepted params place (found_match app place sound.generalised accepted (record { darts = darts; candidate = candidate; steps = met; distinct = apart }))

    begin : ((k : ℕ) × (k < length app.hooks) × IsLeast (IsDead app) k) ⊎ HasHookDarts app → HasOutcome app
    begin (inl (k, b, dead)) = refused app (NoDart k) (dead_refused app k dead)
    begin (inr darts) = go (candidate_exists app.map app.rule sound.is_map sound.generalised accepted.in_range accepted.incidence app.hooks count darts)
      where
        go : (place : Placement) × IsCandidate app.map app.rule app.hooks place → HasOutcome app
        go (place, candidate) = at place darts candidate (broken_or_met app place) (repeat_or_none app place)
