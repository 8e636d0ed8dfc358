-- Each application of an accepted rule to a sound map has a budget.
use Rattle.std.proofs.Common.{◌≡◌, ℕ, ◌+◌, ◌*◌, ◌<◌, ◌≤◌, ◌⊎◌, IsTrue, false, List, [], ◌∷◌, length, sum, Option, Some, None, slice_get, refl, sym, ◌∙◌, ap, subst, inl, inr, arith}
use Rattle.std.proofs.lemmas.Bool.{cases_order}
use Rattle.std.proofs.lemmas.Option.{slice_get_within, get_or_from_slice_get}
use Rattle.std.specs.List.{AllZip}
use Rattle.gm_model.specs.declared.schema.Embed.{Embed}
use Rattle.gm_model.specs.declared.value.Kind.{Kind}
use Rattle.gm_model.specs.declared.value.Kind.TheVariants as kinds
use Rattle.gm_model.specs.Acceptance.{IsAccepted}
use Rattle.gm_model.specs.Applications.{Application, Decider, IsDeciderBefore, HasHookDarts, MeetsSteps, IsFirstBroken, IsFirstRepeat, MeetsPre, IsReady, IsDecider, IsValuedBefore, IsRead, IsReachedAt, IsPreUnits, IsReadUnits, IsReadSum, IsReachedSum, HasPositions, NoDarts, Candidate, IsWork, NoMatch, NotReady, Ready, IsBudget, Of, reading_at}
use Rattle.gm_model.specs.Components.{IsAssigned}
use Rattle.gm_model.specs.Expressions.{HasUnits}
use Rattle.gm_model.specs.Kinds.{HasKind, AreGoodParams}
use Rattle.gm_model.specs.Maps.{IsEmbedAt, IsSchema, IsSound, dimension, type_of}
use Rattle.gm_model.specs.Matches.{Placement, IsCandidate, IsMatch}
use Rattle.gm_model.specs.NewValues.{LiesIn}
use Rattle.gm_model.specs.Orbits.{HasCount, IsListOf, IsPairBefore}
use Rattle.gm_model.specs.Trees.{Tree}
use Rattle.gm_model.specs.Unfolding.{IsUnfolding, name_in, scene_of}
use Rattle.gm_model.specs.Rules.{hook_label, width}
use Rattle.gm_theory.proofs.LikeCandidates.{found_like}
use Rattle.gm_theory.proofs.Candidates.{match_is_candidate}
use Rattle.gm_theory.proofs.CandidatesFound.{candidate_exists, some_position, IsDead, dead_or_live, broken_or_met, repeat_or_none, decide_before}
use Rattle.gm_theory.proofs.FirstFound.{decide_pair_below}
use Rattle.gm_theory.proofs.Found.{HasNoRepeat, IsFound, found_match, hook_darts, match_found}
use Rattle.gm_theory.proofs.Keeps.{rules_keep_generalised_maps}
use Rattle.gm_theory.proofs.Lists.{some_same, none_some}
use Rattle.gm_theory.proofs.ListsGathered.{zipped, tabulated, IsSorted, sorted_places, gather, gathered, gathers, gather_sorted}
use Rattle.gm_theory.proofs.OrbitsListed.{list_all_of}
use Rattle.gm_theory.proofs.OutcomesFound.{law, IsRefusedWithout, pre_or_none, ready_or_none, IsValueless, decide_decider, decide_valueless, valued}
use Rattle.gm_theory.proofs.ReadingsUnits.{has_units}
use Rattle.gm_theory.proofs.Results.{unfolding_generalised, unfolding_below}
use Rattle.gm_theory.proofs.Tests.{true_or_false, not_both, search_below}
use Rattle.gm_theory.proofs.ValuesFound.{IsLeast, decide_assigned, assigned_below}
use Rattle.gm_theory.proofs.ValuesKept.{match_reading}
use Rattle.gm_theory.proofs.ValuesLists.{IsIn, in_contained, contains_in}
use Rattle.gm_theory.proofs.ValuesReach.{IsDecided, decide_orbit}
use Rattle.gm_theory.specs.inner.Outcomes.{ApplicationsHaveBudgets}
use Rattle.gm_theory.specs.inner.Theorem.{Unfolded, Unfolds}

abbrev HasBudget : Application → Type 0
HasBudget app = (most : ℕ) × IsBudget app most

of_work : (app : Application) (positions reached read : ℕ) → HasPositions app positions → IsWork app reached read → HasBudget app
of_work app positions reached read has work = (24 * (dimension app.map + 1) * (length app.rule.nodes * positions + reached + read + 1), Of positions reached read has work)

decide_decider_before : (a b : Decider) → IsDecided (IsDeciderBefore a b)
decide_decider_before a b = go (cases_order a.embed b.embed) (decide_before a.node a.position b.node b.position)
  where
    go : (a.embed ≡ b.embed) ⊎ ((a.embed < b.embed) ⊎ (b.embed < a.embed)) → IsDecided (IsPairBefore a.node a.position b.node b.position) → IsDecided (IsDeciderBefore a b)
    go (inr (inl h)) side = inl (inl h)
    go (inl e) (inl h) = inl (inr (e, h))
    go (inl e) (inr none) = inr neither
      where
        neither : IsDeciderBefore a b → ⊥
        neither (inl h) = omega arith
        neither (inr (f, h)) = none h
    go (inr (inr h)) side = inr neither
      where
        neither : IsDeciderBefore a b → ⊥
        neither (inl k) = omega arith
        neither (inr (f, k)) = omega arith

module _ (app : Application) (of_schema : IsSchema app.map.schema) (sound : IsSound app.map) (accepted : IsAccepted app.map.schema app.rule) (params : AreGoodParams app.rule app.params) (place : Placement) (matched : IsMatch app.map app.rule app.hooks place) where
  candidate : IsCandidate app.map app.rule app.hooks place
  candidate = match_is_candidate app.map app.rule place accepted.in_range accepted.incidence app.hooks matched

  -- ---- what reading takes

  units_at : (p : ℕ) (tree : Tree) (kind : Kind) → p < place.positions → HasKind app.map.schema app.rule tree kind → (u : ℕ) × HasUnits (reading_at app place p) tree u
  units_at p tree kind b has_kind = has_units app.rule (reading_at app place p) (match_reading app place sound.is_map sound.generalised matched p b) params tree (has_kind.in_range, (kind, has_kind.kind_is))

  pre_units : (u : ℕ) × IsPreUnits app place u
  pre_units = go app.rule.pre refl
    where
      go : (o : Option Tree) → app.rule.pre ≡ o → (u : ℕ) × IsPreUnits app place u
      go None e = (0, inl (e, refl))
      go (Some tree) e = let u : (u : ℕ) × HasUnits (reading_at app place 0) tree u = units_at 0 tree kinds.Bool (some_position app.map app.rule app.hooks place candidate) (accepted.typed.pre tree e) in (u.0, inr (tree, e, u.1))

  module _ (result : Unfolded) (unfolds : Unfolds app.map app.rule place result) where
    abbrev IsLiveAfter : ℕ → Type 0
    IsLiveAfter d = IsTrue (result.live d)

    -- ---- the darts that are reached

    abbrev IsReachedBy : ℕ → Embed → ℕ → ℕ → ℕ → Type 0
    IsReachedBy e embed d x p = IsAssigned app.rule e x × LiesIn app.map app.rule place result.alpha e (type_of embed) d x p

    decide_reached : (e : ℕ) (embed : Embed) → IsEmbedAt app.map.schema e embed → (d : ℕ) → IsDecided (IsReachedAt app place IsLiveAfter result.alpha e embed d)
    decide_reached e embed at d = go (true_or_false (result.live d))
      where
        decide : IsLiveAfter d → (x p : ℕ) → IsDecided (IsReachedBy e embed d x p)
        decide live x p = by (decide_assigned app.rule e x)
            (decide_orbit app.map.schema.dim result.alpha (type_of embed) IsLiveAfter result.next (λ i t. of_schema.labels e i embed at t)
            (unfolding_generalised (scene_of app.map app.rule place) (length app.rule.nodes) (width app.rule) (hook_label app.rule) (law app of_schema sound accepted params place matched) IsLiveAfter result.alpha result.next unfolds).stays
            (unfolding_below (scene_of app.map app.rule place) (length app.rule.nodes) (width app.rule) (hook_label app.rule) (law app of_schema sound accepted params place matched) IsLiveAfter result.alpha result.next unfolds) d (name_in app.map app.rule place x p) live)
          where
            by : IsDecided (IsAssigned app.rule e x) → IsDecided (LiesIn app.map app.rule place result.alpha e (type_of embed) d x p) → IsDecided (IsReachedBy e embed d x p)
            by (inl a) (inl l) = inl (a, l)
            by (inr none) side = inr (λ h. none h.0)
            by (inl a) (inr none) = inr (λ h. none h.1)

        searched : IsLiveAfter d → ((x : ℕ) × (p : ℕ) × (x < length app.rule.nodes) × (p < place.positions) × IsReachedBy e embed d x p) ⊎ ((x p : ℕ) → x < length app.rule.nodes → p < place.positions → IsReachedBy e embed d x p → ⊥) → IsDecided (IsReachedAt app place IsLiveAfter result.alpha e embed d)
        searched live (inl (x, p, b, c, (a, l))) = inl (live, (x, p, (a, c), l))
        searched live (inr none) = inr (λ h. none h.1.0 h.1.1 (assigned_below app.rule e h.1.0 h.1.2.0) h.1.2.1 (h.1.2.0, h.1.3))

        go : IsLiveAfter d ⊎ (result.live d ≡ false) → IsDecided (IsReachedAt app place IsLiveAfter result.alpha e embed d)
        go (inl live) = searched live (decide_pair_below (IsReachedBy e embed d) (decide live) place.positions (length app.rule.nodes))
        go (inr dead) = inr (λ h. not_both (result.live d) h.0 dead)

    abbrev IsReachedCount : ℕ → ℕ → Type 0
    IsReachedCount e c = (embed : Embed) → IsEmbedAt app.map.schema e embed → HasCount (IsReachedAt app place IsLiveAfter result.alpha e embed) c

    reached_count : (e : ℕ) → (c : ℕ) × IsReachedCount e c
    reached_count e = go (slice_get app.map.schema.embeds e) refl
      where
        counted : (embed : Embed) → IsEmbedAt app.map.schema e embed → (darts : List ℕ) × IsListOf (IsReachedAt app place IsLiveAfter result.alpha e embed) darts
        counted embed at = list_all_of (IsReachedAt app place IsLiveAfter result.alpha e embed) (decide_reached e embed at) result.next
            (λ d h. unfolding_below (scene_of app.map app.rule place) (length app.rule.nodes) (width app.rule) (hook_label app.rule) (law app of_schema sound accepted params place matched) IsLiveAfter result.alpha result.next unfolds d h.0)

        go : (o : Option Embed) → slice_get app.map.schema.embeds e ≡ o → (c : ℕ) × IsReachedCount e c
        go None f = (0, λ embed at. none_some embed (sym f ∙ at))
        go (Some embed) f = let l : (darts : List ℕ) × IsListOf (IsReachedAt app place IsLiveAfter result.alpha e embed) darts = counted embed f in
            (length l.0, λ other at. subst (λ (m : Embed). HasCount (IsReachedAt app place IsLiveAfter result.alpha e m) (length l.0)) (some_same embed other (sym f ∙ at)) (l.0, l.1, refl))

    reached_sum : (count : ℕ) × IsReachedSum app place IsLiveAfter result.alpha count
    reached_sum = go (tabulated IsReachedCount 0 (length app.map.schema.embeds) (λ e h. reached_count e))
      where
        go : (counts : List ℕ) × (length counts ≡ length app.map.schema.embeds) × ((e c : ℕ) → slice_get counts e ≡ Some c → IsReachedCount (0 + e) c) → (count : ℕ) × IsReachedSum app place IsLiveAfter result.alpha count
        go (counts, long, each) = (sum counts, record { counts = counts; each = long; counts_are = counts_are; sum_is = refl })
          where
            counts_are : (e c : ℕ) (embed : Embed) → slice_get counts e ≡ Some c → IsEmbedAt app.map.schema e embed → HasCount (IsReachedAt app place IsLiveAfter result.alpha e embed) c
            counts_are e c embed f at = let same : 0 + e ≡ e = omega arith in subst (λ k. IsReachedCount k c) same (each e c f) embed at

    -- ---- the instances that are read

    abbrev decider_at : ℕ → ℕ → ℕ → Decider
    decider_at e x p = record { embed = e; node = x; position = p }

    abbrev IsValuelessBefore : Decider → ℕ → ℕ → ℕ → Type 0
    IsValuelessBefore decider e x p = IsValueless app of_schema sound accepted params place matched result unfolds e x p × IsDeciderBefore (decider_at e x p) decider

    decide_valueless_before : (decider : Decider) (e x p : ℕ) → IsDecided (IsValuelessBefore decider e x p)
    decide_valueless_before decider e x p = go (decide_valueless app of_schema sound accepted params place matched result unfolds e x p) (decide_decider_before (decider_at e x p) decider)
      where
        go : IsDecided (IsValueless app of_schema sound accepted params place matched result unfolds e x p) → IsDecided (IsDeciderBefore (decider_at e x p) decider) → IsDecided (IsValueless app of_schema sound accepted params place matched result unfolds e x p × IsDeciderBefore (decider_at e x p) decider)
        go (inl a) (inl b) = inl (a, b)
        go (inr none) side = inr (λ h. none h.0)
        go (inl a) (inr none) = inr (λ h. none h.1)

    abbrev HasValuelessBefore : Decider → ℕ → Type 0
    HasValuelessBefore decider e = (x : ℕ) × (p : ℕ) × (x < length app.rule.nodes) × (p < place.positions) × IsValuelessBefore decider e x p

    decide_has_valueless_before : (decider : Decider) (e : ℕ) → IsDecided (HasValuelessBefore decider e)
    decide_has_valueless_before decider e = go (decide_pair_below (IsValuelessBefore decider e) (decide_valueless_before decider e) place.positions (length app.rule.nodes))
      where
        go : HasValuelessBefore decider e ⊎ ((x p : ℕ) → x < length app.rule.nodes → p < place.positions → IsValuelessBefore decider e x p → ⊥) → IsDecided (HasValuelessBefore decider e)
        go (inl h) = inl h
        go (inr none) = inr (λ h. none h.0 h.1 h.2 h.3 h.4)

    -- each deciding instance before it has a value, or one has none
    decide_valued_before : (decider : Decider) → IsDecided (IsValuedBefore app place IsLiveAfter result.alpha decider)
    decide_valued_before decider = go (search_below (HasValuelessBefore decider) (decide_has_valueless_before decider) (length app.map.schema.embeds))
      where
        go : ((e : ℕ) × (e < length app.map.schema.embeds) × HasValuelessBefore decider e) ⊎ ((e : ℕ) → e < length app.map.schema.embeds → HasValuelessBefore decider e → ⊥) → IsDecided (IsValuedBefore app place IsLiveAfter result.alpha decider)
        go (inl (e, b, (x, p, c, c', (bad, before)))) = inr (λ all. bad.1 (all (decider_at e x p) before bad.0))
        go (inr none) = inl valued_before
          where
            valued_before : IsValuedBefore app place IsLiveAfter result.alpha decider
            valued_before other before by = valued app of_schema sound accepted params place matched result unfolds other.embed other.node other.position by
                (λ bad. none other.embed (slice_get_within app.map.schema.embeds other.embed by.embed by.embed_at) (other.node, other.position, assigned_below app.rule other.embed other.node by.deciding.assigned.0, by.deciding.assigned.1, (bad, before)))

    decide_read : (decider : Decider) → IsDecided (IsRead app place IsLiveAfter result.alpha decider)
    decide_read decider = go (decide_decider app of_schema sound accepted params place matched result unfolds decider.embed decider.node decider.position) (decide_valued_before decider)
      where
        go : IsDecided (IsDecider app place IsLiveAfter result.alpha decider) → IsDecided (IsValuedBefore app place IsLiveAfter result.alpha decider) → IsDecided (IsRead app place IsLiveAfter result.alpha decider)
        go (inl a) (inl b) = inl (a, b)
        go (inr none) side = inr (λ h. none h.0)
        go (inl a) (inr none) = inr (λ h. none h.1)

    -- ---- in their order

    abbrev one_by : (decider : Decider) → IsDecided (IsRead app place IsLiveAfter result.alpha decider) → List Decider
    one_by decider (inl read) = decider ∷ []
    one_by decider (inr none) = []

    one_in : (decider : Decider) (side : IsDecided (IsRead app place IsLiveAfter result.alpha decider)) (d : Decider) → IsIn d (one_by decider side) → (decider ≡ d) × IsRead app place IsLiveAfter result.alpha decider
    one_in decider (inl read) d (inl e) = (e, read)
    one_in decider (inl read) d (inr i) = absurd i
    one_in decider (inr none) d i = absurd i

    in_one : (decider : Decider) (side : IsDecided (IsRead app place IsLiveAfter result.alpha decider)) → IsRead app place IsLiveAfter result.alpha decider → IsIn decider (one_by decider side)
    in_one decider (inl read) h = inl refl
    in_one decider (inr none) h = absurd (none h)

    one_sorted : (decider : Decider) (side : IsDecided (IsRead app place IsLiveAfter result.alpha decider)) → IsSorted IsDeciderBefore (one_by decider side)
    one_sorted decider (inl read) = (λ y i. absurd i, tt)
    one_sorted decider (inr none) = tt

    at_position : ℕ → ℕ → ℕ → List Decider
    at_position e x p = one_by (record { embed = e; node = x; position = p }) (decide_read (record { embed = e; node = x; position = p }))

    at_node : ℕ → ℕ → List Decider
    at_node e x = gather IsDeciderBefore (at_position e x) 0 place.positions

    at_embed : ℕ → List Decider
    at_embed e = gather IsDeciderBefore (at_node e) 0 (length app.rule.nodes)

    all_read : List Decider
    all_read = gather IsDeciderBefore at_embed 0 (length app.map.schema.embeds)

    -- what stands in the list of one place
    in_position : (e x p : ℕ) (d : Decider) → IsIn d (at_position e x p) → (record { embed = e; node = x; position = p } ≡ d) × IsRead app place IsLiveAfter result.alpha (record { embed = e; node = x; position = p })
    unfolding at_position
    in_position e x p d i = one_in (record { embed = e; node = x; position = p }) (decide_read (record { embed = e; node = x; position = p })) d i

    in_node : (e x : ℕ) (d : Decider) → IsIn d (at_node e x) → (d.embed ≡ e) × (d.node ≡ x) × IsRead app place IsLiveAfter result.alpha d
    unfolding at_node
    in_node e x d i = go (gathered IsDeciderBefore (at_position e x) 0 place.positions d i)
      where
        go : (p : ℕ) × (0 ≤ p) × (p < 0 + place.positions) × IsIn d (at_position e x p) → (d.embed ≡ e) × (d.node ≡ x) × IsRead app place IsLiveAfter result.alpha d
        go (p, h, b, j) = let at = in_position e x p d j in (ap (λ (c : Decider). c.embed) (sym at.0), ap (λ (c : Decider). c.node) (sym at.0), subst (IsRead app place IsLiveAfter result.alpha) at.0 at.1)

    in_embed : (e : ℕ) (d : Decider) → IsIn d (at_embed e) → (d.embed ≡ e) × IsRead app place IsLiveAfter result.alpha d
    unfolding at_embed
    in_embed e d i = go (gathered IsDeciderBefore (at_node e) 0 (length app.rule.nodes) d i)
      where
        go : (x : ℕ) × (0 ≤ x) × (x < 0 + length app.rule.nodes) × IsIn d (at_node e x) → (d.embed ≡ e) × IsRead app place IsLiveAfter result.alpha d
        go (x, h, b, j) = let at = in_node e x d j in (at.0, at.2)

    in_all : (d : Decider) → IsIn d all_read → IsRead app place IsLiveAfter result.alpha d
    unfolding all_read
    in_all d i = go (gathered IsDeciderBefore at_embed 0 (length app.map.schema.embeds) d i)
      where
        go : (e : ℕ) × (0 ≤ e) × (e < 0 + length app.map.schema.embeds) × IsIn d (at_embed e) → IsRead app place IsLiveAfter result.alpha d
        go (e, h, b, j) = (in_embed e d j).1

    all_in : (d : Decider) → IsRead app place IsLiveAfter result.alpha d → IsIn d all_read
    unfolding all_read at_embed at_node at_position
    all_in d read = gathers IsDeciderBefore at_embed 0 (length app.map.schema.embeds) d.embed d (omega arith) (omega (arith, slice_get_within app.map.schema.embeds d.embed read.0.embed read.0.embed_at))
        (gathers IsDeciderBefore (at_node d.embed) 0 (length app.rule.nodes) d.node d (omega arith) (omega (arith, assigned_below app.rule d.embed d.node read.0.deciding.assigned.0))
        (gathers IsDeciderBefore (at_position d.embed d.node) 0 place.positions d.position d (omega arith) (omega (arith, read.0.deciding.assigned.1)) (in_one d (decide_read d) read)))

    all_sorted : IsSorted IsDeciderBefore all_read
    unfolding all_read at_embed at_node at_position
    all_sorted = gather_sorted IsDeciderBefore at_embed (λ e. gather_sorted IsDeciderBefore (at_node e) (λ x. gather_sorted IsDeciderBefore (at_position e x) (λ p. one_sorted (record { embed = e; node = x; position = p }) (decide_read (record { embed = e; node = x; position = p }))) (positions e x) 0 place.positions) (nodes e) 0 (length app.rule.nodes)) embeds 0 (length app.map.schema.embeds)
      where
        positions : (e x k l : ℕ) (a b : Decider) → k < l → IsIn a (at_position e x k) → IsIn b (at_position e x l) → IsDeciderBefore a b
        positions e x k l a b h i j = subst (λ c. IsDeciderBefore c b) (in_position e x k a i).0 (subst (IsDeciderBefore (record { embed = e; node = x; position = k })) (in_position e x l b j).0 (inr (refl, inr (refl, h))))

        nodes : (e k l : ℕ) (a b : Decider) → k < l → IsIn a (at_node e k) → IsIn b (at_node e l) → IsDeciderBefore a b
        nodes e k l a b h i j = let m = in_node e k a i in let n = in_node e l b j in inr (m.0 ∙ sym n.0, inl (omega (arith, m.1, n.1)))

        embeds : (k l : ℕ) (a b : Decider) → k < l → IsIn a (at_embed k) → IsIn b (at_embed l) → IsDeciderBefore a b
        embeds k l a b h i j = inl (omega (arith, (in_embed k a i).0, (in_embed l b j).0))

    read_units : (d : Decider) → IsIn d all_read → (u : ℕ) × IsReadUnits app place d u
    read_units d i = by (in_all d i)
      where
        by : IsRead app place IsLiveAfter result.alpha d → (u : ℕ) × IsReadUnits app place d u
        by (decider, before) =
            let u : (u : ℕ) × HasUnits (reading_at app place d.position) decider.deciding.assigned.0.0 u = units_at d.position decider.deciding.assigned.0.0 decider.embed.kind decider.deciding.assigned.1 (accepted.typed.sets d.node d.embed decider.deciding.assigned.0.0 decider.embed decider.deciding.assigned.0.1 decider.embed_at) in
            (u.0, (decider.deciding.assigned.0.0, (decider.deciding.assigned.0.1, decider.deciding.assigned.1), u.1))

    read_sum : (u : ℕ) × IsReadSum app place IsLiveAfter result.alpha u
    read_sum = go (zipped (IsReadUnits app place) all_read read_units)
      where
        go : (units : List ℕ) × AllZip (IsReadUnits app place) all_read units → (u : ℕ) × IsReadSum app place IsLiveAfter result.alpha u
        go (units, all) = (
          sum units,
          record {
            read = all_read;
            ordered = sorted_places IsDeciderBefore all_read all_sorted;
            same = λ d. ((λ c. in_all d (in_contained all_read d c)), (λ h. contains_in all_read d (all_in d h)));
            units = units;
            units_are = all;
            sum_is = refl;
          },
        )

  -- ---- the budget

  ready_budget : IsReady app place → HasBudget app
  ready_budget ready = go (rules_keep_generalised_maps app.map app.rule app.hooks place sound.is_map.below sound.generalised accepted matched).exists
    where
      go : (result : Unfolded) × Unfolds app.map app.rule place result → HasBudget app
      go (result, unfolds) =
          let reached : (count : ℕ) × IsReachedSum app place (λ d. IsTrue (result.live d)) result.alpha count = reached_sum result unfolds in
          let read : (w : ℕ) × IsReadSum app place (λ d. IsTrue (result.live d)) result.alpha w = read_sum result unfolds in
          of_work app place.positions reached.0 (pre_units.0 + read.0) (Candidate place (hook_darts app place accepted matched) candidate) (Ready place result.live result.alpha reached.0 pre_units.0 read.0 ready (subst (λ n. IsUnfolding (scene_of app.map app.rule place) (λ d. IsTrue (result.live d)) result.alpha n) unfolds.next_is unfolds) reached.1 pre_units.1 read.1)

  unready_budget : (IsReady app place → ⊥) → HasBudget app
  unready_budget none = of_work app place.positions 0 pre_units.0 (Candidate place (hook_darts app place accepted matched) candidate) (NotReady place pre_units.0 matched none pre_units.1)

  found_budget : HasBudget app
  found_budget = go (pre_or_none app of_schema sound accepted params place matched)
    where
      ready : IsReady app place ⊎ IsRefusedWithout app of_schema sound accepted params place matched (IsReady app place) → HasBudget app
      ready (inl r) = ready_budget r
      ready (inr (cause, r, none)) = unready_budget none

      go : MeetsPre app place ⊎ IsRefusedWithout app of_schema sound accepted params place matched (MeetsPre app place) → HasBudget app
      go (inl pre) = ready (ready_or_none app of_schema sound accepted params place matched pre)
      go (inr (cause, r, none)) = unready_budget (λ ready. none ready.pre)

pub applications_have_budgets : ApplicationsHaveBudgets
applications_have_budgets app of_schema sound accepted count params = begin (dead_or_live app)
  where
    -- the candidate is no match, and so there is none
    unfound : (place : Placement) → HasHookDarts app → IsCandidate app.map app.rule app.hooks place → (IsFound app place → ⊥) → HasBudget app
    unfound place darts candidate none =
        of_work app place.positions 0 0 (Candidate place darts candidate) (NoMatch (λ other found. none (found_like app accepted.in_range accepted.incidence other place candidate (match_found app other accepted found))))

    at : (place : Placement) (darts : HasHookDarts app) (candidate : IsCandidate app.map app.rule app.hooks place) →
        ((x : ℕ) × (p : ℕ) × (i : ℕ) × IsFirstBroken app place x p i) ⊎ MeetsSteps app place → ((x : ℕ) × (p : ℕ) × (y : ℕ) × (q : ℕ) × IsFirstRepeat app place x p y q) ⊎ HasNoRepeat app place → HasBudget app
    at place darts candidate (inl (x, p, i, first)) side = unfound place darts candidate (λ found. first.broken (found.steps x p i first.instance first.label))
    at place darts candidate (inr met) (inl (x, p, y, q, first)) = unfound place darts candidate (λ found. found.distinct x p y q first.here)
    at place darts candidate (inr met) (inr apart) = found_budget app of_schema sound accepted params place (found_match app place sound.generalised accepted (record { darts = darts; candidate = candidate; steps = met; distinct = apart }))

    begin : ((k : ℕ) × (k < length app.hooks) × IsLeast (IsDead app) k) ⊎ HasHookDarts app → HasBudget app
    begin (inl (k, b, ((d, found, dead), least))) = of_work app 1 0 0 (NoDarts no_darts) (NoMatch (λ place found. no_darts (hook_darts app place accepted found)))
      where
        no_darts : HasHookDarts app → ⊥
        no_darts darts = dead (darts d (k, b, get_or_from_slice_get app.hooks k d d found))
    begin (inr darts) = go (candidate_exists app.map app.rule sound.is_map sound.generalised accepted.in_range accepted.incidence app.hooks count darts)
      where
        go : (place : Placement) × IsCandidate app.map app.rule app.hooks place → HasBudget app
        go (place, candidate) = at place darts candidate (broken_or_met app place) (repeat_or_none app place)
