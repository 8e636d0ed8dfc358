-- The steps of an application are within its budget, wherever it ends.
use Rattle.std.proofs.Common.{◌≡◌, ℕ, ◌+◌, ◌*◌, ◌≤◌, List, length, IsTrue, refl, sym, subst, arith}
use Rattle.std.proofs.lemmas.Nat.{mul-le}
use Rattle.gm_model.specs.declared.value.Value.{Value}
use Rattle.gm_model.specs.Acceptance.{IsAccepted}
use Rattle.gm_model.specs.Applications.{Application, IsReady, IsPreUnits, IsReachedSum, IsReadSum, HasPositions, NoDarts, Candidate, IsWork, NoMatch, NotReady, Ready, IsBudget, Of}
use Rattle.gm_model.specs.Maps.{IsSchema, IsSound}
use Rattle.gm_model.specs.Matches.{Placement, IsCandidate, IsMatch}
use Rattle.gm_model.specs.Rules.{Rule}
use Rattle.gm_model.specs.Unfolding.{added_nodes}
use Rattle.gm_arena.specs.inner.ArenaAsMap.{as_map}
use Rattle.gm_arena.specs.inner.ArenaMap.{ArenaMap}
use Rattle.gm_match.specs.inner.Outcome.{application_of, IsAnswer}
use Rattle.gm_plan.specs.inner.InArena.{placement_in}
use Rattle.gm_plan.specs.inner.Placed.{Placed}
use Rattle.gm_theory.specs.inner.Theorem.{Unfolded, Unfolds, IsDartOf}
use Rattle.gm_theory.proofs.Candidates.{match_is_candidate}
use Rattle.gm_theory.proofs.Found.{IsFound, match_found}
use Rattle.gm_theory.proofs.LikeCandidates.{candidates_like}
use Rattle.gm_theory.proofs.CandidatesFound.{some_position}
use Rattle.gm_apply.specs.inner.ReadOnce.{IsBudgetOnce, IsReadOnceSum, OfReady}
use Rattle.gm_apply.proofs.LikeApplications.{pre_units_there, ready_there}
use Rattle.gm_apply.proofs.LikeReadOnce.{once_sum_there}
use Rattle.gm_apply.proofs.LikeResults.{results_like}
use Rattle.gm_apply.proofs.LikeScenes.{unfolding_there}
use Rattle.gm_apply.proofs.LikeValues.{reached_sum_there, read_sum_there}
use Rattle.gm_apply.proofs.LikePlaces.{AreLikeAt, same_map, places_back}

fits_within : (d n reached pre sets : ℕ) → 8 * d * (n + 1) + 16 * d * (n + reached + 1) + 6 * d * pre + 6 * d * sets ≤ 24 * d * (n + reached + (pre + sets) + 1)
fits_within d n reached pre sets =
    let one : 8 * d * (n + 1) + 16 * d * (n + reached + 1) ≤ 24 * d * (n + reached + 1) = omega arith in
    let two : 6 * d * pre + 6 * d * sets ≤ 24 * d * (pre + sets) = omega arith in
    omega (arith, one, two)

module _ (m : ArenaMap) (rule : Rule) (hooks : List ℕ) (params : List Value) where
  abbrev app : Application
  app = application_of m rule hooks params

  -- ---- refused by its match

  within_budget : (factor k u reached read before after : ℕ) → factor ≤ 24 → u ≤ read → after ≤ before + factor * (m.schema.dim + 1) * (length rule.nodes * k + 1) + 6 * (m.schema.dim + 1) * u
      → after ≤ before + 24 * (m.schema.dim + 1) * (length rule.nodes * k + reached + read + 1)
  within_budget factor k u reached read before after few some h =
      let d = m.schema.dim + 1 in
      let one : factor * d * (length rule.nodes * k + 1) ≤ 24 * d * (length rule.nodes * k + 1) = mul-le (factor * d) (length rule.nodes * k + 1) (24 * d) (length rule.nodes * k + 1) (mul-le factor d 24 d few (omega arith)) (omega arith) in
      let two : 6 * d * u ≤ 24 * d * read = mul-le (6 * d) u (24 * d) read (mul-le 6 d 24 d (omega arith) (omega arith)) some in
      omega (arith, h, one, two)

  pub find_within : (most before after : ℕ) → IsBudget app most → ((k : ℕ) → HasPositions app k → after ≤ before + 8 * (m.schema.dim + 1) * (length rule.nodes * k + 1)) → after ≤ before + most
  find_within most before after (Of k reached read positions work) cost =
      let found = cost k positions in
      within_budget 8 k 0 reached read before after (omega arith) (omega arith) (omega (arith, found))

  pub find_within_once : (most before after : ℕ) → IsAccepted m.schema rule → IsBudgetOnce app most → ((k : ℕ) → HasPositions app k → after ≤ before + 8 * (m.schema.dim + 1) * (length rule.nodes * k + 1)) → after ≤ before + most
  find_within_once most before after accepted (OfReady place live alpha reached u w ready unfolded reaches units reads) cost =
      let here = match_found app place accepted ready.matched in
      let found = cost place.positions (Candidate place here.darts here.candidate) in
      within_budget 8 place.positions 0 reached (u + w) before after (omega arith) (omega arith) (omega (arith, found))

  -- ---- found

  module _ (sound : IsSound (as_map m)) (accepted : IsAccepted m.schema rule) (found : Placed) (answer : IsAnswer m rule hooks found) where
    abbrev here : Placement
    here = placement_in m found

    -- reading the precondition takes so much of what is read
    record IsReadHere (read : ℕ) : Type 0 where
      units : ℕ
      pre_units : IsPreUnits app here units
      few : units ≤ read

    found_here : IsFound app here
    found_here = match_found app here accepted answer.matched.is_match

    candidate_of : (place : Placement) → IsMatch (as_map m) rule hooks place → IsCandidate (as_map m) rule hooks place
    candidate_of place = match_is_candidate (as_map m) rule place accepted.in_range accepted.incidence hooks

    units_here : (place : Placement) (u : ℕ) → IsMatch (as_map m) rule hooks place → IsPreUnits app place u → IsPreUnits app here u
    units_here place u theirs units =
        let like = candidates_like app accepted.in_range accepted.incidence here place found_here.candidate (candidate_of place theirs) in
        let both = same_map rule (as_map m) here place accepted sound.is_map sound.generalised like answer.matched.is_match.embedded.live in
        pre_units_there rule hooks params (as_map m) (as_map m) place here (places_back rule (as_map m) (as_map m) here place both) (some_position (as_map m) rule hooks place (candidate_of place theirs)) u units

    pub positions_here : (k : ℕ) → HasPositions app k → k ≡ found.positions
    positions_here _ (NoDarts none) = absurd (none found_here.darts)
    positions_here _ (Candidate place darts candidate) = (candidates_like app accepted.in_range accepted.incidence place here candidate found_here.candidate).positions

    read_here : (reached read : ℕ) → IsWork app reached read → IsReadHere read
    read_here _ _ (NoMatch none) = absurd (none here answer.matched.is_match)
    read_here _ _ (NotReady place u theirs unready units) = record { units = u; pre_units = units_here place u theirs units; few = omega arith }
    read_here _ _ (Ready place live alpha reached u w ready unfolded reaches units sum) = record { units = u; pre_units = units_here place u ready.matched units; few = omega arith }

    find_cost : (before after : ℕ) → ((k : ℕ) → HasPositions app k → after ≤ before + 8 * (m.schema.dim + 1) * (length rule.nodes * k + 1)) → after ≤ before + 8 * (m.schema.dim + 1) * (length rule.nodes * found.positions + 1)
    find_cost before after cost = cost found.positions (Candidate here found_here.darts found_here.candidate)

    -- the match is found, the precondition is read, and what comes behind takes so many steps more for each instance
    found_within : (most more before found_at read_at after : ℕ) → IsBudget app most → more ≤ 16
        → ((k : ℕ) → HasPositions app k → found_at ≤ before + 8 * (m.schema.dim + 1) * (length rule.nodes * k + 1))
        → ((u : ℕ) → IsPreUnits app here u → read_at ≤ found_at + 6 * (m.schema.dim + 1) * u)
        → after ≤ read_at + more * (m.schema.dim + 1) * (length rule.nodes * found.positions + 1) → after ≤ before + most
    found_within most more before found_at read_at after (Of k reached read positions work) few finding reading last =
        let this = read_here reached read work in
        let one = find_cost before found_at finding in
        let two = reading this.units this.pre_units in
        let d = m.schema.dim + 1 in
        let n = length rule.nodes * found.positions + 1 in
        let sum : 8 * d * n + more * d * n ≡ (8 + more) * d * n = omega arith in
        let all : after ≤ before + (8 + more) * d * n + 6 * d * this.units = omega (arith, one, two, last, sum) in
        within_budget (8 + more) k this.units reached read before after (omega (arith, few)) this.few
        (subst (λ p. after ≤ before + (8 + more) * (m.schema.dim + 1) * (length rule.nodes * p + 1) + 6 * (m.schema.dim + 1) * this.units) (sym (positions_here k positions)) all)

    -- nothing comes behind the precondition
    pub pre_within : (most before found_at read_at : ℕ) → IsBudget app most
        → ((k : ℕ) → HasPositions app k → found_at ≤ before + 8 * (m.schema.dim + 1) * (length rule.nodes * k + 1))
        → ((u : ℕ) → IsPreUnits app here u → read_at ≤ found_at + 6 * (m.schema.dim + 1) * u) → read_at ≤ before + most
    pre_within most before found_at read_at budget finding reading = found_within most 0 before found_at read_at read_at budget (omega arith) finding reading (omega arith)

    pub pre_within_once : (most before found_at read_at : ℕ) → IsBudgetOnce app most
        → ((k : ℕ) → HasPositions app k → found_at ≤ before + 8 * (m.schema.dim + 1) * (length rule.nodes * k + 1))
        → ((u : ℕ) → IsPreUnits app here u → read_at ≤ found_at + 6 * (m.schema.dim + 1) * u) → read_at ≤ before + most
    pre_within_once most before found_at read_at (OfReady place live alpha reached u w ready unfolded reaches units reads) finding reading =
        let candidate = candidate_of place ready.matched in
        let same = (candidates_like app accepted.in_range accepted.incidence place here candidate found_here.candidate).positions in
        let one = find_cost before found_at finding in
        let two = reading u (units_here place u ready.matched units) in
        within_budget 8 place.positions u reached (u + w) before read_at (omega arith) (omega arith)
        (subst (λ p. read_at ≤ before + 8 * (m.schema.dim + 1) * (length rule.nodes * p + 1) + 6 * (m.schema.dim + 1) * u) (sym same) (omega (arith, one, two)))

    -- ---- ready

    -- the work of an application that is ready, over a result of this match
    pub record IsReadyWork (reached read : ℕ) : Type 0 where
      pub result : Unfolded
      pub unfolds : Unfolds (as_map m) rule here result
      pub reaches : IsReachedSum app here (IsDartOf result) result.alpha reached
      pub pre : ℕ
      pub sets : ℕ
      pub pre_units : IsPreUnits app here pre
      pub read_sum : IsReadSum app here (IsDartOf result) result.alpha sets
      pub read_is : read ≡ pre + sets

    module _ (of_schema : IsSchema m.schema) (ready_here : IsReady app here) where
      same_here : (place : Placement) → IsMatch (as_map m) rule hooks place → AreLikeAt rule (as_map m) (as_map m) place here
      same_here place theirs =
          places_back rule (as_map m) (as_map m) here place
          (same_map rule (as_map m) here place accepted sound.is_map sound.generalised (candidates_like app accepted.in_range accepted.incidence here place found_here.candidate (candidate_of place theirs)) answer.matched.is_match.embedded.live)

      pub ready_work : (reached read : ℕ) → IsWork app reached read → IsReadyWork reached read
      ready_work _ _ (NoMatch none) = absurd (none here answer.matched.is_match)
      ready_work _ _ (NotReady place u theirs unready units) =
          absurd (unready (ready_there rule hooks params (as_map m) (as_map m) here place (places_back rule (as_map m) (as_map m) place here (same_here place theirs)) ready_here theirs))
      ready_work _ _ (Ready place live alpha reached u w ready unfolded reaches units reads) =
          let both = same_here place ready.matched in
          let result : Unfolded = record { live = live; alpha = alpha; next = m.next + place.positions * added_nodes rule } in
          let unfolds : Unfolds (as_map m) rule here result = unfolding_there rule (as_map m) (as_map m) place here both (λ d. IsTrue (live d)) alpha result.next unfolded in
          let like = results_like rule hooks (as_map m) (as_map m) place here both of_schema ready.matched result result unfolded unfolds in
          record {
            result = result;
            unfolds = unfolds;
            reaches = reached_sum_there rule hooks params (as_map m) (as_map m) place here result result like reached reaches;
            pre = u;
            sets = w;
            pre_units = units_here place u ready.matched units;
            read_sum = read_sum_there rule hooks params (as_map m) (as_map m) place here result result like w reads;
            read_is = refl;
          }

      -- the match is found, the precondition is read, and what comes behind takes so many steps more: for each instance,
      -- for each dart that gets a value, and for each unit that is read
      pub ready_within : (most before found_at read_at after : ℕ) → IsBudget app most
          → ((k : ℕ) → HasPositions app k → found_at ≤ before + 8 * (m.schema.dim + 1) * (length rule.nodes * k + 1))
          → ((u : ℕ) → IsPreUnits app here u → read_at ≤ found_at + 6 * (m.schema.dim + 1) * u)
          → ((result : Unfolded) → Unfolds (as_map m) rule here result → (reached read : ℕ) → IsReachedSum app here (IsDartOf result) result.alpha reached → IsReadSum app here (IsDartOf result) result.alpha read
          → after ≤ read_at + 16 * (m.schema.dim + 1) * (length rule.nodes * found.positions + reached + 1) + 6 * (m.schema.dim + 1) * read)
          → after ≤ before + most
      ready_within most before found_at read_at after (Of k reached read positions work) finding reading last =
          let this = ready_work reached read work in
          let one = find_cost before found_at finding in
          let two = reading this.pre this.pre_units in
          let three = last this.result this.unfolds reached this.sets this.reaches this.read_sum in
          let d = m.schema.dim + 1 in
          let n = length rule.nodes * found.positions in
          let all : after ≤ before + (8 * d * (n + 1) + 16 * d * (n + reached + 1) + 6 * d * this.pre + 6 * d * this.sets) = omega (arith, one, two, three) in
          let fits : 8 * d * (n + 1) + 16 * d * (n + reached + 1) + 6 * d * this.pre + 6 * d * this.sets ≤ 24 * d * (n + reached + (this.pre + this.sets) + 1) = fits_within d n reached this.pre this.sets in
          let here_most : after ≤ before + 24 * d * (n + reached + (this.pre + this.sets) + 1) = omega (arith, all, fits) in
          subst (λ r. after ≤ before + 24 * (m.schema.dim + 1) * (length rule.nodes * k + reached + r + 1)) (sym this.read_is)
          (subst (λ p. after ≤ before + 24 * (m.schema.dim + 1) * (length rule.nodes * p + reached + (this.pre + this.sets) + 1)) (sym (positions_here k positions)) here_most)

      -- and the same, where what is shared is read once
      pub ready_within_once : (most before found_at read_at after : ℕ) → IsBudgetOnce app most
          → ((k : ℕ) → HasPositions app k → found_at ≤ before + 8 * (m.schema.dim + 1) * (length rule.nodes * k + 1))
          → ((u : ℕ) → IsPreUnits app here u → read_at ≤ found_at + 6 * (m.schema.dim + 1) * u)
          → ((result : Unfolded) → Unfolds (as_map m) rule here result → (reached read : ℕ) → IsReachedSum app here (IsDartOf result) result.alpha reached → IsReadOnceSum app here (IsDartOf result) result.alpha read
          → after ≤ read_at + 16 * (m.schema.dim + 1) * (length rule.nodes * found.positions + reached + 1) + 6 * (m.schema.dim + 1) * read)
          → after ≤ before + most
      ready_within_once most before found_at read_at after (OfReady place live alpha reached u w ready unfolded reaches units reads) finding reading last =
          let both = same_here place ready.matched in
          let result : Unfolded = record { live = live; alpha = alpha; next = m.next + place.positions * added_nodes rule } in
          let unfolds : Unfolds (as_map m) rule here result = unfolding_there rule (as_map m) (as_map m) place here both (λ d. IsTrue (live d)) alpha result.next unfolded in
          let like = results_like rule hooks (as_map m) (as_map m) place here both of_schema ready.matched result result unfolded unfolds in
          let one = find_cost before found_at finding in
          let two = reading u (units_here place u ready.matched units) in
          let three = last result unfolds reached w (reached_sum_there rule hooks params (as_map m) (as_map m) place here result result like reached reaches) (once_sum_there rule hooks params (as_map m) (as_map m) place here result result like w reads) in
          let d = m.schema.dim + 1 in
          let n = length rule.nodes * found.positions in
          let all : after ≤ before + (8 * d * (n + 1) + 16 * d * (n + reached + 1) + 6 * d * u + 6 * d * w) = omega (arith, one, two, three) in
          let fits : 8 * d * (n + 1) + 16 * d * (n + reached + 1) + 6 * d * u + 6 * d * w ≤ 24 * d * (n + reached + (u + w) + 1) = fits_within d n reached u w in
          let here_most : after ≤ before + 24 * d * (n + reached + (u + w) + 1) = omega (arith, all, fits) in
          subst (λ p. after ≤ before + 24 * (m.schema.dim + 1) * (length rule.nodes * p + reached + (u + w) + 1)) (sym both.like.positions) here_most
