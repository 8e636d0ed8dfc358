-- What an `each` comes to, turn by turn and as a step.
use Rattle.std.proofs.Common.{◌≡◌, ℕ, zero, suc, ◌+◌, ◌*◌, ◌-◌, ◌<◌, ◌≤◌, ◌^◌, ◌⊎◌, inl, inr, Bool, true, false, cond, List, [], ◌∷◌, ◌++◌, length, take, drop, get_or, Option, None, Some, refl, sym, ap, subst, ◌∙◌, arith}
use Rattle.std.specs.List.{count_by}
use Rattle.std.specs.Option.{option_map}
use Rattle.std.proofs.lemmas.List.{take_more, take_all, length-take-le, take-append-drop, drop_more, length-append}
use Rattle.std.proofs.lemmas.List.Sums.{sum_by-append}
use Rattle.std.proofs.lemmas.Nat.{mul-le}
use Rattle.gm_model.specs.declared.schema.Schema.{Schema}
use Rattle.gm_model.specs.Statements as statements
use Rattle.gm_model.specs.declared.value.Value.{Value}
use Rattle.gm_model.specs.declared.word.Mask.{Mask}
use Rattle.gm_model.specs.Budgets.{Bounds, Entries, HasStatBounds, OfEach, IsLineBudget, each_entered, entered, group_entered}
use Rattle.gm_model.specs.Histories.{Group, History, begun_at, changed, done_at, kept, past_behind}
use Rattle.gm_model.specs.Limits.{most_darts}
use Rattle.gm_model.specs.Maps.{Map, IsDart, dimension}
use Rattle.gm_model.specs.Orbits.{HasCount}
use Rattle.gm_model.specs.Rules.{Rule}
use Rattle.gm_model.specs.Runs.{State, Turn, Taken, Passed, AreLeads, AreTurns, IsStatOutcome, GoesOver, behind_each, is_done_turn, is_passed, is_refused_turn, line_at, told}
use Rattle.gm_model.specs.Runs as runs
use Rattle.gm_arena.specs.inner.ArenaAsMap.{as_map}
use Rattle.gm_arena.specs.inner.ArenaMap.{ArenaMap}
use Rattle.gm_arena.specs.inner.Lawful.{IsLawful}
use Rattle.gm_arena.proofs.Keys.{darts_counted}
use Rattle.gm_apply.proofs.Counting.{count_same}
use Rattle.gm_theory.specs.inner.Outcomes.{IsGoodEach, IsGoodLine, IsSoundOf}
use Rattle.gm_theory.specs.inner.Suited.{IsRuleOf}
use Rattle.gm_theory.proofs.TurnsFound.{LineFound, line_costs, line_found}
use Rattle.gm_theory.proofs.ValuesLists.{AreDistinct, IsIn, contains_in, distinct_list, in_contained, in_middle, split_at}
use Rattle.gm_theory.proofs.ValuesUnique.{one_count}
use Rattle.gm_undo.specs.inner.Costs.{MayTake, cost_to}
use Rattle.gm_undo.specs.inner.Kept.{HistoryOf}
use Rattle.gm_undo.specs.inner.Standing.{StandsFor, AreGroupsAlike, group_start}
use Rattle.gm_run.specs.declared.each.Counts.{Counts}
use Rattle.gm_run.specs.declared.outcome.Outcome.{Outcome}
use Rattle.gm_run.specs.declared.outcome.Outcome.TheVariants as outcomes
use Rattle.gm_run.specs.declared.standing.Open.TheVariants as opens
use Rattle.gm_run.specs.declared.standing.Standing.{Standing}
use Rattle.gm_run.specs.inner.Alike.{AreAlike, AreAlikeStates}
use Rattle.gm_run.specs.inner.Progress.{IsLeft, BehindAll, WithinEach}
use Rattle.gm_run.specs.inner.Standing.{HasLine, WasDone, WasRefused, HasOpen, HasStep, IsStopped, MayGoBack, MayRecall, Remembers, StandsAt, entered_by, nearest, told_behind}
use Rattle.gm_run.specs.inner.Turns.{AreTallied, HasTurn, HaveTurns, StopsAtTurn, StopsWithin, counted, entered_by_turn, entered_turns, told_by, within_turns}
use Rattle.gm_run.proofs.OneRun.{one_each_leads}
use Rattle.gm_run.proofs.Tallies.{costs_together, cost_of, no_costs, passed_on, taken_on, turns_sound, unchanged, within_all}

-- ---- counts

count_on : (p : Turn → Bool) (turns : List Turn) (turn : Turn) → count_by p (turns ++ turn ∷ []) ≡ count_by p turns + cond (p turn) 1 0
count_on p turns turn = sum_by-append (λ (t : Turn). cond (p t) 1 0) turns (turn ∷ []) ∙ ap (λ n. count_by p turns + n) (omega arith)

-- a list of different numbers isn't longer than one that has them all
no_longer : (xs ys : List ℕ) → AreDistinct xs → ((x : ℕ) → IsIn x xs → IsIn x ys) → length xs ≤ length ys
no_longer [] ys distinct all = omega arith
no_longer (x ∷ xs) ys distinct all =
    let s : (us : List ℕ) × (vs : List ℕ) × (ys ≡ us ++ x ∷ vs) = split_at ys x (all x (inl refl)) in
    let rest : length xs ≤ length (s.0 ++ s.1) = no_longer xs (s.0 ++ s.1) distinct.1 (λ z i. others z i s.0 s.1 (subst (IsIn z) s.2 (all z (inr i)))) in
    omega (arith, rest, ap length s.2, length-append s.0 (x ∷ s.1), length-append s.0 s.1)
  where
    others : (z : ℕ) → IsIn z xs → (us vs : List ℕ) → IsIn z (us ++ x ∷ vs) → IsIn z (us ++ vs)
    others z i us vs there = go (in_middle us vs x z there)
      where
        go : (x ≡ z) ⊎ IsIn z (us ++ vs) → IsIn z (us ++ vs)
        go (inl e) = absurd (distinct.0 (subst (λ y. IsIn y xs) (sym e) i))
        go (inr j) = j

pub few_leads : (map : Map) (mask : Mask) (leads : List ℕ) (darts : ℕ) → AreLeads map mask leads → HasCount (IsDart map) darts → length leads ≤ darts
few_leads map mask leads darts are (all, listed, long) =
    let h = no_longer leads all (distinct_list leads are.same.distinct) (λ d i. in_contained all d ((listed.same d).1 ((are.same.same d).0 (contains_in leads d i)).live)) in
    omega (arith, h, long)

-- so their number, and one more, is one of 32 bits
pub few_turns : (leads : List ℕ) (count spare : ℕ) → length leads ≤ count → count + spare ≤ most_darts → length leads + 1 < 2 ^ 32
few_turns leads count spare few darts = omega arith

-- ---- what is remembered

done_within : (map here : Map) (history : History) (done : ℕ) → done_at here (within_turns map history done) ≡ within_turns map history (suc done)
done_within map here history zero = refl
done_within map here history (suc done) = refl

entered_within : (map : Map) (history : History) (entries : Entries) (done cost most : ℕ) → entered (within_turns map history done).group most (entered_turns entries done cost) ≡ entered_turns entries (suc done) (cost + most)
entered_within map history entries zero cost most = ap (λ n. record { past = entries.past; future = []; group = n }) (omega arith)
entered_within map history entries (suc done) cost most = ap (λ n. record { past = entries.past; future = []; group = n }) (omega arith)

-- where no group is open, nothing need be told of its cost
pub any_group : (history : HistoryOf) (m : ArenaMap) (dim : ℕ) (behind : History) (past future : List ℕ) (group other : ℕ) → StandsFor history m behind → behind.group ≡ None → MayTake history dim (record { past = past; future = future; group = group }) → MayTake history dim (record { past = past; future = future; group = other })
any_group history m dim behind past future group other stands none costs = record { past = costs.past; future = costs.future; group = go history.group refl behind.group none stands.group }
  where
    go : (o : Option ℕ) → history.group ≡ o → (g : Option Group) → g ≡ None → AreGroupsAlike m.schema history stands.rows o g → cost_to dim history.changes history.made ≤ cost_to dim history.changes (group_start history) + other
    go None e g f alike = rw e (omega arith)
    go (Some start) e None f alike = absurd alike
    go (Some start) e (Some g) f alike = absurd cc

-- ---- one turn more

module _ (schema : Schema) (rules : List Rule) (index : ℕ) (params : List Value) (of : IsRuleOf schema rules index) (good : (d : ℕ) → IsGoodLine rules (line_at index params d)) where
  -- each line has a budget
  pub some_budget : (map : Map) (d : ℕ) → IsSoundOf schema map → (most : ℕ) × IsLineBudget rules map (line_at index params d) most
  some_budget map d sound =
      let found : LineFound schema rules map (line_at index params d) = line_found schema rules map (line_at index params d) of sound (good d) in
      let costs = line_costs schema rules map (line_at index params d) of sound (good d) found.outcome found.after found.is in
      (costs.most, costs.budget)

  module _ (before : Map) (history : History) (entries : Entries) where
    pub no_turns : (standing : Standing) (m : ArenaMap) (start : ℕ) → before ≡ as_map m → Remembers standing m (begun_at before history) → MayGoBack standing m.schema.dim (entered_turns entries 0 0)
        → HaveTurns rules index params before history entries [] (record { done = 0; refused = 0; passed = 0 }) standing m start start
    no_turns standing m start same stands costs = record {
      turns = [];
      costs = no_costs;
      tallied = (sym same, refl);
      tells = record { done = refl; refused = refl; passed = refl };
      stands = stands;
      may_take = costs;
      least = omega arith;
      most = omega arith;
    }

    module _ (leads : List ℕ) (counts : Counts) (old new : Standing) (m n : ArenaMap) (start middle steps d : ℕ) (have : HaveTurns rules index params before history entries leads counts old m start middle) where
      abbrev here : History
      here = within_turns before history (count_by is_done_turn have.turns)

      abbrev costs_here : Entries
      costs_here = entered_turns entries (count_by is_done_turn have.turns) have.costs.done

      longer : length (leads ++ d ∷ []) ≡ length leads + 1
      longer = length-append leads (d ∷ [])

      taken : (outcome : Outcome) → IsDart (as_map m) d → HasLine rules (as_map m) (line_at index params d) (as_map n) (middle + 1) steps outcome → Remembers new n (told_behind outcome (as_map m) here)
          → (budget : (most : ℕ) × IsLineBudget rules (as_map m) (line_at index params d) most) → MayGoBack new n.schema.dim (entered_by outcome here.group budget.0 costs_here)
          → HaveTurns rules index params before history entries (leads ++ d ∷ []) (counted counts (Some outcome)) new n start steps
      taken _ live (WasDone applied is most least) stands budget costs =
          let turn : Turn = Taken (as_map m) (line_at index params d) (runs.Done applied.added applied.removed) in
          let more : count_by is_done_turn (have.turns ++ turn ∷ []) ≡ suc (count_by is_done_turn have.turns) = count_on is_done_turn have.turns turn ∙ omega arith in
          record {
            turns = have.turns ++ turn ∷ [];
            costs = costs_together have.costs (cost_of (runs.Done applied.added applied.removed) budget.0);
            tallied = taken_on rules index params before (as_map m) (as_map n) leads have.turns have.costs d (runs.Done applied.added applied.removed) budget.0 have.tallied live is budget.1;
            tells = record {
              done = ap (λ k. k + 1) have.tells.done ∙ sym (count_on is_done_turn have.turns turn);
              refused = have.tells.refused ∙ sym (count_on is_refused_turn have.turns turn ∙ omega arith);
              passed = have.tells.passed ∙ sym (count_on is_passed have.turns turn ∙ omega arith);
            };
            stands = subst (λ k. Remembers new n (within_turns before history k)) (sym more) (subst (Remembers new n) (done_within before (as_map m) history (count_by is_done_turn have.turns)) stands);
            may_take = subst (λ k. MayGoBack new n.schema.dim (entered_turns entries k (have.costs.done + budget.0))) (sym more)
                (subst (MayGoBack new n.schema.dim) (entered_within before history entries (count_by is_done_turn have.turns) have.costs.done budget.0) costs);
            least = (let first = have.least in omega (arith, first, least));
            most = (let first = have.most in let last = most budget.0 budget.1 in omega (arith, first, last, longer));
          }
      taken _ live (WasRefused refusal cause tells is most rises) stands budget costs =
          let turn : Turn = Taken (as_map m) (line_at index params d) (runs.Refused cause) in
          let same : count_by is_done_turn (have.turns ++ turn ∷ []) ≡ count_by is_done_turn have.turns = count_on is_done_turn have.turns turn ∙ omega arith in
          let cost : have.costs.done + 0 ≡ have.costs.done = omega arith in
          record {
            turns = have.turns ++ turn ∷ [];
            costs = costs_together have.costs (cost_of (runs.Refused cause) budget.0);
            tallied = taken_on rules index params before (as_map m) (as_map n) leads have.turns have.costs d (runs.Refused cause) budget.0 have.tallied live is budget.1;
            tells = record {
              done = have.tells.done ∙ sym same;
              refused = ap (λ k. k + 1) have.tells.refused ∙ sym (count_on is_refused_turn have.turns turn);
              passed = have.tells.passed ∙ sym (count_on is_passed have.turns turn ∙ omega arith);
            };
            stands = subst (λ k. Remembers new n (within_turns before history k)) (sym same) stands;
            may_take = subst (λ k. MayGoBack new n.schema.dim (entered_turns entries k (have.costs.done + 0))) (sym same)
                (subst (λ c. MayGoBack new n.schema.dim (entered_turns entries (count_by is_done_turn have.turns) c)) (sym cost) costs);
            least = (let first = have.least in omega (arith, first, rises));
            most = (let first = have.most in let last = most budget.0 budget.1 in omega (arith, first, last, longer));
          }

      passed : (IsDart (as_map m) d → ⊥) → as_map n ≡ as_map m → steps ≡ middle + 1 → Remembers new n here → MayGoBack new n.schema.dim costs_here
          → HaveTurns rules index params before history entries (leads ++ d ∷ []) (counted counts None) new n start steps
      passed dead map still stands costs =
          let same : count_by is_done_turn (have.turns ++ Passed ∷ []) ≡ count_by is_done_turn have.turns = count_on is_done_turn have.turns Passed ∙ omega arith in
          record {
            turns = have.turns ++ Passed ∷ [];
            costs = have.costs;
            tallied = subst (AreTallied rules index params before (leads ++ d ∷ []) (have.turns ++ Passed ∷ []) have.costs) (sym map) (passed_on rules index params before (as_map m) leads have.turns have.costs d have.tallied dead);
            tells = record {
              done = have.tells.done ∙ sym same;
              refused = have.tells.refused ∙ sym (count_on is_refused_turn have.turns Passed ∙ omega arith);
              passed = ap (λ k. k + 1) have.tells.passed ∙ sym (count_on is_passed have.turns Passed);
            };
            stands = subst (λ k. Remembers new n (within_turns before history k)) (sym same) stands;
            may_take = subst (λ k. MayGoBack new n.schema.dim (entered_turns entries k have.costs.done)) (sym same) costs;
            least = (let first = have.least in omega (arith, first, still));
            most = (let first = have.most in omega (arith, first, still, longer));
          }

      turn_on : (turn : Option Outcome) → HasTurn rules index params (as_map m) d turn (as_map n) middle steps → Remembers new n (told_by turn (as_map m) here)
          → (budget : (most : ℕ) × IsLineBudget rules (as_map m) (line_at index params d) most) → MayGoBack new n.schema.dim (entered_by_turn turn here.group budget.0 costs_here)
          → HaveTurns rules index params before history entries (leads ++ d ∷ []) (counted counts turn) new n start steps
      turn_on None (dead, same, still) stands budget costs = passed dead same still stands costs
      turn_on (Some outcome) (live, has) stands budget costs = taken outcome live has stands budget costs

    -- of the darts in turn
    pub turns_more : (leads : List ℕ) (k d x : ℕ) (counts : Counts) (old new : Standing) (m n : ArenaMap) (start middle steps : ℕ) → k < length leads → d ≡ get_or leads k x → IsSoundOf schema before → (turn : Option Outcome)
        → HaveTurns rules index params before history entries (take k leads) counts old m start middle → HasTurn rules index params (as_map m) d turn (as_map n) middle steps
        → ((behind : History) → Remembers old m behind → Remembers new n (told_by turn (as_map m) behind))
        → ((behind : History) (costs : Entries) (most : ℕ) → Remembers old m behind → MayGoBack old m.schema.dim costs → IsLineBudget rules (as_map m) (line_at index params d) most → MayGoBack new n.schema.dim (entered_by_turn turn behind.group most costs))
        → HaveTurns rules index params before history entries (take (k + 1) leads) (counted counts turn) new n start steps
    turns_more leads k d x counts old new m n start middle steps within is sound turn have has stands costs =
        let now : IsSoundOf schema (as_map m) = turns_sound rules index params schema of good before (as_map m) (take k leads) have.turns sound have.tallied.0 in
        let budget = some_budget (as_map m) d now in
        subst (λ ds. HaveTurns rules index params before history entries ds (counted counts turn) new n start steps) (ap (λ y. take k leads ++ y ∷ []) is ∙ sym (take_more leads k x within))
        (turn_on (take k leads) counts old new m n start middle steps d have turn has (stands (within_turns before history (count_by is_done_turn have.turns)) have.stands) budget
        (costs (within_turns before history (count_by is_done_turn have.turns)) (entered_turns entries (count_by is_done_turn have.turns) have.costs.done) budget.0 have.stands have.may_take budget.1))

    pub turns_all : (leads : List ℕ) (k : ℕ) (counts : Counts) (standing : Standing) (m : ArenaMap) (start steps : ℕ) → length leads ≤ k → HaveTurns rules index params before history entries (take k leads) counts standing m start steps → HaveTurns rules index params before history entries leads counts standing m start steps
    turns_all leads k counts standing m start steps past have = subst (λ ds. HaveTurns rules index params before history entries ds counts standing m start steps) (take_all k leads past) have

    -- memory was wanting at a turn
    pub stops_at : (leads : List ℕ) (k d x : ℕ) (counts : Counts) (old : Standing) (m n : ArenaMap) (start middle steps : ℕ) → k < length leads → d ≡ get_or leads k x → IsSoundOf schema before
        → HaveTurns rules index params before history entries (take k leads) counts old m start middle → StopsAtTurn rules index params (as_map m) d (as_map n) middle steps → StopsWithin rules index params before leads (as_map n) start steps
    stops_at leads k d x counts old m n start middle steps within is sound have (live, stopped) = record {
      some = k;
      turns = have.turns;
      are = subst (AreTurns rules index params before (take k leads) have.turns) (sym stopped.same) have.tallied.0;
      most = λ other end others all alike turns costs.
          let both : have.costs.most + (steps - (middle + 1)) ≤ all.most = within_all rules index params schema of good (take k leads) d (drop (k + 1) leads) before (as_map m) other end have.turns others have.costs all (steps - (middle + 1)) sound alike have.tallied
          (subst (λ ds. AreTurns rules index params other ds others end) split turns, costs) live (λ most budget. let h = stopped.most most budget in omega (arith, h)) in
          let so_far = have.most in
          let long : length (take k leads) ≡ k = length-take-le k leads (omega arith) in
          omega (arith, both, so_far, long, within);
    }
      where
        split : leads ≡ take k leads ++ d ∷ drop (k + 1) leads
        split = sym (take-append-drop k leads) ∙ ap (λ ds. take k leads ++ ds) (drop_more leads k x within ∙ ap (λ y. y ∷ drop (k + 1) leads) (sym is))

-- ---- the step

-- what is remembered where the group is ended
abbrev pub group_within : Map → ℕ → Group
group_within map zero = record { map = map; is_changed = false }
group_within map (suc done) = record { map = map; is_changed = true }

pub group_is : (map : Map) (history : History) (done : ℕ) → (within_turns map history done).group ≡ Some (group_within map done)
group_is map history zero = refl
group_is map history (suc done) = refl

kept_within : (state : State) (after : Map) (done : ℕ) → state.history.group ≡ None → kept (group_within state.map done) (within_turns state.map state.history done) ≡ (behind_each state done after).history
kept_within state after zero none = ap (λ g. record { past = state.history.past; future = state.history.future; group = g }) (sym none)
kept_within state after (suc done) none = ap (λ g. record { past = past_behind state.map g state.history.past; future = []; group = option_map changed g }) (sym none)

module _ (schema : Schema) (rules : List Rule) (mask : Mask) (index : ℕ) (params : List Value) (good : IsGoodEach rules schema.dim mask index params) (m : ArenaMap) (lawful : IsLawful m) (schema_is : m.schema ≡ schema) (sound : IsSoundOf schema (as_map m))
    (old : Standing) (state : State) (entries : Entries) (stands : StandsAt old m state entries) (outside : old.group ≡ opens.Nothing) where
  closed : HasOpen opens.Nothing state
  closed = subst (λ o. HasOpen o state) outside stands.group

  darts : HasCount (IsDart state.map) m.count
  darts = subst (λ map. HasCount (IsDart map) m.count) (sym stands.map) (darts_counted m lawful)

  leads_here : (leads : List ℕ) → AreLeads (as_map m) mask leads → AreLeads state.map mask leads
  leads_here leads are = subst (λ map. AreLeads map mask leads) (sym stands.map) are

  -- looking for the leads, and once for each of them, within what an `each` may take besides
  within_besides : (d count leads start found : ℕ) → found ≤ start + 8 * (d + 1) * count → leads ≤ count → found + leads ≤ start + 12 * (d + 1) * (count + 1)
  within_besides d count leads start found cost few =
      let once : 1 * count ≤ (d + 1) * count = mul-le 1 count (d + 1) count (omega arith) (omega arith) in
      omega (arith, cost, few, once)

  module _ (leads : List ℕ) (are : AreLeads (as_map m) mask leads) (start found : ℕ) (cost : found ≤ start + 8 * (m.schema.dim + 1) * m.count) (rises : start ≤ found) where
    besides : found + length leads ≤ start + 12 * (m.schema.dim + 1) * (m.count + 1)
    besides = within_besides m.schema.dim m.count (length leads) start found cost (few_leads (as_map m) mask leads m.count are (darts_counted m lawful))

    pub each_step : (counts : Counts) (mid new : Standing) (n : ArenaMap) (steps : ℕ) → HaveTurns rules index params (as_map m) state.history entries leads counts mid n found steps → n.schema ≡ m.schema
        → ((behind : History) (group : Group) → Remembers mid n behind → behind.group ≡ Some group → Remembers new n (kept group behind))
        → ((behind : History) (group : Group) (costs : Entries) → Remembers mid n behind → behind.group ≡ Some group → MayGoBack mid n.schema.dim costs → MayGoBack new n.schema.dim (group_entered group costs))
        → new.group ≡ old.group → HasStep rules state entries (statements.Each mask index params) (outcomes.Each counts.done counts.refused counts.passed) new n start steps
    each_step counts mid new n steps have same_schema stand may group = record {
      told = told have.turns;
      tells = ap (λ (x : ℕ). Some (runs.Each x counts.refused counts.passed)) have.tells.done ∙ ap (λ (x : ℕ). Some (runs.Each (count_by is_done_turn have.turns) x counts.passed)) have.tells.refused ∙ ap (λ (x : ℕ). Some (runs.Each (count_by is_done_turn have.turns) (count_by is_refused_turn have.turns) x)) have.tells.passed;
      after = behind_each state (count_by is_done_turn have.turns) (as_map n);
      step = GoesOver mask index params leads have.turns (as_map n) closed.0 (leads_here leads are) turns;
      bounds = record { least = have.costs.least; most = have.costs.most + 12 * (dimension state.map + 1) * (m.count + 1) };
      behind = each_entered (count_by is_done_turn have.turns) have.costs.done entries;
      has = OfEach mask index params leads have.turns (as_map n) have.costs m.count (leads_here leads are) turns have.tallied.1 darts;
      stands = record {
        map = map_is (count_by is_done_turn have.turns) refl;
        history = history_is;
        costs = costs_are (count_by is_done_turn have.turns) refl;
        group = subst (λ o. HasOpen o (behind_each state (count_by is_done_turn have.turns) (as_map n))) (sym (group ∙ outside)) (open_is (count_by is_done_turn have.turns));
      };
      least = (let first = have.least in omega (arith, first, rises));
      most = (let last = have.most in subst (λ (s : Schema). steps ≤ start + (have.costs.most + 12 * (s.dim + 1) * (m.count + 1))) (sym (ap (λ (map : Map). map.schema) stands.map)) (omega (arith, last, besides)));
    }
      where
        turns : AreTurns rules index params state.map leads have.turns (as_map n)
        turns = subst (λ map. AreTurns rules index params map leads have.turns (as_map n)) (sym stands.map) have.tallied.0

        map_is : (k : ℕ) → (count_by is_done_turn have.turns) ≡ k → (behind_each state k (as_map n)).map ≡ as_map n
        map_is zero e = sym (unchanged rules index params state.map (as_map n) leads have.turns turns e)
        map_is (suc k) e = refl

        kept_history : Remembers new n (kept (group_within (as_map m) (count_by is_done_turn have.turns)) (within_turns (as_map m) state.history (count_by is_done_turn have.turns)))
        kept_history = stand (within_turns (as_map m) state.history (count_by is_done_turn have.turns)) (group_within (as_map m) (count_by is_done_turn have.turns)) have.stands (group_is (as_map m) state.history (count_by is_done_turn have.turns))

        history_is : Remembers new n (behind_each state (count_by is_done_turn have.turns) (as_map n)).history
        history_is = subst (Remembers new n) (kept_within state (as_map n) (count_by is_done_turn have.turns) closed.0) (subst (λ map. Remembers new n (kept (group_within map (count_by is_done_turn have.turns)) (within_turns map state.history (count_by is_done_turn have.turns)))) (sym stands.map) kept_history)

        kept_costs : MayGoBack new n.schema.dim (group_entered (group_within (as_map m) (count_by is_done_turn have.turns)) (entered_turns entries (count_by is_done_turn have.turns) have.costs.done))
        kept_costs = may (within_turns (as_map m) state.history (count_by is_done_turn have.turns)) (group_within (as_map m) (count_by is_done_turn have.turns)) (entered_turns entries (count_by is_done_turn have.turns) have.costs.done) have.stands (group_is (as_map m) state.history (count_by is_done_turn have.turns)) have.may_take

        open_is : (k : ℕ) → HasOpen opens.Nothing (behind_each state k (as_map n))
        open_is zero = closed
        open_is (suc k) = (ap (option_map changed) closed.0, closed.1)

        without_group : new.keeps.on ≡ true → (past future : List ℕ) (cost : ℕ) → MayRecall new.keeps.reach new.history n.schema.dim (record { past = past; future = future; group = cost })
            → MayRecall new.keeps.reach new.history n.schema.dim (record { past = past; future = future; group = entries.group })
        without_group keeps past future cost may =
            let r = history_is keeps in
            record {
              past = may.past;
              future = may.future;
              past_far = may.past_far;
              future_far = may.future_far;
              costs = any_group new.history n n.schema.dim (nearest r.past r.future (behind_each state (count_by is_done_turn have.turns) (as_map n)).history) (take may.past past) (take may.future future) cost entries.group r.stands (open_is (count_by is_done_turn have.turns)).0 may.costs;
            }

        costs_are : (k : ℕ) → (count_by is_done_turn have.turns) ≡ k → MayGoBack new n.schema.dim (each_entered k have.costs.done entries)
        costs_are zero e =
            λ keeps. without_group keeps entries.past entries.future have.costs.done (subst (λ k. MayGoBack new n.schema.dim (group_entered (group_within (as_map m) k) (entered_turns entries k have.costs.done))) e kept_costs keeps)
        costs_are (suc k) e =
            λ keeps. without_group keeps (have.costs.done ∷ entries.past) [] have.costs.done (subst (λ k. MayGoBack new n.schema.dim (group_entered (group_within (as_map m) k) (entered_turns entries k have.costs.done))) e kept_costs keeps)

    -- ---- memory was wanting

    -- the leads of a map alike are these
    module _ (of : IsRuleOf schema rules index) where
      pub each_stopped : (after : Map) (steps : ℕ) → StopsWithin rules index params (as_map m) leads after found steps → IsStopped rules state (statements.Each mask index params) after start steps
      each_stopped after steps stopped = record {
        left = WithinEach mask index params leads stopped.some stopped.turns after refl (leads_here leads are) (subst (λ map. AreTurns rules index params map (take stopped.some leads) stopped.turns after) (sym stands.map) stopped.are);
        most = within;
      }
        where
          within : (other end : State) (costs behind : Entries) (outcome : runs.Outcome) (bounds : Bounds) → AreAlikeStates other state → IsStatOutcome rules other (statements.Each mask index params) outcome end → HasStatBounds rules other costs (statements.Each mask index params) outcome bounds behind → steps ≤ start + bounds.most
          within other end costs behind _ _ alike step (OfEach _ _ _ others turns left all count are' turns' costs' counted') =
              let maps : AreAlike other.map (as_map m) = subst (AreAlike other.map) stands.map alike.map in
              let same : others ≡ leads = one_each_leads schema rules other.map (as_map m) mask index params good sound maps others leads are' are in
              let first = stopped.most other.map left turns all maps (subst (λ ds. AreTurns rules index params other.map ds turns left) same turns') costs' in
              let number : count ≡ m.count = one_count (IsDart (as_map m)) count m.count (count_same (IsDart other.map) (IsDart (as_map m)) count maps.same.darts counted') (darts_counted m lawful) in
              subst (λ (s : Schema). steps ≤ start + (all.most + 12 * (s.dim + 1) * (count + 1))) (sym maps.schema)
              (subst (λ k. steps ≤ start + (all.most + 12 * (m.schema.dim + 1) * (k + 1))) (sym number) (omega (arith, first, besides)))

  -- before the leads were known
  pub leads_stopped : (start steps : ℕ) → steps ≤ start + 8 * (m.schema.dim + 1) * m.count → IsStopped rules state (statements.Each mask index params) (as_map m) start steps
  leads_stopped start steps cost = record {
    left = subst (IsLeft rules state (Some (statements.Each mask index params))) stands.map BehindAll;
    most = within;
  }
    where
      within : (other end : State) (costs behind : Entries) (outcome : runs.Outcome) (bounds : Bounds) → AreAlikeStates other state → IsStatOutcome rules other (statements.Each mask index params) outcome end → HasStatBounds rules other costs (statements.Each mask index params) outcome bounds behind → steps ≤ start + bounds.most
      within other end costs behind _ _ alike step (OfEach _ _ _ others turns left all count are' turns' costs' counted') =
          let maps : AreAlike other.map (as_map m) = subst (AreAlike other.map) stands.map alike.map in
          let number : count ≡ m.count = one_count (IsDart (as_map m)) count m.count (count_same (IsDart other.map) (IsDart (as_map m)) count maps.same.darts counted') (darts_counted m lawful) in
          let besides = within_besides m.schema.dim m.count 0 start steps cost (omega arith) in
          subst (λ (s : Schema). steps ≤ start + (all.most + 12 * (s.dim + 1) * (count + 1))) (sym maps.schema)
          (subst (λ k. steps ≤ start + (all.most + 12 * (m.schema.dim + 1) * (k + 1))) (sym number) (omega (arith, besides)))

-- one turn more is counted once
pub counted_sum : (counts : Counts) (turn : Option Outcome) (k : ℕ) (next : Counts) → next ≡ counted counts turn → counts.done + counts.refused + counts.passed ≡ k → next.done + next.refused + next.passed ≡ k + 1
counted_sum counts turn k next is sum = subst (λ (n : Counts). n.done + n.refused + n.passed ≡ k + 1) (sym is) (go turn)
  where
    go : (turn : Option Outcome) → (counted counts turn).done + (counted counts turn).refused + (counted counts turn).passed ≡ k + 1
    go None = omega (arith, sum)
    go (Some (outcomes.Done applied)) = omega (arith, sum)
    go (Some outcome) = omega (arith, sum)
