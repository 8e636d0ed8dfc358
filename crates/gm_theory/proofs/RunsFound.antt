-- Each script of good statements, in an order that scripts have, has a run with its bounds, and each map that it leads to is sound.
use Rattle.std.proofs.Common.{◌≡◌, ℕ, zero, suc, ◌+◌, ◌*◌, ◌≤◌, ◌⊎◌, Bool, true, false, inl, inr, List, [], ◌∷◌, length, Option, Some, None, refl, sym, ap, subst, arith, if◌then◌else◌}
use Rattle.std.specs.List.{AllByRecursion, count_by}
use Rattle.std.specs.Option.{option_map}
use Rattle.std.specs.Prelude.{All}
use Rattle.std.proofs.lemmas.Option.{slice_get_within, get_or_from_slice_get}
use Rattle.gm_model.specs.declared.schema.Schema.{Schema}
use Rattle.gm_model.specs.Statements.{Line, Stat}
use Rattle.gm_model.specs.Statements as statements
use Rattle.gm_model.specs.declared.value.Value.{Value}
use Rattle.gm_model.specs.declared.word.Mask.{Mask}
use Rattle.gm_model.specs.Acceptance.{IsAccepted}
use Rattle.gm_model.specs.Budgets.{Bounds, Entries, HasStatBounds, OfDone, OfRefused, OfSkipped, OfUndone, OfNoPast, OfRedone, OfNoFuture, OfBegun, OfKept, OfDropped, OfEach, entered, group_entered, each_entered, no_entries, up_to}
use Rattle.gm_model.specs.Histories.{Group, History, IsRedone, IsUndone, begun_at, changed, dropped, kept, past_behind}
use Rattle.gm_model.specs.Maps.{Map, IsDart, IsSchema, IsSound, dimension}
use Rattle.gm_model.specs.Orbits.{IsListOf}
use Rattle.gm_model.specs.Rules.{Rule}
use Rattle.gm_model.specs.Runs as runs
use Rattle.gm_model.specs.Runs.{Outcome, Turn, State, AreInOrder, AreLeads, AreTurns, IsLineOutcome, IsStatOutcome, IsDoneHere, IsRefusedHere, IsSkipped, GoesBack, HasNoPast, GoesForth, HasNoFuture, Begins, Ends, IsTakenBack, GoesOver, IsRun, behind_done, behind_each, behind_refused, is_done_turn, standing_at, start_of, told}
use Rattle.gm_theory.proofs.LeadsFound.{leads_exist}
use Rattle.gm_theory.proofs.Lists.{some_same, none_some}
use Rattle.gm_theory.proofs.OrbitsListed.{list_all_of}
use Rattle.gm_theory.proofs.Tests.{true_or_false, not_both}
use Rattle.gm_theory.proofs.TurnsFound.{LineCosts, LineFound, TurnsCost, TurnsFound, each_line, line_costs, line_found, turns_cost, turns_found}
use Rattle.gm_theory.proofs.ValuesReach.{IsDecided}
use Rattle.gm_theory.specs.inner.Outcomes.{IsGoodLine, IsGoodEach, IsGoodStat, IsSoundOf, IsSoundState, HasRun, ScriptsHaveRuns}
use Rattle.gm_theory.specs.inner.Suited.{IsRuleOf, IsSuited}

decide_dart : (map : Map) (d : ℕ) → IsDecided (IsDart map d)
decide_dart map d = go (true_or_false (map.live d))
  where
    go : IsDart map d ⊎ (map.live d ≡ false) → IsDecided (IsDart map d)
    go (inl live) = inl live
    go (inr dead) = inr (λ live. not_both (map.live d) live dead)

-- where each rule is accepted, good statements are
pub all_suited : (schema : Schema) (rules : List Rule) → IsSchema schema → All (IsAccepted schema) rules → (stats : List Stat) → AllByRecursion (IsGoodStat rules schema.dim) stats → AllByRecursion (IsSuited schema rules) stats
all_suited schema rules of_schema accepted [] good = tt
all_suited schema rules of_schema accepted (stat ∷ stats) good = (at stat good.0, all_suited schema rules of_schema accepted stats good.1)
  where
    of : (index : ℕ) → IsRuleOf schema rules index
    of index = record { of_schema = of_schema; accepted = λ rule is. subst (IsAccepted schema) (get_or_from_slice_get rules index rule rule is) (accepted index rule (slice_get_within rules index rule is)) }

    at : (stat : Stat) → IsGoodStat rules schema.dim stat → IsSuited schema rules stat
    at (statements.Apply line) good = (good, of line.rule)
    at statements.Undo good = tt
    at statements.Redo good = tt
    at statements.Group good = tt
    at statements.End good = tt
    at (statements.Each mask index params) good = (good, of index)

-- whether a group is open
abbrev HasGroup : Bool → Option Group → Type 0
HasGroup true group = (open_one : Group) × (group ≡ Some open_one)
HasGroup false group = group ≡ None

module _ (schema : Schema) where
  -- a sound state, with what it cost to come to each entry of its history
  pub record Stands (state : State) (entries : Entries) : Type 0 where
    pub sound : IsSoundState schema state
    pub past : length entries.past ≡ length state.history.past
    pub future : length entries.future ≡ length state.history.future

  -- ---- behind applications that were done

  past_long : (group : Option Group) (map : Map) (past : List Map) (most : ℕ) (entries : Entries) → length entries.past ≡ length past → length (entered group most entries).past ≡ length (past_behind map group past)
  past_long None map past most entries e = ap suc e
  past_long (Some group) map past most entries e = e

  future_long : (group : Option Group) (most : ℕ) (entries : Entries) → length (entered group most entries).future ≡ 0
  future_long None most entries = refl
  future_long (Some group) most entries = refl

  past_sound : (group : Option Group) (map : Map) (past : List Map) → IsSoundOf schema map → AllByRecursion (IsSoundOf schema) past → AllByRecursion (IsSoundOf schema) (past_behind map group past)
  past_sound None map past here all = (here, all)
  past_sound (Some group) map past here all = all

  group_sound : (group : Option Group) → ((open_one : Group) → group ≡ Some open_one → IsSoundOf schema open_one.map) → (open_one : Group) → option_map changed group ≡ Some open_one → IsSoundOf schema open_one.map
  group_sound None sound open_one e = none_some open_one e
  group_sound (Some first) sound open_one e = subst (λ (g : Group). IsSoundOf schema g.map) (some_same (changed first) open_one e) (sound first refl)

  stands_done : (state : State) (entries : Entries) (after : Map) (most : ℕ) → Stands state entries → IsSoundOf schema after → Stands (behind_done state after) (entered state.history.group most entries)
  stands_done state entries after most here sound = record {
    sound = record {
      map = sound;
      past = past_sound state.history.group state.map state.history.past here.sound.map here.sound.past;
      future = tt;
      group = group_sound state.history.group here.sound.group;
    };
    past = past_long state.history.group state.map state.history.past most entries here.past;
    future = future_long state.history.group most entries;
  }

  stands_each : (state : State) (entries : Entries) (after : Map) (most : ℕ) → state.history.group ≡ None → Stands state entries → IsSoundOf schema after
      → (done : ℕ) → Stands (behind_each state done after) (each_entered done most entries)
  stands_each state entries after most outside here sound zero = here
  stands_each state entries after most outside here sound (suc done) =
      subst (λ group. Stands (behind_done state after) (entered group most entries)) outside (stands_done state entries after most here sound)

  -- ---- behind a group

  kept_long : (group : Group) (state : State) (entries : Entries) → length entries.past ≡ length state.history.past → length (group_entered group entries).past ≡ length (kept group state.history).past
  kept_long group state entries same = go group.is_changed
    where
      go : (c : Bool) → length (if c then entries.group ∷ entries.past else entries.past) ≡ length (if c then group.map ∷ state.history.past else state.history.past)
      go true = ap suc same
      go false = same

  kept_sound : (group : Group) (past : List Map) → IsSoundOf schema group.map → AllByRecursion (IsSoundOf schema) past → AllByRecursion (IsSoundOf schema) (if group.is_changed then group.map ∷ past else past)
  kept_sound group past here all = go group.is_changed
    where
      go : (c : Bool) → AllByRecursion (IsSoundOf schema) (if c then group.map ∷ past else past)
      go true = (here, all)
      go false = all

  module _ (rules : List Rule) where
    -- ---- each step has bounds, and leaves a sound state

    pub record GoesOn (state : State) (entries : Entries) (stat : Stat) (outcome : Outcome) (after : State) : Type 0 where
      pub bounds : Bounds
      pub behind : Entries
      pub has : HasStatBounds rules state entries stat outcome bounds behind
      pub stands : Stands after behind

    undone : (state : State) (entries : Entries) (before : Map) (history : History) → Stands state entries → IsUndone state.map state.history before history → GoesOn state entries statements.Undo runs.Undone (standing_at before history)
    undone state entries before history here is = subst (λ (h : History). GoesOn state entries statements.Undo runs.Undone (standing_at before h)) (sym is.after) (go entries.past refl)
      where
        sound : AllByRecursion (IsSoundOf schema) (before ∷ is.rest)
        sound = subst (AllByRecursion (IsSoundOf schema)) is.past here.sound.past

        go : (costs : List ℕ) → entries.past ≡ costs → GoesOn state entries statements.Undo runs.Undone (standing_at before (record { past = is.rest; future = state.map ∷ state.history.future; group = None }))
        go [] f = absurd (let same : length entries.past ≡ length state.history.past = here.past in omega (arith, ap length is.past, ap length f))
        go (most ∷ costs) f = record {
          bounds = up_to most;
          behind = record { past = costs; future = most ∷ entries.future; group = entries.group };
          has = OfUndone most costs f;
          stands = record {
            sound = record { map = sound.0; past = sound.1; future = (here.sound.map, here.sound.future); group = λ open_one g. none_some open_one g };
            past = (let same : length entries.past ≡ length state.history.past = here.past in omega (arith, ap length is.past, ap length f));
            future = ap suc here.future;
          };
        }

    redone : (state : State) (entries : Entries) (after : Map) (history : History) → Stands state entries → IsRedone state.map state.history after history → GoesOn state entries statements.Redo runs.Redone (standing_at after history)
    redone state entries after history here is = subst (λ (h : History). GoesOn state entries statements.Redo runs.Redone (standing_at after h)) (sym is.after) (go entries.future refl)
      where
        sound : AllByRecursion (IsSoundOf schema) (after ∷ is.rest)
        sound = subst (AllByRecursion (IsSoundOf schema)) is.future here.sound.future

        go : (costs : List ℕ) → entries.future ≡ costs → GoesOn state entries statements.Redo runs.Redone (standing_at after (record { past = state.map ∷ state.history.past; future = is.rest; group = None }))
        go [] f = absurd (let same : length entries.future ≡ length state.history.future = here.future in omega (arith, ap length is.future, ap length f))
        go (most ∷ costs) f = record {
          bounds = up_to most;
          behind = record { past = most ∷ entries.past; future = costs; group = entries.group };
          has = OfRedone most costs f;
          stands = record {
            sound = record { map = sound.0; past = (here.sound.map, here.sound.past); future = sound.1; group = λ open_one g. none_some open_one g };
            past = ap suc here.past;
            future = (let same : length entries.future ≡ length state.history.future = here.future in omega (arith, ap length is.future, ap length f));
          };
        }

    went_over : (state : State) (entries : Entries) (mask : Mask) (index : ℕ) (params : List Value) (leads : List ℕ) (turns : List Turn) (after : Map) → Stands state entries → IsRuleOf schema rules index → IsGoodEach rules schema.dim mask index params
        → state.history.group ≡ None → AreLeads state.map mask leads → AreTurns rules index params state.map leads turns after
        → GoesOn state entries (statements.Each mask index params) (told turns) (behind_each state (count_by is_done_turn turns) after)
    went_over state entries mask index params leads turns after here of good outside are are_turns = go (turns_cost schema rules index params of (each_line rules schema.dim mask index params good) leads turns state.map after here.sound.map are_turns) (list_all_of (IsDart state.map) (decide_dart state.map) state.map.next here.sound.map.sound.is_map.below)
      where
        go : TurnsCost schema rules index params of (each_line rules schema.dim mask index params good) turns after → (darts : List ℕ) × IsListOf (IsDart state.map) darts → GoesOn state entries (statements.Each mask index params) (told turns) (behind_each state (count_by is_done_turn turns) after)
        go costs (darts, listed) = record {
          bounds = record { least = costs.costs.least; most = costs.costs.most + 12 * (dimension state.map + 1) * (length darts + 1) };
          behind = each_entered (count_by is_done_turn turns) costs.costs.done entries;
          has = OfEach mask index params leads turns after costs.costs (length darts) are are_turns costs.are (darts, listed, refl);
          stands = stands_each state entries after costs.costs.done outside here costs.sound (count_by is_done_turn turns);
        }

    pub goes_on : (state : State) (entries : Entries) (stat : Stat) (outcome : Outcome) (after : State) → Stands state entries → IsSuited schema rules stat → IsStatOutcome rules state stat outcome after → GoesOn state entries stat outcome after
    goes_on state entries _ _ _ here suited (IsDoneHere line added removed after whole is) =
        let costs : LineCosts schema rules state.map line (runs.Done added removed) after = line_costs schema rules state.map line suited.1 here.sound.map suited.0 (runs.Done added removed) after is in
        record {
          bounds = record { least = added + removed; most = costs.most };
          behind = entered state.history.group costs.most entries;
          has = OfDone line added removed costs.most costs.budget;
          stands = stands_done state entries after costs.most here costs.sound;
        }
    goes_on state entries _ _ _ here suited (IsRefusedHere line cause whole is) =
        let costs : LineCosts schema rules state.map line (runs.Refused cause) state.map = line_costs schema rules state.map line suited.1 here.sound.map suited.0 (runs.Refused cause) state.map is in
        record {
          bounds = up_to costs.most;
          behind = entries;
          has = OfRefused line cause costs.most costs.budget;
          stands = record { sound = record { map = here.sound.map; past = here.sound.past; future = here.sound.future; group = here.sound.group }; past = here.past; future = here.future };
        }
    goes_on state entries _ _ _ here suited (IsSkipped line broken) = record { bounds = up_to 0; behind = entries; has = OfSkipped line; stands = here }
    goes_on state entries _ _ _ here suited (GoesBack before history is) = undone state entries before history here is
    goes_on state entries _ _ _ here suited (HasNoPast outside none) = record { bounds = up_to 0; behind = entries; has = OfNoPast; stands = here }
    goes_on state entries _ _ _ here suited (GoesForth after history is) = redone state entries after history here is
    goes_on state entries _ _ _ here suited (HasNoFuture outside none) = record { bounds = up_to 0; behind = entries; has = OfNoFuture; stands = here }
    goes_on state entries _ _ _ here suited (Begins outside) = record {
      bounds = up_to 0;
      behind = record { past = entries.past; future = entries.future; group = 0 };
      has = OfBegun;
      stands = record {
        sound = record { map = here.sound.map; past = here.sound.past; future = here.sound.future; group = λ open_one e. subst (λ (g : Group). IsSoundOf schema g.map) (some_same (record { map = state.map; is_changed = false }) open_one e) here.sound.map };
        past = here.past;
        future = here.future;
      };
    }
    goes_on state entries _ _ _ here suited (Ends group e whole) = record {
      bounds = up_to 0;
      behind = group_entered group entries;
      has = OfKept group e;
      stands = record {
        sound = record { map = here.sound.map; past = kept_sound group state.history.past (here.sound.group group e) here.sound.past; future = here.sound.future; group = λ open_one g. none_some open_one g };
        past = kept_long group state entries here.past;
        future = here.future;
      };
    }
    goes_on state entries _ _ _ here suited (IsTakenBack group e broken) = record {
      bounds = up_to entries.group;
      behind = entries;
      has = OfDropped;
      stands = record {
        sound = record { map = here.sound.group group e; past = here.sound.past; future = here.sound.future; group = λ open_one g. none_some open_one g };
        past = here.past;
        future = here.future;
      };
    }
    goes_on state entries _ _ _ here suited (GoesOver mask index params leads turns after outside are are_turns) = went_over state entries mask index params leads turns after here suited.1 suited.0 outside are are_turns

    -- ---- there is a step

    record StepFound (next : Bool) (state : State) (stat : Stat) : Type 0 where
      outcome : Outcome
      after : State
      step : IsStatOutcome rules state stat outcome after
      group : HasGroup next after.history.group

    group_stays : (within : Bool) (group : Option Group) → HasGroup within group → HasGroup within (option_map changed group)
    group_stays true group (open_one, e) = (changed open_one, ap (option_map changed) e)
    group_stays false group e = ap (option_map changed) e

    apply_found : (within : Bool) (state : State) (line : Line) → IsSoundState schema state → HasGroup within state.history.group → IsRuleOf schema rules line.rule → IsGoodLine rules line → StepFound within state (statements.Apply line)
    apply_found within state line sound group of good = go state.is_broken refl
      where
        by : (outcome : Outcome) (after : Map) → IsLineOutcome rules state.map line outcome after → state.is_broken ≡ false → StepFound within state (statements.Apply line)
        by (runs.Done added removed) after is whole = record { outcome = runs.Done added removed; after = behind_done state after; step = IsDoneHere line added removed after whole is; group = group_stays within state.history.group group }
        by (runs.Refused cause) after is whole = record {
          outcome = runs.Refused cause;
          after = behind_refused state;
          step = IsRefusedHere line cause whole (subst (IsLineOutcome rules state.map line (runs.Refused cause)) is.outcome_is.1 is);
          group = group;
        }
        by other after is whole = absurd is.outcome_is

        go : (broken : Bool) → state.is_broken ≡ broken → StepFound within state (statements.Apply line)
        go true e = record { outcome = runs.Skipped; after = state; step = IsSkipped line e; group = group }
        go false e = let first : LineFound schema rules state.map line = line_found schema rules state.map line of sound.map good in by first.outcome first.after first.is e

    undo_found : (state : State) → state.history.group ≡ None → StepFound false state statements.Undo
    undo_found state outside = go state.history.past refl
      where
        go : (past : List Map) → state.history.past ≡ past → StepFound false state statements.Undo
        go [] e = record { outcome = runs.NothingToUndo; after = state; step = HasNoPast outside e; group = outside }
        go (before ∷ rest) e =
            let history : History = record { past = rest; future = state.map ∷ state.history.future; group = None } in
            record { outcome = runs.Undone; after = standing_at before history; step = GoesBack before history (record { outside = outside; rest = rest; past = e; after = refl }); group = refl }

    redo_found : (state : State) → state.history.group ≡ None → StepFound false state statements.Redo
    redo_found state outside = go state.history.future refl
      where
        go : (future : List Map) → state.history.future ≡ future → StepFound false state statements.Redo
        go [] e = record { outcome = runs.NothingToRedo; after = state; step = HasNoFuture outside e; group = outside }
        go (after ∷ rest) e =
            let history : History = record { past = state.map ∷ state.history.past; future = rest; group = None } in
            record { outcome = runs.Redone; after = standing_at after history; step = GoesForth after history (record { outside = outside; rest = rest; future = e; after = refl }); group = refl }

    end_found : (state : State) → HasGroup true state.history.group → StepFound false state statements.End
    end_found state (group, e) = go state.is_broken refl
      where
        go : (broken : Bool) → state.is_broken ≡ broken → StepFound false state statements.End
        go false f = record { outcome = runs.Kept; after = standing_at state.map (kept group state.history); step = Ends group e f; group = refl }
        go true f = record { outcome = runs.Dropped; after = standing_at group.map (dropped state.history); step = IsTakenBack group e f; group = refl }

    each_found : (state : State) (mask : Mask) (index : ℕ) (params : List Value) → IsSoundState schema state → state.history.group ≡ None → IsRuleOf schema rules index → IsGoodEach rules schema.dim mask index params → StepFound false state (statements.Each mask index params)
    each_found state mask index params sound outside of good = go (leads_exist state.map sound.map.sound mask (λ i t. subst (λ (s : Schema). i ≤ s.dim) (sym sound.map.schema_is) (good.labels i t)))
      where
        group : (turns : List Turn) (after : Map) (done : ℕ) → (behind_each state done after).history.group ≡ None
        group turns after zero = outside
        group turns after (suc done) = ap (option_map changed) outside

        go : (leads : List ℕ) × AreLeads state.map mask leads → StepFound false state (statements.Each mask index params)
        go (leads, are) =
            let turns : TurnsFound schema rules index params of (each_line rules schema.dim mask index params good) state.map leads = turns_found schema rules index params of (each_line rules schema.dim mask index params good) leads state.map sound.map in
            record {
              outcome = told turns.turns;
              after = behind_each state (count_by is_done_turn turns.turns) turns.after;
              step = GoesOver mask index params leads turns.turns turns.after outside are turns.are;
              group = group turns.turns turns.after (count_by is_done_turn turns.turns);
            }

    -- ---- one statement after another

    has_run : (stats : List Stat) (within : Bool) (state : State) (entries : Entries) → Stands state entries → HasGroup within state.history.group → AllByRecursion (IsSuited schema rules) stats → AreInOrder within stats → HasRun rules schema state entries stats
    has_run [] within state entries here group suited order = record { outcomes = []; after = state; bounds = up_to 0; run = refl; sound = here.sound; within = (refl, refl) }
    has_run (stat ∷ stats) within state entries here group suited order = at stat suited.0 order (λ next between behind there group goes_on. has_run stats next between behind there group suited.1 goes_on)
      where
        Further : Type 0
        Further = (next : Bool) (between : State) (behind : Entries) → Stands between behind → HasGroup next between.history.group → AreInOrder next stats → HasRun rules schema between behind stats

        joined : (stat : Stat) (next : Bool) → IsSuited schema rules stat → StepFound next state stat → AreInOrder next stats → Further → HasRun rules schema state entries (stat ∷ stats)
        joined stat next suited first order further =
            let on : GoesOn state entries stat first.outcome first.after = goes_on state entries stat first.outcome first.after here suited first.step in
            let rest : HasRun rules schema first.after on.behind stats = further next first.after on.behind on.stands first.group order in
            record {
              outcomes = first.outcome ∷ rest.outcomes;
              after = rest.after;
              bounds = record { least = on.bounds.least + rest.bounds.least; most = on.bounds.most + rest.bounds.most };
              run = (first.after, first.step, rest.run);
              sound = rest.sound;
              within = (first.after, on.behind, on.bounds, rest.bounds, first.step, on.has, rest.within, refl);
            }

        outside : within ≡ false → state.history.group ≡ None
        outside e = subst (λ w. HasGroup w state.history.group) e group

        at : (stat : Stat) → IsSuited schema rules stat → AreInOrder within (stat ∷ stats) → Further → HasRun rules schema state entries (stat ∷ stats)
        at (statements.Apply line) suited order = joined (statements.Apply line) within suited (apply_found within state line here.sound group suited.1 suited.0) order
        at statements.Undo suited order = joined statements.Undo false suited (undo_found state (outside order.0)) (subst (λ w. AreInOrder w stats) order.0 order.1)
        at statements.Redo suited order = joined statements.Redo false suited (redo_found state (outside order.0)) (subst (λ w. AreInOrder w stats) order.0 order.1)
        at statements.Group suited order =
            joined statements.Group true suited (record { outcome = runs.Begun; after = standing_at state.map (begun_at state.map state.history); step = Begins (outside order.0); group = (record { map = state.map; is_changed = false }, refl) }) order.1
        at statements.End suited order = joined statements.End false suited (end_found state (subst (λ w. HasGroup w state.history.group) order.0 group)) order.1
        at (statements.Each mask index params) suited order =
            joined (statements.Each mask index params) false suited (each_found state mask index params here.sound (outside order.0) suited.1 suited.0) (subst (λ w. AreInOrder w stats) order.0 order.1)

-- where a run begins
pub stands_first : (map : Map) → IsSound map → Stands map.schema (start_of map) no_entries
stands_first map sound = record {
  sound = record { map = record { schema_is = refl; sound = sound }; past = tt; future = tt; group = λ open_one e. none_some open_one e };
  past = refl;
  future = refl;
}

pub scripts_have_runs : ScriptsHaveRuns
scripts_have_runs rules map stats of_schema sound accepted good order = has_run map.schema rules stats false (start_of map) no_entries (stands_first map sound) refl (all_suited map.schema rules of_schema accepted stats good) order
