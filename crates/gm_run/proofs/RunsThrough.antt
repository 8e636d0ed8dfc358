-- Where each sound map has a map of some kind that is alike, a script has a run from a map of that kind through maps of that kind alone.
use Rattle.std.proofs.Common.{◌≡◌, ◌⊎◌, ◌≤◌, ℕ, zero, suc, Bool, true, false, inl, inr, List, [], ◌∷◌, Option, Some, None, slice_get, if◌then◌else◌, refl, sym, ap, subst}
use Rattle.std.specs.List.{AllByRecursion, count_by}
use Rattle.std.specs.Option.{option_map}
use Rattle.gm_model.specs.declared.schema.Schema.{Schema}
use Rattle.gm_model.specs.Statements.{Line, Stat}
use Rattle.gm_model.specs.Statements as statements
use Rattle.gm_model.specs.declared.value.Value.{Value}
use Rattle.gm_model.specs.declared.word.Mask.{Mask}
use Rattle.gm_model.specs.Budgets.{Entries}
use Rattle.gm_model.specs.Histories.{Group, History, begun_at, changed, dropped, kept, past_behind}
use Rattle.gm_model.specs.Maps.{Map, IsDart, IsSchema}
use Rattle.gm_model.specs.Rules.{Rule}
use Rattle.gm_model.specs.Runs as runs
use Rattle.gm_model.specs.Runs.{Outcome, Turn, Taken, Passed, State, AreInOrder, AreLeads, AreTurns, IsLineOutcome, IsStatOutcome, IsDoneHere, IsRefusedHere, IsSkipped, GoesBack, HasNoPast, GoesForth, HasNoFuture, Begins, Ends, IsTakenBack, GoesOver, IsRun, application_by, behind_done, behind_each, behind_refused, is_done_turn, line_at, standing_at, told}
use Rattle.gm_theory.proofs.LeadsFound.{leads_exist}
use Rattle.gm_theory.proofs.Lists.{none_some, some_same}
use Rattle.gm_theory.proofs.RunsFound.{GoesOn, Stands, goes_on}
use Rattle.gm_theory.proofs.Tests.{not_both, true_or_false}
use Rattle.gm_theory.proofs.TurnsFound.{LineCosts, LineFound, each_line, line_costs, line_found, rule_accepted}
use Rattle.gm_theory.specs.inner.Outcomes.{IsGoodEach, IsGoodLine, IsSoundOf}
use Rattle.gm_theory.specs.inner.Suited.{IsRuleOf, IsSuited}
use Rattle.gm_run.specs.inner.Alike.{AreAlike}
use Rattle.gm_run.proofs.AlikeLemmas.{Suits}
use Rattle.gm_run.proofs.AlikeResults.{done_alike}

-- whether a group is open
abbrev pub HasGroup : Bool → Option Group → Type 0
HasGroup true group = (open_one : Group) × (group ≡ Some open_one)
HasGroup false group = group ≡ None

module _ (IsSuch : Map → Type 0) where
  -- each map of the state is of the kind
  pub record IsThrough (state : State) : Type 0 where
    pub map : IsSuch state.map
    pub past : AllByRecursion IsSuch state.history.past
    pub future : AllByRecursion IsSuch state.history.future
    pub group : (group : Group) → state.history.group ≡ Some group → IsSuch group.map

  -- ---- behind applications that were done

  past_kind : (group : Option Group) (map : Map) (past : List Map) → IsSuch map → AllByRecursion IsSuch past → AllByRecursion IsSuch (past_behind map group past)
  past_kind None map past here all = (here, all)
  past_kind (Some group) map past here all = all

  group_kind : (group : Option Group) → ((open_one : Group) → group ≡ Some open_one → IsSuch open_one.map) → (open_one : Group) → option_map changed group ≡ Some open_one → IsSuch open_one.map
  group_kind None each open_one e = none_some open_one e
  group_kind (Some first) each open_one e = subst (λ (g : Group). IsSuch g.map) (some_same (changed first) open_one e) (each first refl)

  through_done : (state : State) (after : Map) → IsThrough state → IsSuch after → IsThrough (behind_done state after)
  through_done state after through kind = record {
    map = kind;
    past = past_kind state.history.group state.map state.history.past through.map through.past;
    future = tt;
    group = group_kind state.history.group through.group;
  }

  through_each : (state : State) (after : Map) → IsThrough state → IsSuch after → (done : ℕ) → IsThrough (behind_each state done after)
  through_each state after through kind zero = through
  through_each state after through kind (suc done) = through_done state after through kind

  kept_kind : (group : Group) (past : List Map) → IsSuch group.map → AllByRecursion IsSuch past → AllByRecursion IsSuch (if group.is_changed then group.map ∷ past else past)
  kept_kind group past here all = go group.is_changed
    where
      go : (c : Bool) → AllByRecursion IsSuch (if c then group.map ∷ past else past)
      go true = (here, all)
      go false = all

  -- a run of the statements through such maps
  pub record RunThrough (rules : List Rule) (state : State) (stats : List Stat) : Type 0 where
    pub outcomes : List Outcome
    pub after : State
    pub run : IsRun rules state stats outcomes after
    pub through : IsThrough after

module _ (schema : Schema) (rules : List Rule) (IsSuch : Map → Type 0) (settle : (map : Map) → IsSoundOf schema map → (other : Map) × AreAlike map other × IsSuch other) where
  -- ---- a line

  record LineThrough (before : Map) (line : Line) : Type 0 where
    outcome : Outcome
    after : Map
    is : IsLineOutcome rules before line outcome after
    kind : IsSuch after

  line_through : (before : Map) (line : Line) → IsRuleOf schema rules line.rule → IsSoundOf schema before → IsSuch before → IsGoodLine rules line → LineThrough before line
  line_through before line of sound kind good = go found.outcome found.after found.is found.sound
    where
      found : LineFound schema rules before line
      found = line_found schema rules before line of sound good

      suits : (rule : Rule) → slice_get rules line.rule ≡ Some rule → Suits rule before
      suits rule is = record { of_schema = subst IsSchema (sym sound.schema_is) of.of_schema; sound = sound.sound; accepted = rule_accepted schema rules before line.rule rule of sound is }

      settled : (added removed : ℕ) (after : Map) → IsLineOutcome rules before line (runs.Done added removed) after → (other : Map) × AreAlike after other × IsSuch other → LineThrough before line
      settled added removed after is (other, alike, new) = record {
        outcome = runs.Done added removed;
        after = other;
        is = record { rule = is.rule; rule_is = is.rule_is; outcome_is = done_alike (application_by before is.rule line) (suits is.rule is.rule_is) after other alike added removed is.outcome_is };
        kind = new;
      }

      go : (outcome : Outcome) (after : Map) → IsLineOutcome rules before line outcome after → IsSoundOf schema after → LineThrough before line
      go (runs.Done added removed) after is sound_after = settled added removed after is (settle after sound_after)
      go (runs.Refused cause) after is sound_after = record { outcome = runs.Refused cause; after = before; is = subst (IsLineOutcome rules before line (runs.Refused cause)) is.outcome_is.1 is; kind = kind }
      go other after is sound_after = absurd is.outcome_is

  -- ---- the lines of an `each`

  module _ (index : ℕ) (params : List Value) (of : IsRuleOf schema rules index) (good : (d : ℕ) → IsGoodLine rules (line_at index params d)) where
    record TurnsThrough (before : Map) (leads : List ℕ) : Type 0 where
      turns : List Turn
      after : Map
      are : AreTurns rules index params before leads turns after
      kind : IsSuch after

    turns_through : (leads : List ℕ) (before : Map) → IsSoundOf schema before → IsSuch before → TurnsThrough before leads
    turns_through [] before sound kind = record { turns = []; after = before; are = refl; kind = kind }
    turns_through (d ∷ leads) before sound kind = go (true_or_false (before.live d)) (turns_through leads)
      where
        go : IsDart before d ⊎ (before.live d ≡ false) → ((between : Map) → IsSoundOf schema between → IsSuch between → TurnsThrough between leads) → TurnsThrough before (d ∷ leads)
        go (inl live) further =
            let first : LineThrough before (line_at index params d) = line_through before (line_at index params d) of sound kind (good d) in
            let costs : LineCosts schema rules before (line_at index params d) first.outcome first.after = line_costs schema rules before (line_at index params d) of sound (good d) first.outcome first.after first.is in
            let rest : TurnsThrough first.after leads = further first.after costs.sound first.kind in
            record { turns = Taken before (line_at index params d) first.outcome ∷ rest.turns; after = rest.after; are = (live, refl, refl, first.after, first.is, rest.are); kind = rest.kind }
        go (inr dead) further =
            let rest : TurnsThrough before leads = further before sound kind in
            record { turns = Passed ∷ rest.turns; after = rest.after; are = (λ live. not_both (before.live d) live dead, rest.are); kind = rest.kind }

  -- ---- a statement

  record StepThrough (next : Bool) (state : State) (stat : Stat) : Type 0 where
    outcome : Outcome
    after : State
    step : IsStatOutcome rules state stat outcome after
    group : HasGroup next after.history.group
    through : IsThrough IsSuch after

  group_stays : (within : Bool) (group : Option Group) → HasGroup within group → HasGroup within (option_map changed group)
  group_stays true group (open_one, e) = (changed open_one, ap (option_map changed) e)
  group_stays false group e = ap (option_map changed) e

  apply_through : (within : Bool) (state : State) (line : Line) → IsSoundOf schema state.map → IsThrough IsSuch state → HasGroup within state.history.group → IsRuleOf schema rules line.rule → IsGoodLine rules line → StepThrough within state (statements.Apply line)
  apply_through within state line sound through group of good = go state.is_broken refl
    where
      by : (outcome : Outcome) (after : Map) → IsLineOutcome rules state.map line outcome after → IsSuch after → state.is_broken ≡ false → StepThrough within state (statements.Apply line)
      by (runs.Done added removed) after is kind whole = record {
        outcome = runs.Done added removed;
        after = behind_done state after;
        step = IsDoneHere line added removed after whole is;
        group = group_stays within state.history.group group;
        through = through_done IsSuch state after through kind;
      }
      by (runs.Refused cause) after is kind whole = record {
        outcome = runs.Refused cause;
        after = behind_refused state;
        step = IsRefusedHere line cause whole (subst (IsLineOutcome rules state.map line (runs.Refused cause)) is.outcome_is.1 is);
        group = group;
        through = record { map = through.map; past = through.past; future = through.future; group = through.group };
      }
      by other after is kind whole = absurd is.outcome_is

      go : (broken : Bool) → state.is_broken ≡ broken → StepThrough within state (statements.Apply line)
      go true e = record { outcome = runs.Skipped; after = state; step = IsSkipped line e; group = group; through = through }
      go false e = let first : LineThrough state.map line = line_through state.map line of sound through.map good in by first.outcome first.after first.is first.kind e

  undo_through : (state : State) → IsThrough IsSuch state → state.history.group ≡ None → StepThrough false state statements.Undo
  undo_through state through outside = go state.history.past refl
    where
      go : (past : List Map) → state.history.past ≡ past → StepThrough false state statements.Undo
      go [] e = record { outcome = runs.NothingToUndo; after = state; step = HasNoPast outside e; group = outside; through = through }
      go (before ∷ rest) e =
          let history : History = record { past = rest; future = state.map ∷ state.history.future; group = None } in
          let kinds : AllByRecursion IsSuch (before ∷ rest) = subst (AllByRecursion IsSuch) e through.past in
          record {
            outcome = runs.Undone;
            after = standing_at before history;
            step = GoesBack before history (record { outside = outside; rest = rest; past = e; after = refl });
            group = refl;
            through = record { map = kinds.0; past = kinds.1; future = (through.map, through.future); group = λ open_one g. none_some open_one g };
          }

  redo_through : (state : State) → IsThrough IsSuch state → state.history.group ≡ None → StepThrough false state statements.Redo
  redo_through state through outside = go state.history.future refl
    where
      go : (future : List Map) → state.history.future ≡ future → StepThrough false state statements.Redo
      go [] e = record { outcome = runs.NothingToRedo; after = state; step = HasNoFuture outside e; group = outside; through = through }
      go (after ∷ rest) e =
          let history : History = record { past = state.map ∷ state.history.past; future = rest; group = None } in
          let kinds : AllByRecursion IsSuch (after ∷ rest) = subst (AllByRecursion IsSuch) e through.future in
          record {
            outcome = runs.Redone;
            after = standing_at after history;
            step = GoesForth after history (record { outside = outside; rest = rest; future = e; after = refl });
            group = refl;
            through = record { map = kinds.0; past = (through.map, through.past); future = kinds.1; group = λ open_one g. none_some open_one g };
          }

  begin_through : (state : State) → IsThrough IsSuch state → state.history.group ≡ None → StepThrough true state statements.Group
  begin_through state through outside = record {
    outcome = runs.Begun;
    after = standing_at state.map (begun_at state.map state.history);
    step = Begins outside;
    group = (record { map = state.map; is_changed = false }, refl);
    through = record {
      map = through.map;
      past = through.past;
      future = through.future;
      group = λ open_one e. subst (λ (g : Group). IsSuch g.map) (some_same (record { map = state.map; is_changed = false }) open_one e) through.map;
    };
  }

  end_through : (state : State) → IsThrough IsSuch state → HasGroup true state.history.group → StepThrough false state statements.End
  end_through state through (group, e) = go state.is_broken refl
    where
      go : (broken : Bool) → state.is_broken ≡ broken → StepThrough false state statements.End
      go false f = record {
        outcome = runs.Kept;
        after = standing_at state.map (kept group state.history);
        step = Ends group e f;
        group = refl;
        through = record { map = through.map; past = kept_kind IsSuch group state.history.past (through.group group e) through.past; future = through.future; group = λ open_one g. none_some open_one g };
      }
      go true f = record {
        outcome = runs.Dropped;
        after = standing_at group.map (dropped state.history);
        step = IsTakenBack group e f;
        group = refl;
        through = record { map = through.group group e; past = through.past; future = through.future; group = λ open_one g. none_some open_one g };
      }

  each_through : (state : State) (mask : Mask) (index : ℕ) (params : List Value) → IsSoundOf schema state.map → IsThrough IsSuch state → state.history.group ≡ None → IsRuleOf schema rules index → IsGoodEach rules schema.dim mask index params
      → StepThrough false state (statements.Each mask index params)
  each_through state mask index params sound through outside of good = go (leads_exist state.map sound.sound mask (λ i t. subst (λ (s : Schema). i ≤ s.dim) (sym sound.schema_is) (good.labels i t)))
    where
      group : (after : Map) (done : ℕ) → (behind_each state done after).history.group ≡ None
      group after zero = outside
      group after (suc done) = ap (option_map changed) outside

      go : (leads : List ℕ) × AreLeads state.map mask leads → StepThrough false state (statements.Each mask index params)
      go (leads, are) =
          let turns : TurnsThrough index params of (each_line rules schema.dim mask index params good) state.map leads = turns_through index params of (each_line rules schema.dim mask index params good) leads state.map sound through.map in
          record {
            outcome = told turns.turns;
            after = behind_each state (count_by is_done_turn turns.turns) turns.after;
            step = GoesOver mask index params leads turns.turns turns.after outside are turns.are;
            group = group turns.after (count_by is_done_turn turns.turns);
            through = through_each IsSuch state turns.after through turns.kind (count_by is_done_turn turns.turns);
          }

  -- ---- one statement after another

  pub run_through : (stats : List Stat) (within : Bool) (state : State) (entries : Entries) → Stands schema state entries → IsThrough IsSuch state → HasGroup within state.history.group → AllByRecursion (IsSuited schema rules) stats → AreInOrder within stats
      → RunThrough IsSuch rules state stats
  run_through [] within state entries here through group suited order = record { outcomes = []; after = state; run = refl; through = through }
  run_through (stat ∷ stats) within state entries here through group suited order = at stat suited.0 order (λ next between behind there kinds open_one further. run_through stats next between behind there kinds open_one suited.1 further)
    where
      Further : Type 0
      Further = (next : Bool) (between : State) (behind : Entries) → Stands schema between behind → IsThrough IsSuch between → HasGroup next between.history.group → AreInOrder next stats → RunThrough IsSuch rules between stats

      joined : (stat : Stat) (next : Bool) → IsSuited schema rules stat → StepThrough next state stat → AreInOrder next stats → Further → RunThrough IsSuch rules state (stat ∷ stats)
      joined stat next suited first order further =
          let on : GoesOn schema rules state entries stat first.outcome first.after = goes_on schema rules state entries stat first.outcome first.after here suited first.step in
          let rest : RunThrough IsSuch rules first.after stats = further next first.after on.behind on.stands first.through first.group order in
          record { outcomes = first.outcome ∷ rest.outcomes; after = rest.after; run = (first.after, first.step, rest.run); through = rest.through }

      outside : within ≡ false → state.history.group ≡ None
      outside e = subst (λ w. HasGroup w state.history.group) e group

      at : (stat : Stat) → IsSuited schema rules stat → AreInOrder within (stat ∷ stats) → Further → RunThrough IsSuch rules state (stat ∷ stats)
      at (statements.Apply line) suited order = joined (statements.Apply line) within suited (apply_through within state line here.sound.map through group suited.1 suited.0) order
      at statements.Undo suited order = joined statements.Undo false suited (undo_through state through (outside order.0)) (subst (λ w. AreInOrder w stats) order.0 order.1)
      at statements.Redo suited order = joined statements.Redo false suited (redo_through state through (outside order.0)) (subst (λ w. AreInOrder w stats) order.0 order.1)
      at statements.Group suited order = joined statements.Group true suited (begin_through state through (outside order.0)) order.1
      at statements.End suited order = joined statements.End false suited (end_through state through (subst (λ w. HasGroup w state.history.group) order.0 group)) order.1
      at (statements.Each mask index params) suited order =
          joined (statements.Each mask index params) false suited (each_through state mask index params here.sound.map through (outside order.0) suited.1 suited.0) (subst (λ w. AreInOrder w stats) order.0 order.1)
