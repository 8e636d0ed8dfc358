-- What the calls of a run come to, as steps of the definition.
use Rattle.std.proofs.Common.{◌≡◌, ◌≢◌, ℕ, zero, suc, ◌+◌, ◌-◌, ◌<◌, ◌≤◌, Bool, true, false, List, [], ◌∷◌, take, Option, None, Some, Result, Ok, Err, refl, sym, ap, ap₂, subst, ◌∙◌, arith}
use Rattle.std.specs.Option.{option_map}
use Rattle.std.specs.Prelude.{is_some, IfErr, IfOk, MatchResult}
use Rattle.std.proofs.lemmas.Bool.{false≢true}
use Rattle.gm_model.specs.declared.memory.OutOfMemory.{OutOfMemory}
use Rattle.gm_model.specs.declared.schema.Schema.{Schema}
use Rattle.gm_model.specs.Statements.{Line}
use Rattle.gm_model.specs.Statements as statements
use Rattle.gm_model.specs.Budgets.{Bounds, Entries, HasStatBounds, OfDone, OfRefused, OfSkipped, OfUndone, OfNoPast, OfRedone, OfNoFuture, OfBegun, OfKept, OfDropped, IsLineBudget, entered, group_entered, up_to}
use Rattle.gm_model.specs.Histories.{Group, History, IsRedone, IsUndone, begun_at, changed, done_at, dropped, kept}
use Rattle.gm_model.specs.Maps.{Map, IsSound}
use Rattle.gm_model.specs.Rules.{Rule}
use Rattle.gm_model.specs.Runs.{State, IsLineOutcome, IsStatOutcome, IsDoneHere, IsRefusedHere, IsSkipped, GoesBack, HasNoPast, GoesForth, HasNoFuture, Begins, Ends, IsTakenBack, behind_done, behind_refused, standing_at}
use Rattle.gm_model.specs.Runs as runs
use Rattle.gm_apply.specs.declared.refusal.Refusal.{Refusal}
use Rattle.gm_apply.specs.declared.refusal.Refusal.TheVariants as refusals
use Rattle.gm_arena.specs.inner.ArenaAsMap.{as_map}
use Rattle.gm_arena.specs.inner.ArenaMap.{ArenaMap}
use Rattle.gm_theory.specs.inner.Outcomes.{IsGoodLine, IsSoundOf}
use Rattle.gm_theory.specs.inner.Suited.{IsRuleOf}
use Rattle.gm_theory.proofs.TurnsFound.{LineFound, line_costs, line_found}
use Rattle.gm_undo.specs.inner.Costs.{MayTake}
use Rattle.gm_undo.specs.inner.Kept.{HistoryOf}
use Rattle.gm_undo.specs.inner.Standing.{StandsFor}
use Rattle.gm_run.specs.declared.outcome.Outcome.{Outcome}
use Rattle.gm_run.specs.declared.outcome.Outcome.TheVariants as outcomes
use Rattle.gm_run.specs.declared.standing.Open.{Open}
use Rattle.gm_run.specs.declared.standing.Open.TheVariants as opens
use Rattle.gm_run.specs.declared.standing.Standing.{Standing}
use Rattle.gm_run.specs.inner.Alike.{AreAlike, AreAlikeStates}
use Rattle.gm_run.specs.inner.Progress.{IsLeft, BehindAll}
use Rattle.gm_run.specs.inner.Standing.{HasLine, WasDone, WasRefused, HasOpen, HasStep, IsInGroup, IsStopped, IsUnapplied, MayGoBack, MayRecall, Recalls, Remembers, StandsAt, entered_by, group_behind, nearest, nearest_entries, told_behind}
use Rattle.gm_run.proofs.OneRun.{budget_alike}

-- ---- what goes back

-- of a history that is kept only as far as it is needed
take_none : {A : Type 0} (k : ℕ) (l : List A) → 0 < k → take k l ≡ [] → l ≡ []
take_none zero l some none = absurd (omega (arith, some))
take_none (suc k) [] some none = refl
take_none (suc k) (x ∷ l) some none = absurd cc

-- the nearest of a list, whose first is gone to
record IsFirst {A : Type 0} (k : ℕ) (l : List A) (x : A) (rest : List A) : Type 0 where
  pub fewer : ℕ
  pub behind : List A
  pub count : k ≡ suc fewer
  pub all : l ≡ x ∷ behind
  pub rest_is : rest ≡ take fewer behind

first_of : {A : Type 0} (k : ℕ) (l : List A) (x : A) (rest : List A) → take k l ≡ x ∷ rest → IsFirst k l x rest
first_of zero l x rest e = absurd cc
first_of (suc k) [] x rest e = absurd cc
first_of (suc k) (y ∷ l) x rest e = record { fewer = k; behind = l; count = refl; all = ap₂ (λ a b. a ∷ b) (cc e) refl; rest_is = sym (cc e) }

module _ (reach : ℕ) (h : HistoryOf) (m : ArenaMap) (past future : ℕ) (past_far : reach ≤ past) (future_far : reach ≤ future) where
  recalls_done : (map : Map) (back on : List Map) (group : Option Group) → StandsFor h m (done_at map (record { past = take past back; future = take future on; group = group })) → Recalls reach h m (done_at map (record { past = back; future = on; group = group }))
  recalls_done map back on None stands = record { past = suc past; future = suc future; past_far = omega (arith, past_far); future_far = omega (arith, future_far); stands = stands }
  recalls_done map back on (Some group) stands = record { past = past; future = suc future; past_far = past_far; future_far = omega (arith, future_far); stands = stands }

  pub recalls_kept : (group : Group) (told : History) → StandsFor h m (kept group (nearest past future told)) → Recalls reach h m (kept group told)
  recalls_kept group told = go group.is_changed
    where
      go : (changed : Bool) → StandsFor h m (kept (record { map = group.map; is_changed = changed }) (nearest past future told)) → Recalls reach h m (kept (record { map = group.map; is_changed = changed }) told)
      go true stands = record { past = suc past; future = future; past_far = omega (arith, past_far); future_far = future_far; stands = stands }
      go false stands = record { past = past; future = future; past_far = past_far; future_far = future_far; stands = stands }

module _ (reach : ℕ) (h : HistoryOf) (dim : ℕ) (past future : ℕ) (past_far : reach ≤ past) (future_far : reach ≤ future) where
  recalls_entered : (group : Option Group) (most : ℕ) (entries : Entries) → MayTake h dim (entered group most (nearest_entries past future entries)) → MayRecall reach h dim (entered group most entries)
  recalls_entered None most entries costs = record { past = suc past; future = suc future; past_far = omega (arith, past_far); future_far = omega (arith, future_far); costs = costs }
  recalls_entered (Some group) most entries costs = record { past = past; future = suc future; past_far = past_far; future_far = omega (arith, future_far); costs = costs }

  pub recalls_group : (group : Group) (entries : Entries) → MayTake h dim (group_entered group (nearest_entries past future entries)) → MayRecall reach h dim (group_entered group entries)
  recalls_group group entries = go group.is_changed
    where
      go : (changed : Bool) → MayTake h dim (group_entered (record { map = group.map; is_changed = changed }) (nearest_entries past future entries)) → MayRecall reach h dim (group_entered (record { map = group.map; is_changed = changed }) entries)
      go true costs = record { past = suc past; future = future; past_far = omega (arith, past_far); future_far = future_far; costs = costs }
      go false costs = record { past = past; future = future; past_far = past_far; future_far = future_far; costs = costs }

-- where the history is kept, its entries are, behind an application or none
pub entries_then : {T E : Type 0} (result : Result T E) (on : Bool) (reach : ℕ) (old new : HistoryOf) (m n : ArenaMap) (group : Option Group) (most : ℕ) (entries : Entries) → n.schema ≡ m.schema → (may : MayRecall reach old m.schema.dim entries)
    → IfOk result (λ _. MayTake new n.schema.dim (entered group most (nearest_entries may.past may.future entries))) → IfErr result (λ _. new ≡ old)
    → MatchResult result (λ _. on ≡ true → MayRecall reach new n.schema.dim (entered group most entries)) (λ _. on ≡ true → MayRecall reach new n.schema.dim entries)
entries_then (Ok x) on reach old new m n group most entries schema may ok err = λ _. recalls_entered reach new n.schema.dim may.past may.future may.past_far may.future_far group most entries ok
entries_then (Err x) on reach old new m n group most entries schema may ok err = λ _. record {
  past = may.past;
  future = may.future;
  past_far = may.past_far;
  future_far = may.future_far;
  costs = subst (λ h. MayTake h n.schema.dim (nearest_entries may.past may.future entries)) (sym err) (subst (λ (s : Schema). MayTake old s.dim (nearest_entries may.past may.future entries)) (sym schema) may.costs);
}

-- what is told where a history is kept, of one that is
pub history_then : {T E : Type 0} (result : Result T E) (on : Bool) (reach : ℕ) (old new : HistoryOf) (m n : ArenaMap) (map : Map) (told : History) (r : Recalls reach old m told)
    → MatchResult result (λ _. StandsFor new n (done_at map (nearest r.past r.future told))) (λ _. StandsFor new n (nearest r.past r.future told))
    → MatchResult result (λ _. on ≡ true → Recalls reach new n (done_at map told)) (λ _. on ≡ true → Recalls reach new n told)
history_then (Ok x) on reach old new m n map told r stands = λ _. recalls_done reach new n r.past r.future r.past_far r.future_far map told.past told.future told.group stands
history_then (Err x) on reach old new m n map told r stands = λ _. record { past = r.past; future = r.future; past_far = r.past_far; future_far = r.future_far; stands = stands }

-- and where none is
pub needs_none : {T E : Type 0} (result : Result T E) (keeps : Bool) (Done Refused : Type 0) → keeps ≡ false → MatchResult result (λ _. keeps ≡ true → Done) (λ _. keeps ≡ true → Refused)
needs_none (Ok x) keeps Done Refused none = λ e. absurd (false≢true (sym none ∙ e))
needs_none (Err x) keeps Done Refused none = λ e. absurd (false≢true (sym none ∙ e))

-- an application that is refused is none
pub entries_refused : (result : Result Outcome OutOfMemory) (refusal : Refusal) (May : Entries → Type 0) (group : Option Group) (most : ℕ) (entries : Entries)
    → MatchResult result (λ outcome. (outcome ≡ outcomes.Refused refusal) × (refusal ≢ refusals.OutOfMemory)) (λ _. refusal ≡ refusals.OutOfMemory) → May entries → IfOk result (λ outcome. May (entered_by outcome group most entries))
entries_refused (Ok outcome) refusal May group most entries told may = subst (λ (o : Outcome). May (entered_by o group most entries)) (sym told.0) may
entries_refused (Err x) refusal May group most entries told may = tt

pub history_refused : (result : Result Outcome OutOfMemory) (refusal : Refusal) (map : Map) (told : History) → MatchResult result (λ outcome. (outcome ≡ outcomes.Refused refusal) × (refusal ≢ refusals.OutOfMemory)) (λ _. refusal ≡ refusals.OutOfMemory)
    → (Stands : History → Type 0) → Stands told → IfOk result (λ outcome. Stands (told_behind outcome map told))
history_refused (Ok outcome) refusal map told is Stands stands = subst (λ (o : Outcome). Stands (told_behind o map told)) (sym is.0) stands
history_refused (Err x) refusal map told is Stands stands = tt

-- ---- the open group

-- where no group of the state is broken
pub whole : (opened : Open) (state : State) → opened ≢ opens.Broken → HasOpen opened state → state.is_broken ≡ false
whole opens.Nothing state other has = has.1
whole opens.Whole state other has = has.2
whole opens.Broken state other has = absurd (other refl)

open_done : (opened : Open) (state : State) (after : Map) → HasOpen opened state → HasOpen opened (behind_done state after)
open_done opens.Nothing state after has = (ap (option_map changed) has.0, has.1)
open_done opens.Whole state after has = (changed has.0, ap (option_map changed) has.1, has.2)
open_done opens.Broken state after has = (changed has.0, ap (option_map changed) has.1, has.2)

open_refused : (opened : Open) (state : State) (refusal : Refusal) → opened ≢ opens.Broken → HasOpen opened state → HasOpen (group_behind (outcomes.Refused refusal) opened) (behind_refused state)
open_refused opens.Nothing state refusal other has = (has.0, ap is_some has.0)
open_refused opens.Whole state refusal other has = (has.0, has.1, ap is_some has.1)
open_refused opens.Broken state refusal other has = absurd (other refl)

-- outside, the history has no group either
pub outside_of : (m : ArenaMap) (standing : Standing) → (state : State) × (entries : Entries) × StandsAt standing m state entries → standing.group ≡ opens.Nothing → (behind : History) × Remembers standing m behind × (behind.group ≡ None)
outside_of m standing (state, entries, stands) outside = (state.history, stands.history, (subst (λ o. HasOpen o state) outside stands.group).0)

pub outside_kept : (m : ArenaMap) (standing : Standing) → standing.keeps.on ≡ true → (state : State) × (entries : Entries) × StandsAt standing m state entries → standing.group ≡ opens.Nothing → (behind : History) × StandsFor standing.history m behind × (behind.group ≡ None)
outside_kept m standing keeps stands outside = let out = outside_of m standing stands outside in let r = out.1 keeps in (nearest r.past r.future out.0, r.stands, out.2)

-- the group that is open
pub open_group : (opened : Open) (state : State) → IsInGroup opened → HasOpen opened state → (group : Group) × (state.history.group ≡ Some group)
open_group opens.Nothing state inside has = absurd inside
open_group opens.Whole state inside has = (has.0, has.1)
open_group opens.Broken state inside has = (has.0, has.1)

pub inside_of : (m : ArenaMap) (standing : Standing) → standing.keeps.on ≡ true → (state : State) × (entries : Entries) × StandsAt standing m state entries → IsInGroup standing.group → (behind : History) × (group : Group) × StandsFor standing.history m behind × (behind.group ≡ Some group)
inside_of m standing keeps (state, entries, stands) inside = let group : (group : Group) × (state.history.group ≡ Some group) = open_group standing.group state inside stands.group in let r = stands.history keeps in (nearest r.past r.future state.history, group.0, r.stands, group.1)

-- whether it is broken
pub open_broken : (opened : Open) (state : State) → opened ≡ opens.Broken → HasOpen opened state → state.is_broken ≡ true
open_broken opened state e has = (subst (λ o. HasOpen o state) e has).2

-- ---- lines

-- a good line has a budget
pub budget_of : (rules : List Rule) (line : Line) (m : ArenaMap) → IsRuleOf m.schema rules line.rule → IsSound (as_map m) → IsGoodLine rules line → (most : ℕ) × IsLineBudget rules (as_map m) line most
budget_of rules line m of sound good =
    let here : IsSoundOf m.schema (as_map m) = record { schema_is = refl; sound = sound } in
    let found : LineFound m.schema rules (as_map m) line = line_found m.schema rules (as_map m) line of here good in
    let costs = line_costs m.schema rules (as_map m) line of here good found.outcome found.after found.is in
    (costs.most, costs.budget)

module _ (rules : List Rule) (line : Line) (m n : ArenaMap) (old new : Standing) (state : State) (entries : Entries) (start steps : ℕ) (stands : StandsAt old m state entries) where
  -- skipped, in a group that is broken
  pub skipped : old.group ≡ opens.Broken → HasStep rules state entries (statements.Apply line) outcomes.Skipped old m start start
  skipped e = record {
    told = runs.Skipped;
    tells = refl;
    after = state;
    step = IsSkipped line (subst (λ o. HasOpen o state) e stands.group).2;
    bounds = up_to 0;
    behind = entries;
    has = OfSkipped line;
    stands = stands;
    least = omega arith;
    most = omega arith;
  }

  line_here : (outcome : runs.Outcome) (after : Map) → IsLineOutcome rules (as_map m) line outcome after → IsLineOutcome rules state.map line outcome after
  line_here outcome after is = subst (λ map. IsLineOutcome rules map line outcome after) (sym stands.map) is

  module _ (other : old.group ≢ opens.Broken) (budget : (most : ℕ) × IsLineBudget rules (as_map m) line most) where
    budget_here : IsLineBudget rules state.map line budget.0
    budget_here = subst (λ map. IsLineBudget rules map line budget.0) (sym stands.map) budget.1

    pub applies : (outcome : Outcome) → HasLine rules (as_map m) line (as_map n) start steps outcome → Remembers new n (told_behind outcome (as_map m) state.history)
        → MayGoBack new n.schema.dim (entered_by outcome state.history.group budget.0 entries) → new.group ≡ group_behind outcome old.group → HasStep rules state entries (statements.Apply line) outcome new n start steps
    applies _ (WasDone applied is most least) history costs group = record {
      told = runs.Done applied.added applied.removed;
      tells = refl;
      after = behind_done state (as_map n);
      step = IsDoneHere line applied.added applied.removed (as_map n) (whole old.group state other stands.group) (line_here (runs.Done applied.added applied.removed) (as_map n) is);
      bounds = record { least = applied.added + applied.removed; most = budget.0 };
      behind = entered state.history.group budget.0 entries;
      has = OfDone line applied.added applied.removed budget.0 budget_here;
      stands = record {
        map = refl;
        history = subst (λ map. Remembers new n (done_at map state.history)) (sym stands.map) history;
        costs = costs;
        group = subst (λ o. HasOpen o (behind_done state (as_map n))) (sym group) (open_done old.group state (as_map n) stands.group);
      };
      least = least;
      most = most budget.0 budget.1;
    }
    applies _ (WasRefused refusal cause tells is most rises) history costs group = record {
      told = runs.Refused cause;
      tells = ap (option_map runs.Refused) tells;
      after = behind_refused state;
      step = IsRefusedHere line cause (whole old.group state other stands.group) (subst (IsLineOutcome rules state.map line (runs.Refused cause)) same (line_here (runs.Refused cause) (as_map n) is));
      bounds = up_to budget.0;
      behind = entries;
      has = OfRefused line cause budget.0 budget_here;
      stands = record {
        map = sym same;
        history = history;
        costs = costs;
        group = subst (λ o. HasOpen o (behind_refused state)) (sym group) (open_refused old.group state refusal other stands.group);
      };
      least = omega (arith, rises);
      most = most budget.0 budget.1;
    }
      where
        same : as_map n ≡ state.map
        same = is.outcome_is.1 ∙ sym stands.map

    pub unapplied : IsSoundOf m.schema (as_map m) → IsRuleOf m.schema rules line.rule → IsUnapplied rules (as_map m) line (as_map n) start steps → IsStopped rules state (statements.Apply line) (as_map n) start steps
    unapplied sound of stopped = record {
      left = subst (IsLeft rules state (Some (statements.Apply line))) (stands.map ∙ sym stopped.same) BehindAll;
      most = λ first end costs behind outcome bounds alike step has. within first end costs behind outcome bounds alike step has;
    }
      where
        moved : (first : State) (most : ℕ) → AreAlikeStates first state → IsLineBudget rules first.map line most → steps ≤ start + most
        moved first most alike given = stopped.most most (budget_alike m.schema rules first.map (as_map m) line of sound (subst (AreAlike first.map) stands.map alike.map) most given)

        within : (first end : State) (costs behind : Entries) (outcome : runs.Outcome) (bounds : Bounds) → AreAlikeStates first state → IsStatOutcome rules first (statements.Apply line) outcome end → HasStatBounds rules first costs (statements.Apply line) outcome bounds behind → steps ≤ start + bounds.most
        within first end costs behind _ _ alike step (OfDone _ added removed most given) = moved first most alike given
        within first end costs behind _ _ alike step (OfRefused _ cause most given) = moved first most alike given
        within first end costs behind _ _ alike (IsSkipped _ broken) (OfSkipped _) = let same = alike.broken in let here = whole old.group state other stands.group in absurd cc

-- ---- undo and redo

-- one statement fewer is to come
pub one_less : (reach : ℕ) → 0 < reach → reach - 1 + 1 ≡ reach
one_less reach some = omega (arith, some)

module _ (rules : List Rule) (m n : ArenaMap) (old new : Standing) (state : State) (entries : Entries) (start steps : ℕ) (stands : StandsAt old m state entries) (keeps : old.keeps.on ≡ true) (outside : old.group ≡ opens.Nothing) (same_group : new.group ≡ old.group)
    (some : 0 < old.keeps.reach) (fewer : new.keeps.reach + 1 ≡ old.keeps.reach) where
  abbrev pub r : Recalls old.keeps.reach old.history m state.history
  r = stands.history keeps

  abbrev pub may : MayRecall old.keeps.reach old.history m.schema.dim entries
  may = stands.costs keeps

  none_open : HasOpen opens.Nothing state
  none_open = subst (λ o. HasOpen o state) outside stands.group

  open_new : (map : Map) (history : History) → history.group ≡ None → HasOpen new.group (standing_at map history)
  open_new map history none = subst (λ o. HasOpen o (standing_at map history)) (sym (same_group ∙ outside)) (none, refl)

  -- the history behind, all of it
  pub undone : (behind : History) → IsUndone (as_map m) (nearest r.past r.future state.history) (as_map n) behind → StandsFor new.history n behind → start ≤ steps
      → (most : ℕ) × (rest : List ℕ) × (take may.past entries.past ≡ most ∷ rest) × (steps ≤ start + most) × MayTake new.history n.schema.dim (record { past = rest; future = most ∷ take may.future entries.future; group = entries.group })
      → HasStep rules state entries statements.Undo outcomes.Undone new n start steps
  undone behind is history rises (most, rest, costs_are, within, costs) =
      let p : IsFirst r.past state.history.past (as_map n) is.rest = first_of r.past state.history.past (as_map n) is.rest is.past in
      let q : IsFirst may.past entries.past most rest = first_of may.past entries.past most rest costs_are in
      let after : History = record { past = p.behind; future = as_map m ∷ state.history.future; group = None } in
      let far = r.past_far in
      let on_far = r.future_far in
      let cost_far = may.past_far in
      let cost_on_far = may.future_far in
      record {
        told = runs.Undone;
        tells = refl;
        after = standing_at (as_map n) after;
        step = GoesBack (as_map n) after (subst (λ map. IsUndone map state.history (as_map n) after) (sym stands.map) (record { outside = is.outside; rest = p.behind; past = p.all; after = refl }));
        bounds = up_to most;
        behind = record { past = q.behind; future = most ∷ entries.future; group = entries.group };
        has = OfUndone most q.behind q.all;
        stands = record {
          map = refl;
          history = λ _. record {
            past = p.fewer;
            future = suc r.future;
            past_far = omega (arith, far, p.count, fewer);
            future_far = omega (arith, on_far, fewer);
            stands = subst (λ rest. StandsFor new.history n (record { past = rest; future = as_map m ∷ take r.future state.history.future; group = None })) p.rest_is (subst (StandsFor new.history n) is.after history);
          };
          costs = λ _. record {
            past = q.fewer;
            future = suc may.future;
            past_far = omega (arith, cost_far, q.count, fewer);
            future_far = omega (arith, cost_on_far, fewer);
            costs = subst (λ rest. MayTake new.history n.schema.dim (record { past = rest; future = most ∷ take may.future entries.future; group = entries.group })) q.rest_is costs;
          };
          group = open_new (as_map n) after refl;
        };
        least = omega (arith, rises);
        most = within;
      }

  pub redone : (behind : History) → IsRedone (as_map m) (nearest r.past r.future state.history) (as_map n) behind → StandsFor new.history n behind → start ≤ steps
      → (most : ℕ) × (rest : List ℕ) × (take may.future entries.future ≡ most ∷ rest) × (steps ≤ start + most) × MayTake new.history n.schema.dim (record { past = most ∷ take may.past entries.past; future = rest; group = entries.group })
      → HasStep rules state entries statements.Redo outcomes.Redone new n start steps
  redone behind is history rises (most, rest, costs_are, within, costs) =
      let p : IsFirst r.future state.history.future (as_map n) is.rest = first_of r.future state.history.future (as_map n) is.rest is.future in
      let q : IsFirst may.future entries.future most rest = first_of may.future entries.future most rest costs_are in
      let after : History = record { past = as_map m ∷ state.history.past; future = p.behind; group = None } in
      let far = r.future_far in
      let back_far = r.past_far in
      let cost_far = may.future_far in
      let cost_back_far = may.past_far in
      record {
        told = runs.Redone;
        tells = refl;
        after = standing_at (as_map n) after;
        step = GoesForth (as_map n) after (subst (λ map. IsRedone map state.history (as_map n) after) (sym stands.map) (record { outside = is.outside; rest = p.behind; future = p.all; after = refl }));
        bounds = up_to most;
        behind = record { past = most ∷ entries.past; future = q.behind; group = entries.group };
        has = OfRedone most q.behind q.all;
        stands = record {
          map = refl;
          history = λ _. record {
            past = suc r.past;
            future = p.fewer;
            past_far = omega (arith, back_far, fewer);
            future_far = omega (arith, far, p.count, fewer);
            stands = subst (λ rest. StandsFor new.history n (record { past = as_map m ∷ take r.past state.history.past; future = rest; group = None })) p.rest_is (subst (StandsFor new.history n) is.after history);
          };
          costs = λ _. record {
            past = suc may.past;
            future = q.fewer;
            past_far = omega (arith, cost_back_far, fewer);
            future_far = omega (arith, cost_far, q.count, fewer);
            costs = subst (λ rest. MayTake new.history n.schema.dim (record { past = most ∷ take may.past entries.past; future = rest; group = entries.group })) q.rest_is costs;
          };
          group = open_new (as_map n) after refl;
        };
        least = omega (arith, rises);
        most = within;
      }

  -- nothing to go to: all is as it was
  stands_still : new.history ≡ old.history → n ≡ m → StandsAt new n state entries
  stands_still same map =
      let far = r.past_far in
      let on_far = r.future_far in
      let cost_far = may.past_far in
      let cost_on_far = may.future_far in
      record {
        map = stands.map ∙ sym (ap as_map map);
        history = λ _. record {
          past = r.past;
          future = r.future;
          past_far = omega (arith, far, fewer);
          future_far = omega (arith, on_far, fewer);
          stands = subst (λ h. StandsFor h n (nearest r.past r.future state.history)) (sym same) (subst (λ a. StandsFor old.history a (nearest r.past r.future state.history)) (sym map) r.stands);
        };
        costs = λ _. record {
          past = may.past;
          future = may.future;
          past_far = omega (arith, cost_far, fewer);
          future_far = omega (arith, cost_on_far, fewer);
          costs = subst (λ h. MayTake h n.schema.dim (nearest_entries may.past may.future entries)) (sym same) (subst (λ (a : ArenaMap). MayTake old.history a.schema.dim (nearest_entries may.past may.future entries)) (sym map) may.costs);
        };
        group = subst (λ o. HasOpen o state) (sym same_group) stands.group;
      }

  pub no_past : take r.past state.history.past ≡ [] → new.history ≡ old.history → n ≡ m → steps ≡ start → HasStep rules state entries statements.Undo outcomes.NothingToUndo new n start steps
  no_past none same map still = record {
    told = runs.NothingToUndo;
    tells = refl;
    after = state;
    step = HasNoPast none_open.0 (take_none r.past state.history.past (let far = r.past_far in omega (arith, some, far)) none);
    bounds = up_to 0;
    behind = entries;
    has = OfNoPast;
    stands = stands_still same map;
    least = omega (arith, still);
    most = omega (arith, still);
  }

  pub no_future : take r.future state.history.future ≡ [] → new.history ≡ old.history → n ≡ m → steps ≡ start → HasStep rules state entries statements.Redo outcomes.NothingToRedo new n start steps
  no_future none same map still = record {
    told = runs.NothingToRedo;
    tells = refl;
    after = state;
    step = HasNoFuture none_open.0 (take_none r.future state.history.future (let far = r.future_far in omega (arith, some, far)) none);
    bounds = up_to 0;
    behind = entries;
    has = OfNoFuture;
    stands = stands_still same map;
    least = omega (arith, still);
    most = omega (arith, still);
  }

-- ---- groups

module _ (rules : List Rule) (m n : ArenaMap) (old new : Standing) (state : State) (entries : Entries) (start steps : ℕ) (stands : StandsAt old m state entries) (keeps : old.keeps.on ≡ true) (same_reach : new.keeps.reach ≡ old.keeps.reach) where
  abbrev pub r_here : Recalls old.keeps.reach old.history m state.history
  r_here = stands.history keeps

  abbrev pub may_here : MayRecall old.keeps.reach old.history m.schema.dim entries
  may_here = stands.costs keeps

  recalls_here : (a : ArenaMap) (behind : History) → StandsFor new.history a (nearest r_here.past r_here.future behind) → Recalls new.keeps.reach new.history a behind
  recalls_here a behind held =
      let far = r_here.past_far in
      let on_far = r_here.future_far in
      record { past = r_here.past; future = r_here.future; past_far = omega (arith, far, same_reach); future_far = omega (arith, on_far, same_reach); stands = held }

  may_take_here : (dim : ℕ) (behind : Entries) → MayTake new.history dim (nearest_entries may_here.past may_here.future behind) → MayRecall new.keeps.reach new.history dim behind
  may_take_here dim behind costs =
      let far = may_here.past_far in
      let on_far = may_here.future_far in
      record { past = may_here.past; future = may_here.future; past_far = omega (arith, far, same_reach); future_far = omega (arith, on_far, same_reach); costs = costs }

  pub began : old.group ≡ opens.Nothing → new.group ≡ opens.Whole → StandsFor new.history m (begun_at (as_map m) (nearest r_here.past r_here.future state.history)) → MayTake new.history m.schema.dim (record { past = take may_here.past entries.past; future = take may_here.future entries.future; group = 0 })
      → HasStep rules state entries statements.Group outcomes.Begun new m start start
  began outside group history costs = record {
    told = runs.Begun;
    tells = refl;
    after = standing_at state.map (begun_at state.map state.history);
    step = Begins (subst (λ o. HasOpen o state) outside stands.group).0;
    bounds = up_to 0;
    behind = record { past = entries.past; future = entries.future; group = 0 };
    has = OfBegun;
    stands = record {
      map = stands.map;
      history = λ _. recalls_here m (begun_at state.map state.history) (subst (λ map. StandsFor new.history m (begun_at map (nearest r_here.past r_here.future state.history))) (sym stands.map) history);
      costs = λ _. may_take_here m.schema.dim (record { past = entries.past; future = entries.future; group = 0 }) costs;
      group = subst (λ o. HasOpen o (standing_at state.map (begun_at state.map state.history))) (sym group) (record { map = state.map; is_changed = false }, refl, refl);
    };
    least = omega arith;
    most = omega arith;
  }

  module _ (closed : new.group ≡ opens.Nothing) where
    open_none : (map : Map) (history : History) → history.group ≡ None → HasOpen new.group (standing_at map history)
    open_none map history none = subst (λ o. HasOpen o (standing_at map history)) (sym closed) (none, refl)

    pub was_kept : (group : Group) → state.history.group ≡ Some group → state.is_broken ≡ false → StandsFor new.history m (kept group (nearest r_here.past r_here.future state.history)) → MayTake new.history m.schema.dim (group_entered group (nearest_entries may_here.past may_here.future entries))
        → HasStep rules state entries statements.End outcomes.Kept new m start start
    was_kept group is whole history costs = record {
      told = runs.Kept;
      tells = refl;
      after = standing_at state.map (kept group state.history);
      step = Ends group is whole;
      bounds = up_to 0;
      behind = group_entered group entries;
      has = OfKept group is;
      stands = record {
        map = stands.map;
        history = λ _. subst (λ k. Recalls k new.history m (kept group state.history)) (sym same_reach) (recalls_kept old.keeps.reach new.history m r_here.past r_here.future r_here.past_far r_here.future_far group state.history history);
        costs = λ _. subst (λ k. MayRecall k new.history m.schema.dim (group_entered group entries)) (sym same_reach) (recalls_group old.keeps.reach new.history m.schema.dim may_here.past may_here.future may_here.past_far may_here.future_far group entries costs);
        group = open_none state.map (kept group state.history) refl;
      };
      least = omega arith;
      most = omega arith;
    }

    pub was_dropped : (group : Group) → state.history.group ≡ Some group → state.is_broken ≡ true → as_map n ≡ group.map → StandsFor new.history n (dropped (nearest r_here.past r_here.future state.history)) → MayTake new.history n.schema.dim (nearest_entries may_here.past may_here.future entries)
        → start ≤ steps → steps ≤ start + entries.group → HasStep rules state entries statements.End outcomes.Dropped new n start steps
    was_dropped group is broken map history costs rises within = record {
      told = runs.Dropped;
      tells = refl;
      after = standing_at group.map (dropped state.history);
      step = IsTakenBack group is broken;
      bounds = up_to entries.group;
      behind = entries;
      has = OfDropped;
      stands = record {
        map = sym map;
        history = λ _. recalls_here n (dropped state.history) history;
        costs = λ _. may_take_here n.schema.dim entries costs;
        group = open_none group.map (dropped state.history) refl;
      };
      least = omega (arith, rises);
      most = within;
    }
