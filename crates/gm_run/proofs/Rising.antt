-- The next name falls in a run by an undo or a dropped group alone, since the maps that are remembered lie in order.
use Rattle.std.proofs.Common.{◌≡◌, ◌≢◌, ℕ, zero, suc, ◌≤◌, Bool, true, false, List, [], ◌∷◌, Option, Some, None, refl, sym, ap, subst, arith, if◌then◌else◌}
use Rattle.std.specs.List.{count_by}
use Rattle.gm_model.specs.declared.value.Value.{Value}
use Rattle.gm_model.specs.Statements.{Line, Stat}
use Rattle.gm_model.specs.Histories.{Group, History}
use Rattle.gm_model.specs.Maps.{Map}
use Rattle.gm_model.specs.Rules.{Rule}
use Rattle.gm_model.specs.Runs.{Outcome, Done, Refused, Skipped, Undone, Redone, NothingToUndo, NothingToRedo, Begun, Kept, Dropped, Each, Turn, Taken, Passed, State, AreTurns, IsLineOutcome, IsStatOutcome, IsDoneHere, IsRefusedHere, IsSkipped, GoesBack, HasNoPast, GoesForth, HasNoFuture, Begins, Ends, IsTakenBack, GoesOver, IsRun, behind_done, behind_each, is_done_turn, start_of}

-- ---- applications

line_rises : (rules : List Rule) (before after : Map) (line : Line) (outcome : Outcome) → IsLineOutcome rules before line outcome after → before.next ≤ after.next
line_rises rules before after line (Done added removed) h = let on = h.outcome_is.result_is.unfolded.next_is in omega (arith, on)
line_rises rules before after line (Refused cause) h = let same : after.next ≡ before.next = ap (λ (m : Map). m.next) h.outcome_is.1 in omega (arith, same)
line_rises rules before after line Skipped h = absurd h.outcome_is
line_rises rules before after line Undone h = absurd h.outcome_is
line_rises rules before after line Redone h = absurd h.outcome_is
line_rises rules before after line NothingToUndo h = absurd h.outcome_is
line_rises rules before after line NothingToRedo h = absurd h.outcome_is
line_rises rules before after line Begun h = absurd h.outcome_is
line_rises rules before after line Kept h = absurd h.outcome_is
line_rises rules before after line Dropped h = absurd h.outcome_is
line_rises rules before after line (Each done refused passed) h = absurd h.outcome_is

turns_rise : (rules : List Rule) (rule : ℕ) (params : List Value) (before : Map) (leads : List ℕ) (turns : List Turn) (after : Map) → AreTurns rules rule params before leads turns after → before.next ≤ after.next
turns_rise rules rule params before [] [] after same = let e : after.next ≡ before.next = ap (λ (m : Map). m.next) same in omega (arith, e)
turns_rise rules rule params before [] (turn ∷ turns) after none = absurd none
turns_rise rules rule params before (d ∷ ds) [] after none = absurd none
turns_rise rules rule params before (d ∷ ds) (Taken map line outcome ∷ turns) after (live, same, asks, between, is, rest) =
    let first = line_rises rules before between (record { rule = rule; hooks = d ∷ []; params = params }) outcome is in
    let others = turns_rise rules rule params between ds turns after rest in
    omega (arith, first, others)
turns_rise rules rule params before (d ∷ ds) (Passed ∷ turns) after (dead, rest) = turns_rise rules rule params before ds turns after rest

-- ---- what is remembered

-- no map has a next name above that of the one before it, nor the first above this one
abbrev AreFalling : ℕ → List Map → Type 0
AreFalling next [] = Unit {0}
AreFalling next (map ∷ maps) = (map.next ≤ next) × AreFalling map.next maps

-- none has one below that of the one before it, nor the first below this one
abbrev AreRising : ℕ → List Map → Type 0
AreRising next [] = Unit {0}
AreRising next (map ∷ maps) = (next ≤ map.next) × AreRising map.next maps

-- the next name where an open group began, or else at the map
abbrev begun_next : ℕ → Option Group → ℕ
begun_next next None = next
begun_next next (Some group) = group.map.next

-- the past, where the open group began, the map and the future follow one another
pub record IsInOrder (state : State) : Type 0 where
  pub begun : begun_next state.map.next state.history.group ≤ state.map.next
  pub past : AreFalling (begun_next state.map.next state.history.group) state.history.past
  pub future : AreRising state.map.next state.history.future

falling_below : (low high : ℕ) (maps : List Map) → low ≤ high → AreFalling low maps → AreFalling high maps
falling_below low high [] less h = tt
falling_below low high (map ∷ maps) less h = let first = h.0 in (omega (arith, first, less), h.1)

rising_above : (low high : ℕ) (maps : List Map) → low ≤ high → AreRising high maps → AreRising low maps
rising_above low high [] less h = tt
rising_above low high (map ∷ maps) less h = let first = h.0 in (omega (arith, first, less), h.1)

-- behind applications of which one was done
done_in_order : (map after : Map) (history : History) (broken : Bool) → map.next ≤ after.next → IsInOrder (record { map = map; history = history; is_broken = broken })
    → IsInOrder (behind_done (record { map = map; history = history; is_broken = broken }) after)
done_in_order map after history broken less order = by history.group refl
  where
    by : (group : Option Group) → history.group ≡ group → IsInOrder (behind_done (record { map = map; history = history; is_broken = broken }) after)
    by None e =
        let past = subst (λ g. AreFalling (begun_next map.next g) history.past) e order.past in
        record {
          begun = rw e (omega arith);
          past = rw e (less, past);
          future = tt;
        }
    by (Some group) e =
        let past = subst (λ g. AreFalling (begun_next map.next g) history.past) e order.past in
        let begun = subst (λ g. begun_next map.next g ≤ map.next) e order.begun in
        record {
          begun = rw e (omega (arith, begun, less));
          past = rw e past;
          future = tt;
        }

each_in_order : (state : State) (after : Map) → state.map.next ≤ after.next → IsInOrder state → (done : ℕ) → IsInOrder (behind_each state done after)
each_in_order state after less order zero = order
each_in_order state after less order (suc done) = done_in_order state.map after state.history state.is_broken less order

-- ---- one statement

module _ (rules : List Rule) where
  -- what is remembered stays in order
  step_in_order : (state : State) (stat : Stat) (outcome : Outcome) (after : State) → IsInOrder state → IsStatOutcome rules state stat outcome after → IsInOrder after
  step_in_order state _ _ _ order (IsDoneHere line added removed after whole is) = done_in_order state.map after state.history state.is_broken (line_rises rules state.map after line (Done added removed) is) order
  step_in_order state _ _ _ order (IsRefusedHere line cause whole is) = record { begun = order.begun; past = order.past; future = order.future }
  step_in_order state _ _ _ order (IsSkipped line broken) = order
  step_in_order state _ _ _ order (GoesBack before history is) =
      let past = subst (AreFalling (begun_next state.map.next state.history.group)) is.past order.past in
      let here = subst (λ g. AreFalling (begun_next state.map.next g) (before ∷ is.rest)) is.outside past in
      rw is.after (record { begun = omega arith; past = here.1; future = (here.0, order.future) })
  step_in_order state _ _ _ order (HasNoPast outside none) = order
  step_in_order state _ _ _ order (GoesForth after history is) =
      let future = subst (AreRising state.map.next) is.future order.future in
      let past = subst (λ g. AreFalling (begun_next state.map.next g) state.history.past) is.outside order.past in
      rw is.after (record { begun = omega arith; past = (future.0, past); future = future.1 })
  step_in_order state _ _ _ order (HasNoFuture outside none) = order
  step_in_order state _ _ _ order (Begins outside) = record { begun = omega arith; past = subst (λ g. AreFalling (begun_next state.map.next g) state.history.past) outside order.past; future = order.future }
  step_in_order state _ _ _ order (Ends group is whole) =
      let past = subst (λ g. AreFalling (begun_next state.map.next g) state.history.past) is order.past in
      let begun = subst (λ g. begun_next state.map.next g ≤ state.map.next) is order.begun in
      record { begun = omega arith; past = by past begun group.is_changed; future = order.future }
    where
      by : AreFalling group.map.next state.history.past → group.map.next ≤ state.map.next → (c : Bool) → AreFalling state.map.next (if c then group.map ∷ state.history.past else state.history.past)
      by past begun true = (begun, past)
      by past begun false = falling_below group.map.next state.map.next state.history.past begun past
  step_in_order state _ _ _ order (IsTakenBack group is broken) =
      let past = subst (λ g. AreFalling (begun_next state.map.next g) state.history.past) is order.past in
      let begun = subst (λ g. begun_next state.map.next g ≤ state.map.next) is order.begun in
      record { begun = omega arith; past = past; future = rising_above group.map.next state.map.next state.history.future begun order.future }
  step_in_order state _ _ _ order (GoesOver mask rule params leads turns after outside are taken) = each_in_order state after (turns_rise rules rule params state.map leads turns after taken) order (count_by is_done_turn turns)

  each_rises : (state : State) (after : Map) → state.map.next ≤ after.next → (done : ℕ) → state.map.next ≤ (behind_each state done after).map.next
  each_rises state after less zero = omega arith
  each_rises state after less (suc done) = less

  -- the next name falls by an undo and a dropped group alone
  pub step_rises : (state : State) (stat : Stat) (outcome : Outcome) (after : State) → IsInOrder state → IsStatOutcome rules state stat outcome after → outcome ≢ Undone → outcome ≢ Dropped → state.map.next ≤ after.map.next
  step_rises state _ _ _ order (IsDoneHere line added removed after whole is) other no_drop = line_rises rules state.map after line (Done added removed) is
  step_rises state _ _ _ order (IsRefusedHere line cause whole is) other no_drop = omega arith
  step_rises state _ _ _ order (IsSkipped line broken) other no_drop = omega arith
  step_rises state _ _ _ order (GoesBack before history is) other no_drop = absurd (other refl)
  step_rises state _ _ _ order (HasNoPast outside none) other no_drop = omega arith
  step_rises state _ _ _ order (GoesForth after history is) other no_drop = (subst (AreRising state.map.next) is.future order.future).0
  step_rises state _ _ _ order (HasNoFuture outside none) other no_drop = omega arith
  step_rises state _ _ _ order (Begins outside) other no_drop = omega arith
  step_rises state _ _ _ order (Ends group is whole) other no_drop = omega arith
  step_rises state _ _ _ order (IsTakenBack group is broken) other no_drop = absurd (no_drop refl)
  step_rises state _ _ _ order (GoesOver mask rule params leads turns after outside are taken) other no_drop = each_rises state after (turns_rise rules rule params state.map leads turns after taken) (count_by is_done_turn turns)

  -- ---- a run

  run_in_order : (before : State) (stats : List Stat) (outcomes : List Outcome) (after : State) → IsInOrder before → IsRun rules before stats outcomes after → IsInOrder after
  run_in_order before [] [] after order same = subst IsInOrder (sym same) order
  run_in_order before [] (outcome ∷ outcomes) after order none = absurd none
  run_in_order before (stat ∷ stats) [] after order none = absurd none
  run_in_order before (stat ∷ stats) (outcome ∷ outcomes) after order (between, is, rest) = run_in_order between stats outcomes after (step_in_order before stat outcome between order is) rest

  pub begun_in_order : (map : Map) (stats : List Stat) (outcomes : List Outcome) (after : State) → IsRun rules (start_of map) stats outcomes after → IsInOrder after
  begun_in_order map stats outcomes after run = run_in_order (start_of map) stats outcomes after (record { begun = omega arith; past = tt; future = tt }) run
