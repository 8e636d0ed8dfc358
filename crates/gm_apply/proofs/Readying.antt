-- What an application that is ready comes to once its edits are written, and what one that is refused took.
use Rattle.std.proofs.Common.{◌≡◌, ℕ, ◌+◌, ◌*◌, ◌≤◌, List, length, sym, ◌∙◌}
use Rattle.gm_model.specs.Applications.{HasPositions, IsBudget, IsDone, IsPreUnits, IsReady}
use Rattle.gm_model.specs.Limits.{most_names}
use Rattle.gm_model.specs.Maps.{IsSchema}
use Rattle.gm_model.specs.Rules.{rule_of}
use Rattle.gm_arena.specs.inner.ArenaAsMap.{as_map}
use Rattle.gm_arena.specs.inner.ArenaMap.{ArenaMap}
use Rattle.gm_commit.specs.inner.EditLists.{EditLists, AreEditsOf, AreEditsHere, HasSameRows, IsReachedSumIn, IsResultOf}
use Rattle.gm_pending.specs.inner.Results.{PendingOf, rule_in}
use Rattle.gm_apply.specs.declared.reading.Reading.{Reading}
use Rattle.gm_apply.specs.declared.refusal.Refusal.{Refusal}
use Rattle.gm_apply.specs.inner.Outcomes.{IsRefusedFor}
use Rattle.gm_apply.specs.inner.ReadOnce.{IsBudgetOnce}
use Rattle.gm_apply.specs.inner.Reads.{app_at, place_at, pending_at, IsReadable, IsEnded, IsReadyAt, IsRefusedAt}
use Rattle.gm_apply.proofs.Applying.{is_done}
use Rattle.gm_apply.proofs.Budgets.{pre_within, pre_within_once, ready_within, ready_within_once}
use Rattle.gm_apply.proofs.Ending.{ended_within, ended_within_once, read_within, read_within_once, edits_here, rows_there, values_right, committed_within, committed_within_once, kept_within}
use Rattle.gm_apply.proofs.Sums.{names_fit, rises_twice}

module _ (reading : Reading) (hooks : List ℕ) (readable : IsReadable reading hooks) where
  -- the match is found within its part of the budget
  abbrev pub IsFindWithin : ℕ → ℕ → Type 0
  IsFindWithin before start = (k : ℕ) → HasPositions (app_at reading hooks) k → start ≤ before + 8 * (reading.arena.now.schema.dim + 1) * (length (rule_of reading.plan.now.table).nodes * k + 1)

  -- the precondition is read within its part
  abbrev pub IsPreWithin : ℕ → ℕ → Type 0
  IsPreWithin start read = (u : ℕ) → IsPreUnits (app_at reading hooks) (place_at reading) u → read ≤ start + 6 * (reading.arena.now.schema.dim + 1) * u

  pub refused_before : (refusal : Refusal) (start steps : ℕ) → IsRefusedFor (app_at reading hooks) refusal → start ≤ steps → IsPreWithin start steps → IsRefusedAt reading hooks refusal start steps
  refused_before refusal start steps refused rises pre = record {
    refused = refused;
    rises = rises;
    within = λ most before budget finding. pre_within reading.arena.now (rule_of reading.plan.now.table) hooks reading.params.now readable.sound readable.accepted reading.found.now readable.answer most before start steps budget finding pre;
    once = λ most before budget finding. pre_within_once reading.arena.now (rule_of reading.plan.now.table) hooks reading.params.now readable.sound readable.accepted reading.found.now readable.answer most before start steps budget finding pre;
  }

  pub refused_behind : (refusal : Refusal) (start read steps : ℕ) → IsSchema reading.arena.now.schema → IsReady (app_at reading hooks) (place_at reading) → start ≤ read → IsPreWithin start read → IsEnded reading hooks refusal read steps
      → IsRefusedAt reading hooks refusal start steps
  refused_behind refusal start read steps of_schema ready rises pre ended = record {
    refused = ended.refused ready;
    rises = rises_twice start read steps rises ended.rises;
    within = λ most before budget finding. ready_within reading.arena.now (rule_of reading.plan.now.table) hooks reading.params.now readable.sound readable.accepted reading.found.now readable.answer of_schema ready most before start read steps budget finding pre
        (ended_within reading hooks refusal read steps ended);
    once = λ most before budget finding. ready_within_once reading.arena.now (rule_of reading.plan.now.table) hooks reading.params.now readable.sound readable.accepted reading.found.now readable.answer of_schema ready most before start read steps budget finding pre
        (ended_within_once reading hooks refusal read steps ended);
  }

  module _ (added removed : ℕ) (edits : EditLists) (start steps : ℕ) (ready : IsReadyAt reading hooks added removed edits start steps) where
    pub names_there : (next : ℕ) → next ≡ reading.arena.now.next → next + added ≤ most_names
    names_there next same = names_fit reading.arena.now.next next added _ ready.room.ready.names_fit ready.room.added_is same

    pub are_here : AreEditsOf (pending_at reading ready.edited.pending) edits
    are_here = edits_here reading hooks edits ready.read steps ready.edited

    pub edits_there : (m : ArenaMap) → HasSameRows reading.arena.now m → AreEditsHere m edits
    edits_there m same = (ready.edited.pending, rows_there reading hooks edits ready.read steps ready.edited m same, ready.edited.edits_of)

    pub new_is : edits.added ≡ added
    new_is = are_here.added_is ∙ sym ready.room.added_is

    pub old_is : length edits.removed ≡ removed
    old_is = are_here.removed_is ∙ sym ready.room.removed_is

    pub done : (m result : ArenaMap) → HasSameRows reading.arena.now m → ((app : PendingOf) → HasSameRows app.map m → AreEditsOf app edits → IsResultOf app result) → IsDone (app_at reading hooks) (as_map result) added removed
    done m result same unfolded =
        is_done reading.arena.now result reading.plan.now.table hooks reading.params.now reading.found.now added removed ready.edited.pending ready.edited.is (values_right reading hooks edits ready.read steps ready.edited) ready.room
        (unfolded ready.edited.pending (rows_there reading hooks edits ready.read steps ready.edited m same) ready.edited.edits_of)

    module _ (of_schema : IsSchema reading.arena.now.schema) (most before : ℕ) (budget : IsBudget (app_at reading hooks) most) (finding : IsFindWithin before start) where
      pub within_ready : steps ≤ before + most
      within_ready = ready_within reading.arena.now (rule_of reading.plan.now.table) hooks reading.params.now readable.sound readable.accepted reading.found.now readable.answer of_schema ready.room.ready most before start ready.read steps budget finding ready.pre
          (read_within reading hooks edits ready.read steps ready.edited)

      pub within_kept : (later : ℕ) → ((reached : ℕ) → IsReachedSumIn (pending_at reading ready.edited.pending) reached → later ≤ steps + (8 * (reading.arena.now.schema.dim + 1) * (length (rule_of reading.plan.now.table).nodes * reading.found.now.positions + reached + 1) + 2 * (reading.arena.now.schema.dim + 1) * (length (rule_of reading.plan.now.table).nodes * reading.found.now.positions))) → later ≤ before + most
      within_kept later cost = ready_within reading.arena.now (rule_of reading.plan.now.table) hooks reading.params.now readable.sound readable.accepted reading.found.now readable.answer of_schema ready.room.ready most before start ready.read later budget finding ready.pre
          (kept_within reading hooks edits ready.read steps ready.edited later cost)

      pub within_done : (later : ℕ) → ((app : PendingOf) (reached : ℕ) → AreEditsOf app edits → IsReachedSumIn app reached → later ≤ steps + 4 * (app.map.schema.dim + 1) * (length (rule_in app).nodes * app.placed.positions + reached + 1)) → later ≤ before + most
      within_done later cost = ready_within reading.arena.now (rule_of reading.plan.now.table) hooks reading.params.now readable.sound readable.accepted reading.found.now readable.answer of_schema ready.room.ready most before start ready.read later budget finding ready.pre
          (committed_within reading hooks edits ready.read steps ready.edited later cost)

    -- where what is shared is read once
    pub within_ready_once : IsSchema reading.arena.now.schema → (most before : ℕ) → IsBudgetOnce (app_at reading hooks) most → IsFindWithin before start → steps ≤ before + most
    within_ready_once of_schema most before budget finding =
        ready_within_once reading.arena.now (rule_of reading.plan.now.table) hooks reading.params.now readable.sound readable.accepted reading.found.now readable.answer of_schema ready.room.ready most before start ready.read steps budget finding ready.pre
        (read_within_once reading hooks edits ready.read steps ready.edited)

    pub within_done_once : IsSchema reading.arena.now.schema → (most before : ℕ) → IsBudgetOnce (app_at reading hooks) most → IsFindWithin before start → (later : ℕ)
        → ((app : PendingOf) (reached : ℕ) → AreEditsOf app edits → IsReachedSumIn app reached → later ≤ steps + 4 * (app.map.schema.dim + 1) * (length (rule_in app).nodes * app.placed.positions + reached + 1)) → later ≤ before + most
    within_done_once of_schema most before budget finding later cost =
        ready_within_once reading.arena.now (rule_of reading.plan.now.table) hooks reading.params.now readable.sound readable.accepted reading.found.now readable.answer of_schema ready.room.ready most before start ready.read later budget finding ready.pre
        (committed_within_once reading hooks edits ready.read steps ready.edited later cost)
