-- What the outcomes of a report tell.
use Rattle.std.specs.Prelude.{◌≡◌, List, Option, Some, None, map}
use Rattle.std.specs.Option.{option_map}
use Rattle.gm_model.specs.Applications.{Cause}
use Rattle.gm_model.specs.Applications as causes
use Rattle.gm_model.specs.Runs as runs
use Rattle.gm_apply.specs.declared.refusal.Refusal.{Refusal}
use Rattle.gm_apply.specs.declared.refusal.Refusal.TheVariants as refusals
use Rattle.gm_run.specs.declared.outcome.Outcome.{Outcome}
use Rattle.gm_run.specs.declared.outcome.Outcome.TheVariants as outcomes

-- why the application is refused; that memory ran out is no cause
abbrev pub cause_of : Refusal → Option Cause
cause_of (refusals.NoDart index) = Some (causes.NoDart index)
cause_of (refusals.Arc x p i) = Some (causes.Arc x p i)
cause_of (refusals.Same x p y q) = Some (causes.Same x p y q)
cause_of refusals.PreNoValue = Some causes.PreNoValue
cause_of refusals.PreFalse = Some causes.PreFalse
cause_of (refusals.FullDarts live more) = Some (causes.FullDarts live more)
cause_of (refusals.FullNames next more) = Some (causes.FullNames next more)
cause_of (refusals.NoValue e x) = Some (causes.NoValue e x)
cause_of refusals.OutOfMemory = None

-- what became of the statement; without a cause, a refusal tells nothing
abbrev pub outcome_of : Outcome → Option runs.Outcome
outcome_of (outcomes.Done applied) = Some (runs.Done applied.added applied.removed)
outcome_of (outcomes.Refused refusal) = option_map runs.Refused (cause_of refusal)
outcome_of outcomes.Skipped = Some runs.Skipped
outcome_of outcomes.Undone = Some runs.Undone
outcome_of outcomes.Redone = Some runs.Redone
outcome_of outcomes.NothingToUndo = Some runs.NothingToUndo
outcome_of outcomes.NothingToRedo = Some runs.NothingToRedo
outcome_of outcomes.Begun = Some runs.Begun
outcome_of outcomes.Kept = Some runs.Kept
outcome_of outcomes.Dropped = Some runs.Dropped
outcome_of (outcomes.Each done refused passed) = Some (runs.Each done refused passed)

-- the lines of a report tell these outcomes, each line its own
abbrev pub Tells : List Outcome → List runs.Outcome → Type 0
Tells lines outcomes = map outcome_of lines ≡ map Some outcomes
