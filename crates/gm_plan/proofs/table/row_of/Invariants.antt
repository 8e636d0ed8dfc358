use Rattle.std.proofs.Common.{◌≡◌, ◌<◌, ℕ, Some, length}
use Rattle.std.specs.List.{slice_get}
use Rattle.gm_plan.proofs.table.row_of.Given as goal

abbrev pub invariant-loop-label : goal.invariant-loop-label
invariant-loop-label g l = record {
  long : length l.row ≡ 8;
  here : (i : ℕ) → i < l.label → slice_get l.row i ≡ Some (g.S.StepAt.step l.steps l.node i);
}
