use Rattle.std.proofs.Common.{◌≡◌, ◌-◌}
use Rattle.gm_model.specs.Labels.{has}
use Rattle.gm_dual.specs.Duals as duals
use Rattle.gm_dual.proofs.labels.dual_mask.Given as goal

abbrev pub invariant-loop-step : goal.invariant-loop-step
invariant-loop-step l = l.bits ≡ duals.bits_from (λ i. has l.mask (duals.dual_label l.top i)) l.step (8 - l.step)
