use Rattle.std.proofs.Common.{◌≡◌, map, take}
use Rattle.gm_dual.specs.Duals as duals
use Rattle.gm_dual.proofs.labels.dual_path.Given as goal

abbrev pub invariant-loop-label : goal.invariant-loop-label
invariant-loop-label l = l.path.items ≡ map (duals.dual_label l.top) (take l.label-index l.labels)
