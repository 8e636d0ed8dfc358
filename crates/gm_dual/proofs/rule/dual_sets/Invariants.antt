use Rattle.std.proofs.Common.{◌≡◌, map, take}
use Rattle.gm_model.specs.Rules.{assignment_of}
use Rattle.gm_dual.specs.Duals as duals
use Rattle.gm_dual.proofs.rule.dual_sets.Given as goal

abbrev pub invariant-loop-set : goal.invariant-loop-set
invariant-loop-set l = map assignment_of l.made.items ≡ map (duals.dual_assignment l.top) (map assignment_of (take l.set-index l.sets))
