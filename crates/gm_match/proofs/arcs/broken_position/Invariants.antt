use Rattle.std.proofs.Common.{◌+◌, ◌*◌, ◌≤◌}
use Rattle.gm_model.specs.Rules.{rule_of}
use Rattle.gm_match.proofs.FirstBroken.{IsBrokenSoFar}
use Rattle.gm_match.proofs.arcs.broken_position.Given as goal

abbrev pub invariant-loop-label : goal.invariant-loop-label
invariant-loop-label g l = record {
  so_far : IsBrokenSoFar l.arena (rule_of l.plan.table) l.found l.node l.label l.end l.first;
  cost : l.steps ≤ l.fn.steps + l.label * l.found.positions;
  least : l.fn.steps ≤ l.steps;
}
