use Rattle.std.proofs.Common.{◌+◌, ◌*◌, ◌≤◌}
use Rattle.gm_model.specs.Rules.{rule_of}
use Rattle.gm_model.specs.Structure.{AreGood}
use Rattle.gm_match.specs.inner.Firsts.{AreMetBy}
use Rattle.gm_match.proofs.arcs.meet_in_order.Given as goal

abbrev pub invariant-loop-node : goal.invariant-loop-node
invariant-loop-node g l = record { met : AreGood (AreMetBy l.arena (rule_of l.plan.table) l.found) l.node; cost : l.steps ≤ l.fn.steps + (l.arena.schema.dim + 1) * (l.node * l.found.positions); least : l.fn.steps ≤ l.steps }
