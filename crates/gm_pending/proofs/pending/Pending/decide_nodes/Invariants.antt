use Rattle.std.proofs.Common.{◌+◌, ◌*◌, ◌≤◌, length}
use Rattle.gm_pending.specs.inner.ReachedDarts.{IsDecidedUpTo}
use Rattle.gm_pending.proofs.pending.Pending.decide_nodes.Given as goal

abbrev pub invariant-loop-node : goal.invariant-loop-node
invariant-loop-node g l = record {
  decided : IsDecidedUpTo l.self l.embed l.declared l.orbits.instances.items l.orbits.marks l.node 0;
  cost : l.steps + (l.self.map.schema.dim + 1) * length l.fn.orbits.marks ≤ l.fn.steps + (l.self.map.schema.dim + 1) * length l.orbits.marks;
  least : l.fn.steps ≤ l.steps;
}
