use Rattle.std.proofs.Common.{◌+◌, ◌*◌, ◌≤◌, length}
use Rattle.gm_pending.specs.inner.ReachedDarts.{IsDecidedUpTo}
use Rattle.gm_pending.proofs.pending.Pending.decide_node.Given as goal

abbrev pub invariant-loop-position : goal.invariant-loop-position
invariant-loop-position g l = record {
  decided : IsDecidedUpTo l.self l.embed l.declared l.orbits.instances.items l.orbits.marks l.node l.position;
  cost : l.steps + (l.self.map.schema.dim + 1) * length l.fn.orbits.marks ≤ l.fn.steps + (l.self.map.schema.dim + 1) * length l.orbits.marks;
  least : l.fn.steps ≤ l.steps;
}
