use Rattle.std.proofs.Common.{◌+◌, ◌-◌, ◌*◌, ◌≤◌, length}
use Rattle.gm_theory.specs.inner.Theorem.{Unfolded}
use Rattle.gm_pending.specs.inner.ReachedDarts.{AreResultDarts, IsClosed, IsSpreadTo}
use Rattle.gm_pending.specs.inner.Results.{IsUnfoldedIn, name_of}
use Rattle.gm_pending.proofs.pending.Pending.reach.Given as goal

abbrev pub invariant-loop-next : goal.invariant-loop-next
invariant-loop-next g l = record {
  darts : AreResultDarts l.self l.marks;
  late : length l.fn.marks ≤ l.next;
  within : l.next ≤ length l.marks;
  spread : (result : Unfolded) → IsUnfoldedIn l.self result → IsClosed l.self l.declared result l.fn.marks → IsSpreadTo l.self l.declared result l.fn.marks l.marks l.index (name_of l.self l.fn.at) l.next 0;
  cost : l.steps + (l.self.map.schema.dim + 1) * length l.fn.marks ≤ l.fn.steps + (l.self.map.schema.dim + 1) * l.next;
  least : l.fn.steps ≤ l.steps;
}

abbrev pub decreases-loop-next : goal.decreases-loop-next
decreases-loop-next g l = 18446744073709551616 - l.next
