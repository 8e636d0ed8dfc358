use Rattle.gm_pending.specs.inner.ReachedDarts.{AreMarkedTo, AreResultDarts}
use Rattle.gm_pending.proofs.pending.Pending.mark_instances.Given as goal

abbrev pub invariant-loop-position : goal.invariant-loop-position
invariant-loop-position l = record {
  darts : AreResultDarts l.self l.marks;
  marked : AreMarkedTo l.self l.fn.marks l.marks l.node l.index l.position;
}
