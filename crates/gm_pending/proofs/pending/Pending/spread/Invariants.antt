use Rattle.std.proofs.Common.{◌≡◌, ℕ, ◌+◌, ◌≤◌, Some, slice_get}
use Rattle.gm_walk.specs.declared.mark.Mark.{Mark}
use Rattle.gm_pending.specs.inner.ReachedDarts.{AreResultDarts, IsFollowedTo}
use Rattle.gm_pending.proofs.on_deciding.ArcsFollowed.{IsAskedFrom}
use Rattle.gm_pending.proofs.pending.Pending.spread.Given as goal

abbrev pub invariant-loop-label : goal.invariant-loop-label
invariant-loop-label g l = record {
  darts : AreResultDarts l.self l.marks;
  kept : (j : ℕ) (entry : Mark) → slice_get l.fn.marks j ≡ Some entry → slice_get l.marks j ≡ Some entry;
  followed : (i : ℕ) × (i ≤ l.self.map.schema.dim + 1) × IsFollowedTo l.self l.declared l.from l.fn.marks l.marks i × IsAskedFrom l.declared.mask l.from.over l.asked i × (l.steps ≤ l.fn.steps + i);
  least : l.fn.steps ≤ l.steps;
}

abbrev pub decreases-loop-label : goal.decreases-loop-label
decreases-loop-label g l = l.asked.bits
