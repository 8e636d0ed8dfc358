use Rattle.std.proofs.Common.{◌≡◌, ◌≢◌, ℕ, ◌≤◌, Some, length, slice_get}
use Rattle.gm_walk.specs.declared.mark.Mark.{Mark}
use Rattle.gm_walk.specs.inner.Keys.{key_of}
use Rattle.gm_pending.proofs.marks.instance_among.Given as goal

abbrev pub invariant-loop-place : goal.invariant-loop-place
invariant-loop-place l = record {
  within : l.place ≤ length l.reached;
  behind : (k : ℕ) (entry : Mark) → l.place ≤ k → slice_get l.reached k ≡ Some entry → key_of entry.at ≢ l.wanted;
}

abbrev pub decreases-loop-place : goal.decreases-loop-place
decreases-loop-place l = l.place
