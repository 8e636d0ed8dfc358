use Rattle.std.proofs.Common.{◌≡◌, length}
use Rattle.gm_walk.specs.inner.Marks.{numbers}
use Rattle.gm_walk.proofs.MarkLemmas.{IsClearedTo}
use Rattle.gm_walk.proofs.scratch.unmark.Given as goal

abbrev pub invariant-loop-slot : goal.invariant-loop-slot
invariant-loop-slot l = record {
  cleared : IsClearedTo l.slot-index (numbers l.slots) l.marks;
  long : length l.marks ≡ length l.fn.marks;
}
