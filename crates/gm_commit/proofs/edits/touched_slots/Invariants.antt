use Rattle.std.proofs.Common.{◌≤◌, [], take}
use Rattle.gm_commit.specs.inner.TouchedSlots.{AreTaken}
use Rattle.gm_commit.proofs.edits.touched_slots.Given as goal

abbrev pub invariant-loop-slot : goal.invariant-loop-slot
invariant-loop-slot l = record { taken : AreTaken (take l.slot-index l.slots) [] l.scratch.walked; fits : l.arena.bound ≤ l.scratch.bound; room : l.fn.scratch.bound ≤ l.scratch.bound }
