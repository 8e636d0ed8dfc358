use Rattle.std.proofs.Common.{◌≡◌, List, [], take}
use Rattle.gm_arena.specs.declared.slot.Slot.{Slot}
use Rattle.gm_commit.specs.inner.TouchedSlots.{AreTaken}
use Rattle.gm_commit.proofs.edits.take_values.Given as goal

abbrev pub invariant-loop-entry : goal.invariant-loop-entry
invariant-loop-entry l = record { taken : (slots : List Slot) → AreTaken slots [] l.fn.scratch.walked → AreTaken slots (take l.entry-index l.values) l.scratch.walked; bound : l.scratch.bound ≡ l.fn.scratch.bound }
