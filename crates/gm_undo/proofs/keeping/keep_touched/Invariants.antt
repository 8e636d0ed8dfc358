use Rattle.std.proofs.Common.{◌≡◌, ◌+◌, ◌*◌, take}
use Rattle.gm_undo.specs.inner.Keeping.{AreTouchedKept}
use Rattle.gm_undo.proofs.keeping.keep_touched.Given as goal

abbrev pub invariant-loop-slot : goal.invariant-loop-slot
invariant-loop-slot g l = record {
  kept : AreTouchedKept l.arena (take l.slot-index l.slots) l.fn.rows l.rows;
  steps : l.steps ≡ l.fn.steps + (l.arena.schema.dim + 2) * l.slot-index;
}
