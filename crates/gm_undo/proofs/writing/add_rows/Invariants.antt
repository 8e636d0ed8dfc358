use Rattle.std.proofs.Common.{◌+◌, ◌-◌, ◌≤◌}
use Rattle.gm_undo.specs.inner.Writing.{HasRoomOf, IsAddedRow, IsWritten}
use Rattle.gm_undo.proofs.writing.add_rows.Given as goal

abbrev pub invariant-loop-index : goal.invariant-loop-index
invariant-loop-index g l = record {
  written : IsWritten (IsAddedRow l.fn.arena) l.rows.rows l.fn.part.start l.index l.fn.arena l.arena;
  room : HasRoomOf l.fn.arena l.arena;
  most : l.steps ≤ l.fn.steps + (l.index - l.fn.part.start);
  rises : l.fn.steps ≤ l.steps;
}
