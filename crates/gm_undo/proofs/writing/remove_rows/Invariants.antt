use Rattle.std.proofs.Common.{◌+◌, ◌-◌, ◌*◌, ◌≤◌}
use Rattle.gm_undo.specs.inner.Writing.{HasRoomOf, IsClearedRow, IsWritten}
use Rattle.gm_undo.proofs.writing.remove_rows.Given as goal

abbrev pub invariant-loop-index : goal.invariant-loop-index
invariant-loop-index g l = record {
  written : IsWritten (IsClearedRow l.fn.arena) l.rows.rows l.fn.part.start l.index l.fn.arena l.arena;
  room : HasRoomOf l.fn.arena l.arena;
  most : l.steps ≤ l.fn.steps + 2 * (l.index - l.fn.part.start);
  rises : l.fn.steps ≤ l.steps;
}
