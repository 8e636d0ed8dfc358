use Rattle.std.proofs.Common.{◌≤◌, ◌+◌, ◌*◌, ◌-◌}
use Rattle.gm_undo.proofs.Keep.{AreBehindTo}
use Rattle.gm_undo.proofs.keeping.keep_staying.Given as goal

abbrev pub invariant-loop-index : goal.invariant-loop-index
invariant-loop-index g l = record {
  kept : AreBehindTo l.arena l.first l.end l.fn.rows l.index l.rows;
  most : l.steps ≤ l.fn.steps + (l.arena.schema.dim + 3) * (l.index - l.first);
  rises : l.fn.steps ≤ l.steps;
}
