use Rattle.std.proofs.Common.{◌≡◌, ◌+◌, ◌*◌}
use Rattle.gm_undo.specs.inner.Keeping.{AreAddedKept}
use Rattle.gm_undo.proofs.keeping.keep_added.Given as goal

abbrev pub invariant-loop-number : goal.invariant-loop-number
invariant-loop-number g l = record {
  kept : AreAddedKept l.arena l.first l.number l.fn.rows l.rows;
  steps : l.steps ≡ l.fn.steps + (l.arena.schema.dim + 3) * l.number;
}
