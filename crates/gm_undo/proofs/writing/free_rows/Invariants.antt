use Rattle.std.proofs.Common.{◌≡◌, ℕ, ◌+◌, ◌-◌, ◌*◌}
use Rattle.gm_arena.specs.inner.ArenaMap.{IsLiveName}
use Rattle.gm_undo.specs.inner.Writing.{HasFrame, IsFreeRow, IsWritten}
use Rattle.gm_undo.proofs.writing.free_rows.Given as goal

abbrev pub invariant-loop-index : goal.invariant-loop-index
invariant-loop-index g l = record {
  written : IsWritten (IsFreeRow l.fn.arena.schema.dim) l.rows.rows l.fn.part.start l.index l.fn.arena l.arena;
  live : (d : ℕ) → IsLiveName l.arena d → IsLiveName l.fn.arena d;
  frame : HasFrame l.fn.arena l.arena;
  steps : l.steps ≡ l.fn.steps + (l.fn.arena.schema.dim + 2) * (l.index - l.fn.part.start);
}
