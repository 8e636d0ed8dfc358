use Rattle.std.proofs.Common.{◌≡◌, ℕ, ◌+◌, ◌-◌, ◌*◌, length}
use Rattle.gm_arena.specs.inner.ArenaMap.{IsLiveName}
use Rattle.gm_undo.specs.inner.Writing.{HasFrame, IsOwnRow, IsWritten}
use Rattle.gm_undo.proofs.writing.link_rows.Given as goal

abbrev pub invariant-loop-index : goal.invariant-loop-index
invariant-loop-index g l = record {
  written : IsWritten IsOwnRow l.rows.rows l.fn.part.start l.index l.fn.arena l.arena;
  frame : HasFrame l.fn.arena l.arena;
  live : (d : ℕ) → IsLiveName l.fn.arena d → IsLiveName l.arena d;
  steps : l.steps ≡ l.fn.steps + (2 * (l.fn.arena.schema.dim + 1) + length l.fn.arena.schema.embeds + 1) * (l.index - l.fn.part.start);
}
