use Rattle.std.proofs.Common.{◌≡◌, ◌+◌}
use Rattle.gm_undo.proofs.OneDart.{IsFreedTo}
use Rattle.gm_undo.proofs.writing.free_row.Given as goal

abbrev pub invariant-loop-label : goal.invariant-loop-label
invariant-loop-label g l = record { freed : IsFreedTo l.name l.fn.arena l.arena l.label; steps : l.steps ≡ l.fn.steps + 1 + l.label }
