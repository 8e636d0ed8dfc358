use Rattle.std.proofs.Common.{◌≡◌, ◌+◌, ◌*◌}
use Rattle.gm_arena.specs.inner.ArenaMap.{name_at}
use Rattle.gm_undo.proofs.OneDart.{IsLinkedTo}
use Rattle.gm_undo.proofs.writing.link.Given as goal

abbrev pub invariant-loop-label : goal.invariant-loop-label
invariant-loop-label g l = record { linked : IsLinkedTo (name_at l.fn.arena l.slot.at) l.fn.arena l.neighbours l.arena l.label; steps : l.steps ≡ l.fn.steps + 2 * l.label }
