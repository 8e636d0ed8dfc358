use Rattle.std.proofs.Common.{◌≡◌, ◌+◌}
use Rattle.gm_arena.specs.inner.ArenaMap.{name_at}
use Rattle.gm_undo.proofs.OneDart.{IsValuedTo}
use Rattle.gm_undo.proofs.writing.set_values.Given as goal

abbrev pub invariant-loop-embed : goal.invariant-loop-embed
invariant-loop-embed g l = record { valued : IsValuedTo (name_at l.fn.arena l.slot.at) l.fn.arena l.values l.arena l.embed; steps : l.steps ≡ l.fn.steps + l.embed }
