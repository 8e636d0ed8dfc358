use Rattle.std.proofs.Common.{◌≡◌, take}
use Rattle.gm_arena.specs.inner.Inside.{names_in}
use Rattle.gm_arena.proofs.table.Table.taken_names.Given as goal

-- the names so far
abbrev pub invariant-loop-name : goal.invariant-loop-name
invariant-loop-name l = l.names.items ≡ names_in (take l.name l.self)
