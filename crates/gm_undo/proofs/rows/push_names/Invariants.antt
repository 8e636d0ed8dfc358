use Rattle.std.proofs.Common.{◌≡◌, ◌+◌, ◌++◌, map, take}
use Rattle.std.specs.Vec.{vec_capacity}
use Rattle.gm_arena.specs.inner.ArenaMap.{name_at}
use Rattle.gm_arena.specs.declared.slot.Slot.{Slot}
use Rattle.gm_undo.proofs.rows.push_names.Given as goal

abbrev pub invariant-loop-slot : goal.invariant-loop-slot
invariant-loop-slot g l = record {
  items : l.names.items ≡ l.fn.names.items ++ map (λ (s : Slot). name_at l.arena s.at) (take l.slot-index l.slots);
  capacity : vec_capacity l.names ≡ vec_capacity l.fn.names;
  steps : l.steps ≡ l.fn.steps + l.slot-index;
}
