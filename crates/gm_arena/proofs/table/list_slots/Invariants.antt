use Rattle.std.proofs.Common.{◌≡◌, ◌≤◌}
use Rattle.std.specs.List.{range_with_len}
use Rattle.std.specs.Vec.{vec_capacity}
use Rattle.gm_arena.proofs.table.list_slots.Given as goal

-- the slots of the names so far, and the room is still there
pub record Listed (l : goal.Live-loop-slot) : Type 0 where
  pub slots : l.slots.items ≡ range_with_len 0 l.slot
  pub room : l.len ≤ vec_capacity l.slots

abbrev pub invariant-loop-slot : goal.invariant-loop-slot
invariant-loop-slot l = Listed l
