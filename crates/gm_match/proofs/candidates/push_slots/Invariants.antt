use Rattle.std.proofs.Common.{◌≡◌, ◌++◌, take, vec_capacity}
use Rattle.gm_match.proofs.candidates.push_slots.Given as goal

abbrev pub invariant-loop-slot : goal.invariant-loop-slot
invariant-loop-slot l = record {
  items : l.slots.items ≡ l.fn.slots.items ++ take l.slot-index l.row;
  capacity : vec_capacity l.slots ≡ vec_capacity l.fn.slots;
}
