use Rattle.std.proofs.Common.{◌≡◌, ◌+◌, ◌≤◌, ◌++◌, List, length}
use Rattle.std.specs.Vec.{vec_capacity}
use Rattle.gm_arena.specs.declared.slot.Slot.{Slot}
use Rattle.gm_commit.specs.inner.WrittenMap.{IsExtended}
use Rattle.gm_commit.proofs.commit.add_darts.Given as goal

abbrev pub invariant-loop-number : goal.invariant-loop-number
invariant-loop-number g l = record {
  made : List Slot;
  slots : l.slots.items ≡ l.fn.slots.items ++ made;
  extended : IsExtended l.fn.arena l.values made l.arena;
  long : length made ≡ l.number;
  capacity : length l.fn.slots.items + l.added ≤ vec_capacity l.slots;
  cost : l.steps ≡ l.fn.steps + length made;
}
