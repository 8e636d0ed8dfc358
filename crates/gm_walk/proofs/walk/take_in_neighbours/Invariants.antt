use Rattle.std.proofs.Common.{◌≡◌, ℕ, ◌+◌, ◌≤◌, ◌<◌, length, get_or}
use Rattle.gm_arena.specs.declared.slot.Slot.{Slot}
use Rattle.gm_model.specs.Orbits.{IsWalkTo}
use Rattle.gm_walk.specs.inner.Walks.{AreLive, IsWalkedTo, along, names_of}
use Rattle.gm_walk.proofs.walk.take_in_neighbours.Given as goal

abbrev pub invariant-loop-place : goal.invariant-loop-place
invariant-loop-place g l = record {
  live : AreLive l.arena l.scratch.walked;
  within : l.at < length l.scratch.walked;
  longer : length l.fn.scratch.walked ≤ length l.scratch.walked;
  here : (d : Slot) → get_or l.scratch.walked l.at d ≡ l.slot;
  walk : (d : ℕ) → IsWalkedTo l.arena l.word d l.at l.fn.scratch.walked → IsWalkTo (along l.arena l.word) (length l.word) d l.at l.place (names_of l.arena l.scratch.walked);
  bound : l.scratch.bound ≡ l.fn.scratch.bound;
  cost : l.steps ≡ l.fn.steps + l.place;
}
