-- What contracts see of matched slots: two lists, and how many entries of each a position has.
use Rattle.std.specs.Prelude.{◌≡◌, ℕ, ◌+◌, ◌*◌, ◌<◌, ◌≤◌, List, length, Option, slice_get, slice_index}
use Rattle.std.specs.List.{All}
use Rattle.gm_arena.specs.declared.slot.Slot.{Slot}

pub record Placed : Type 0 where
  -- the slots of position 0 by node, then those of position 1, and so on
  pub slots : List Slot
  -- the positions to which position 0 turns by place, then those of position 1, and so on
  pub turns : List ℕ
  pub positions : ℕ
  -- how many nodes have a slot at each position
  pub nodes : ℕ
  -- how many places there are
  pub places : ℕ

abbrev pub placed_of : List Slot → List ℕ → ℕ → ℕ → ℕ → Placed
placed_of slots turns positions nodes places = record { slots = slots; turns = turns; positions = positions; nodes = nodes; places = places }

-- this many entries are a whole number for each position
abbrev pub HasRowsOf : ℕ → ℕ → Type 0
HasRowsOf positions entries = (nodes : ℕ) × (positions * nodes ≡ entries)

-- the slot of node x at position p
abbrev pub slot_at : Placed → ℕ → ℕ → Option Slot
slot_at placed x p = slice_get placed.slots (p * placed.nodes + x)

-- the position to which position p turns at place m
abbrev pub turn_at : Placed → ℕ → ℕ → ℕ
turn_at placed p m = slice_index placed.turns (p * placed.places + m)

-- each position has its slots and its turns, and turns to a position
pub record IsPlaced (placed : Placed) : Type 0 where
  pub some_position : 1 ≤ placed.positions
  pub slots : placed.positions * placed.nodes ≡ length placed.slots
  pub turns : placed.positions * placed.places ≡ length placed.turns
  pub turns_within : All (λ q. q < placed.positions) placed.turns
