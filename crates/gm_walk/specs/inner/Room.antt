-- What contracts see of a scratch: its room, and the slots of the last walk in it.
use Rattle.std.specs.Prelude.{◌≡◌, ℕ, ◌≤◌, List, [], ◌∷◌, ◌++◌, refl}
use Rattle.std.specs.Coded.{Coded, code_by, coded×, coded_ℕ, coded_list}
use Rattle.std.specs.List.{Contains}
use Rattle.gm_arena.specs.inner.ArenaMap.{ArenaMap}
use Rattle.gm_arena.specs.declared.slot.Slot.{Slot}
use Rattle.gm_arena.specs.contracts.slot.Slot as slot_block

pub record Room : Type 0 where
  -- it has room for the slots below it
  pub bound : ℕ
  -- the slots of the last walk, in its order
  pub walked : List Slot

-- a scratch fits an arena where it has room for each of its slots, so that it fits each arena with no greater bound
abbrev pub Fits : Room → ArenaMap → Type 0
Fits room m = m.bound ≤ room.bound

-- the new scratch has the slot, at the end where the old one did not have it
pub data TakesIn (old : Room) (slot : Slot) (new : Room) : Type 0 where
  Known : Contains old.walked slot → new ≡ old → TakesIn old slot new
  Added : (Contains old.walked slot → ⊥) → new ≡ record old { walked = old.walked ++ slot ∷ [] } → TakesIn old slot new

abbrev pub room_code : Coded Room
room_code =
    code_by
    (ℕ × List Slot)
    (coded× coded_ℕ (coded_list slot_block.the_row.coded))
    (λ r. (r.bound, r.walked))
    (λ p. record { bound = p.0; walked = p.1 })
    (λ _. refl)
