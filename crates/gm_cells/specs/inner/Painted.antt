-- Two colours for the darts of a map, component by component, as far as they go. No public clause cites this module.
use Rattle.std.specs.Prelude.{◌≡◌, ◌≢◌, ℕ, ⊤, ◌+◌, ◌%◌, ◌<◌, ◌≤◌, ◌⊎◌, ◌==◌, Bool, true, false, IsTrue, List, length, get_or, Option, Some, None}
use Rattle.std.specs.List.{count_by}
use Rattle.gm_arena.specs.inner.ArenaAsMap.{as_map}
use Rattle.gm_arena.specs.inner.ArenaMap.{ArenaMap, IsAt, IsLiveSlot, name_at, alpha}
use Rattle.gm_arena.specs.declared.slot.Slot.{Slot}
use Rattle.gm_model.specs.Orbits.{IsPairBefore}
use Rattle.gm_cells.specs.Colours.{IsComponentLead, IsOddWalk}
use Rattle.gm_cells.specs.inner.Ascending.{IsAscendingOf}
use Rattle.gm_cells.specs.inner.Search.{Leads}
use Rattle.gm_cells.specs.declared.components.Components.{Components}

-- the colour at a slot: 0 where there is none yet, 1 for the first colour and 2 for the second
abbrev pub colour_in : List ℕ → ℕ → ℕ
colour_in colours slot = get_or colours slot 0

-- each colour stays
abbrev pub AreKept : List ℕ → List ℕ → Type 0
AreKept old new = (slot : ℕ) → colour_in old slot ≢ 0 → colour_in new slot ≡ colour_in old slot

-- a walk to d from the slot, which is even where the slot has the first colour and odd where it has the second
pub record IsPaintedFrom (m : ArenaMap) (d : ℕ) (colours : List ℕ) (slot : ℕ) : Type 0 where
  pub labels : List ℕ
  pub leads : Leads m d labels (name_at m slot)
  pub colour : colour_in colours slot ≡ length labels % 2 + 1

-- the neighbour along i has a colour, and where all fits another one than the slot
pub record IsFollowed (m : ArenaMap) (colours : List ℕ) (fits : Bool) (slot i : ℕ) : Type 0 where
  pub to : ℕ
  pub there : IsAt m to (alpha m i (name_at m slot))
  pub some : colour_in colours to ≢ 0
  pub other : IsTrue fits → to ≢ slot → colour_in colours to ≢ colour_in colours slot

-- an odd walk from d
abbrev pub HasOddWalk : ArenaMap → ℕ → Type 0
HasOddWalk m d = (labels : List ℕ) × IsOddWalk m.schema.dim (alpha m) d labels

-- no dart from which a walk leads to d has a colour
abbrev pub IsUnpainted : ArenaMap → ℕ → List ℕ → Type 0
IsUnpainted m d colours = (slot : ℕ) (labels : List ℕ) → IsLiveSlot m slot → Leads m d labels (name_at m slot) → colour_in colours slot ≡ 0

-- d's component was painted; two colours fit it, or there is an odd walk
pub record IsPainted (m : ArenaMap) (d : ℕ) (old new : List ℕ) (fits : Bool) : Type 0 where
  pub kept : AreKept old new
  pub only : (slot : ℕ) → colour_in new slot ≢ 0 → (colour_in old slot ≢ 0) ⊎ (IsLiveSlot m slot × IsPaintedFrom m d new slot)
  pub own : (slot : ℕ) → IsAt m slot d → colour_in new slot ≡ 1
  pub followed : (slot i : ℕ) → colour_in old slot ≡ 0 → colour_in new slot ≢ 0 → i ≤ m.schema.dim → IsFollowed m new fits slot i
  pub clash : fits ≡ false → HasOddWalk m d

-- ---- on the way

-- what stands after the end of a queue
abbrev pub no_place : Slot
no_place = record { at = 0 }

abbrev pub queued_at : List Slot → ℕ → ℕ
queued_at queue p = (get_or queue p no_place).at

-- the slot stands in the queue
abbrev pub StandsIn : List Slot → ℕ → Type 0
StandsIn queue slot = (p : ℕ) × (p < length queue) × (queued_at queue p ≡ slot)

abbrev pub unpainted : List ℕ → ℕ
unpainted colours = count_by (λ colour. colour == 0) colours

-- the painting from d as far as the label of the dart at a place of the queue, before which each label was followed
pub record IsPainting (m : ArenaMap) (d : ℕ) (old : List ℕ) (at label : ℕ) (fits : Bool) (colours : List ℕ) (queue : List Slot) : Type 0 where
  pub fresh : IsUnpainted m d old
  pub own : (slot : ℕ) → IsAt m slot d → colour_in colours slot ≡ 1
  pub kept : AreKept old colours
  pub only : (slot : ℕ) → colour_in colours slot ≢ 0 → (colour_in old slot ≢ 0) ⊎ StandsIn queue slot
  pub live : (p : ℕ) → p < length queue → IsLiveSlot m (queued_at queue p)
  pub led : (p : ℕ) → p < length queue → IsPaintedFrom m d colours (queued_at queue p)
  pub counted : length queue + unpainted colours ≡ unpainted old
  pub followed : (p i : ℕ) → IsPairBefore p i at label → p < length queue → i ≤ m.schema.dim → IsFollowed m colours fits (queued_at queue p) i
  pub clash : fits ≡ false → HasOddWalk m d

-- ---- all components

-- a walk from the slot to the least dart of its component, which lies below the number
pub record HasPaintedLead (m : ArenaMap) (from : ℕ) (colours : List ℕ) (slot : ℕ) : Type 0 where
  pub lead : ℕ
  pub first : IsComponentLead (as_map m) lead
  pub below : lead < from
  pub by : IsPaintedFrom m lead colours slot

-- d lies before the dart at the slot, if there is one
abbrev pub IsBeforeOdd : ArenaMap → Option Slot → ℕ → Type 0
IsBeforeOdd m None d = ⊤
IsBeforeOdd m (Some slot) d = d < name_at m slot.at

-- the dart at the slot, if there is one, is the least of its component, lies below the number and has an odd walk
pub record IsOddLead (m : ArenaMap) (from slot : ℕ) : Type 0 where
  pub live : IsLiveSlot m slot
  pub first : IsComponentLead (as_map m) (name_at m slot)
  pub below : name_at m slot < from
  pub walk : HasOddWalk m (name_at m slot)

abbrev pub IsOddOrNone : ArenaMap → ℕ → Option Slot → Type 0
IsOddOrNone m from None = ⊤
IsOddOrNone m from (Some slot) = IsOddLead m from slot.at

-- The components whose least darts lie below the number were painted. Those before the first odd one have two colours.
pub record ArePainted (m : ArenaMap) (from : ℕ) (colours : List ℕ) (found : Components) : Type 0 where
  pub done : (slot d : ℕ) → IsAt m slot d → d < from → colour_in colours slot ≢ 0
  pub led : (slot : ℕ) → colour_in colours slot ≢ 0 → IsLiveSlot m slot × HasPaintedLead m from colours slot
  pub own : (slot d : ℕ) → IsAt m slot d → IsComponentLead (as_map m) d → d < from → colour_in colours slot ≡ 1
  pub followed : (slot i : ℕ) → colour_in colours slot ≢ 0 → i ≤ m.schema.dim → IsFollowed m colours false slot i
  pub proper : (d slot i : ℕ) → IsComponentLead (as_map m) d → IsBeforeOdd m found.odd d → IsLiveSlot m slot → IsPaintedFrom m d colours slot → i ≤ m.schema.dim → IsFollowed m colours true slot i
  pub counted : (leads : List ℕ) × IsAscendingOf (IsComponentLead (as_map m)) from leads × (length leads ≡ found.count)
  pub odd : IsOddOrNone m from found.odd
