-- Which instance lies at a slot.
use Rattle.std.specs.Prelude.{◌≡◌, ℕ, ◌<◌, nat_eq, Some, IsSome}
use Rattle.std.specs.declared.hash.BuildHasherDefault.{BuildHasherDefault}
use Rattle.std.specs.declared.hash.FoldHasher.{FoldHasher}
use Rattle.std.specs.HashMap.{HashMap, get}
use Rattle.gm_model.specs.Orbits.{IsPairBefore}
use Rattle.gm_plan.specs.inner.InArena.{slot_number}
use Rattle.gm_plan.specs.inner.Placed.{Placed}
use Rattle.gm_plan.specs.declared.lookup.Lookup.{Lookup}

-- instances by slots
abbrev pub BySlot : Type 0
BySlot = HashMap ℕ (ℕ × ℕ) (BuildHasherDefault FoldHasher)

-- an instance
abbrev pub IsWithin : Placed → ℕ → ℕ → Type 0
IsWithin placed x p = (x < placed.nodes) × (p < placed.positions)

-- an instance that lies at the slot
abbrev pub IsAtSlot : Placed → ℕ → ℕ → ℕ → Type 0
IsAtSlot placed slot x p = IsWithin placed x p × (slot_number placed x p ≡ slot)

-- the map has an instance at each slot of an instance before node x and position p
pub record IsLookupUpTo (placed : Placed) (instances : BySlot) (x p : ℕ) : Type 0 where
  pub there : (slot : ℕ) (i : ℕ × ℕ) → get nat_eq instances slot ≡ Some i → IsAtSlot placed slot i.0 i.1
  pub all : (y q : ℕ) → IsWithin placed y q → IsPairBefore y q x p → IsSome (get nat_eq instances (slot_number placed y q))

-- and at each slot of an instance
abbrev pub IsLookup : Placed → BySlot → Type 0
IsLookup placed instances = IsLookupUpTo placed instances placed.nodes 0

-- what a look-up holds
abbrev pub IsLookupIn : Placed → Lookup → Type 0
IsLookupIn placed lookup = IsLookup placed lookup.instances.value
