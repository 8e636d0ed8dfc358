-- How the slots that edits touch are taken in, each once. No public clause cites this module.
use Rattle.std.specs.Prelude.{◌≡◌, ◌+◌, ◌≤◌, ◌⊎◌, List, length, Option, None, Some}
use Rattle.std.specs.List.{Contains}
use Rattle.gm_arena.specs.declared.slot.Slot.{Slot}
use Rattle.gm_commit.specs.declared.changes.ValueAt.{ValueAt}
use Rattle.gm_commit.specs.inner.EditLists.{AreDistinct}

-- the value is set at the slot
abbrev pub IsSetAmong : List ValueAt → Slot → Type 0
IsSetAmong values slot = (at : ValueAt) × Contains values at × (at.slot ≡ slot)

-- they are the slots and those of the values
pub record AreTaken (slots : List Slot) (values : List ValueAt) (taken : List Slot) : Type 0 where
  pub from : (slot : Slot) → Contains taken slot → Contains slots slot ⊎ IsSetAmong values slot
  pub all : (slot : Slot) → Contains slots slot → Contains taken slot
  pub set : (slot : Slot) → IsSetAmong values slot → Contains taken slot
  pub distinct : AreDistinct taken
  pub few : length taken ≤ length slots + length values

-- the slots that were taken in, or the matched ones where none were
abbrev pub touched_or : List Slot → Option (List Slot) → List Slot
touched_or matched None = matched
touched_or matched (Some taken) = taken
