-- What contracts see of edits that own what they hold.
use Rattle.std.specs.Prelude.{List}
use Rattle.std.specs.List.{Contains}
use Rattle.gm_arena.specs.declared.slot.Slot.{Slot}
use Rattle.gm_arena.specs.inner.ArenaMap.{ArenaMap, IsLiveSlot}
use Rattle.gm_commit.specs.inner.EditLists.{EditLists, AreDistinct, IsTouchedBy}

pub record OwnEdits : Type 0 where
  pub lists : EditLists
  -- the slots of the darts that a commit may change or remove
  pub touched : List Slot

abbrev pub own_edits : EditLists → List Slot → OwnEdits
own_edits lists touched = record { lists = lists; touched = touched }

-- they are live, each stands there once, and no other is touched
pub record AreTouched (m : ArenaMap) (edits : EditLists) (touched : List Slot) : Type 0 where
  pub live : (slot : Slot) → Contains touched slot → IsLiveSlot m slot.at
  pub distinct : AreDistinct touched
  pub all : (slot : Slot) → IsTouchedBy edits slot → Contains touched slot
