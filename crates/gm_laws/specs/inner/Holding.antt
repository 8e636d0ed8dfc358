-- The laws at one dart and along one of its labels, all at once. No public clause cites this module.
use Rattle.std.specs.Prelude.{◌≡◌, ℕ, ◌<◌, List, map, slice_get, slice_index_or, Some, IsTrue, pos}
use Rattle.std.specs.FinMap.{get}
use Rattle.gm_model.specs.declared.schema.Embed.{Embed}
use Rattle.gm_model.specs.declared.value.Value.{Value}
use Rattle.gm_model.specs.declared.value.Value.TheVariants.{Int}
use Rattle.gm_model.specs.Labels.{has}
use Rattle.gm_model.specs.Maps.{IsEmbedAt}
use Rattle.gm_arena.specs.declared.slot.Slot.{Slot}
use Rattle.gm_arena.specs.inner.ArenaMap.{ArenaMap, IsAt, name_at, alpha}
use Rattle.gm_laws.specs.inner.Darts.{IsDistantLabel, LeadsBack, CommutesWith, HasSame}

-- the dart at the slot has these neighbours, by slot, and these values
abbrev pub IsRowAt : ArenaMap → ℕ → List Slot → List Value → Type 0
IsRowAt m slot alphas values = get m.darts (name_at m slot) ≡ Some (record { alphas = map (λ (s : Slot). name_at m s.at) alphas; values = values })

-- along each label that is distant from i and above it, the second slots are where label i leads from the first
abbrev pub DoMeet : ArenaMap → ℕ → List Slot → List Slot → Type 0
DoMeet m i alphas across = (j : ℕ) → IsDistantLabel m i j → (other : Slot) → name_at m (slice_index_or across j other).at ≡ alpha m i (name_at m (slice_index_or alphas j other).at)

-- the values are the same in each embedding whose orbits have the label
abbrev pub AreSameAlong : List Embed → ℕ → List Value → List Value → Type 0
AreSameAlong embeds i values others = (e : ℕ) (embed : Embed) → slice_get embeds e ≡ Some embed → IsTrue (has embed.mask i) → slice_index_or others e (Int (pos 0)) ≡ slice_index_or values e (Int (pos 0))

-- the laws hold at the dart along the label; values are spoken of where the neighbour's slot is the greater one, since where the label leads back that is one of the two
pub record Holds (m : ArenaMap) (slot d i : ℕ) : Type 0 where
  pub back : LeadsBack m d i
  pub commutes : CommutesWith m d i
  pub same : (to : ℕ) → IsAt m to (alpha m i d) → slot < to → (e : ℕ) (embed : Embed) → IsEmbedAt m.schema e embed → IsTrue (has embed.mask i) → HasSame m e d i
