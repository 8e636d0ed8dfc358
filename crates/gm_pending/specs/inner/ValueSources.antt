-- Where a dart has its value from in an orbit without a deciding instance. No public clause cites this module.
use Rattle.std.specs.Prelude.{◌≡◌, ℕ, ◌<◌, List, length, Option, None, MatchOption, slice_get, slice_index_or}
use Rattle.std.specs.Option.{option_and_then}
use Rattle.gm_model.specs.declared.schema.Embed.{Embed}
use Rattle.gm_model.specs.declared.value.Value.{Value}
use Rattle.gm_model.specs.Components.{IsKeeper, IsNew}
use Rattle.gm_model.specs.Maps.{IsEmbedAt, type_of}
use Rattle.gm_arena.specs.inner.ArenaAsMap.{value}
use Rattle.gm_arena.specs.inner.ArenaMap.{name_at}
use Rattle.gm_plan.specs.inner.InArena.{slot_number}
use Rattle.gm_walk.specs.declared.at.At.{At}
use Rattle.gm_walk.specs.declared.at.At.TheVariants.{Old, New}
use Rattle.gm_pending.specs.declared.deciding_instance.DecidingInstance.{DecidingInstance}
use Rattle.gm_walk.specs.declared.mark.Mark.{Mark}
use Rattle.gm_pending.specs.inner.Marks.{HasKey}
use Rattle.gm_walk.specs.inner.Keys.{key_of}
use Rattle.gm_pending.specs.inner.ReachedDarts.{AreReached}
use Rattle.gm_pending.specs.inner.Results.{PendingOf, instances_of, rule_in}

-- an added node's component has a preserved node
abbrev pub HasSourceNode : PendingOf → Embed → At → Type 0
HasSourceNode app embed (Old slot) = Unit {0}
HasSourceNode app embed (New x p) = (keeper : ℕ) × IsKeeper (rule_in app) (type_of embed) x keeper

-- an old dart has its own value, and an added one that of the least such node
abbrev pub IsSourceOf : PendingOf → Embed → At → ℕ → Type 0
IsSourceOf app embed (Old old) slot = slot ≡ old.at
IsSourceOf app embed (New x p) slot = (keeper : ℕ) × IsKeeper (rule_in app) (type_of embed) x keeper × (slot_number app.placed keeper p ≡ slot)

-- it is the value of the old dart at the slot
abbrev pub IsOldValue : PendingOf → ℕ → ℕ → Value → Type 0
IsOldValue app e slot v = v ≡ value app.map e (name_at app.map slot)

-- and that is where the dart has its value from, if it has it from an old one
abbrev pub IsSourceValue : PendingOf → ℕ → Embed → At → Value → Type 0
IsSourceValue app e embed at v = (slot : ℕ) → IsSourceOf app embed at slot → IsOldValue app e slot v

-- no deciding instance reaches the dart
abbrev pub IsUnreached : PendingOf → ℕ → Embed → At → Type 0
IsUnreached app e embed at = (reached : List Mark) × AreReached app e embed (instances_of app e) reached × (HasKey reached (key_of at) → ⊥)

-- the least preserved node of the component of x for the embedding of this number, or none where it has none
abbrev pub IsKeeperFor : PendingOf → ℕ → ℕ → Option ℕ → Type 0
IsKeeperFor app e x keeper = (embed : Embed) → IsEmbedAt app.map.schema e embed → MatchOption keeper (IsNew (rule_in app) (type_of embed) x) (IsKeeper (rule_in app) (type_of embed) x)

-- the keepers of x, by the number of the embedding
abbrev pub AreKeepers : PendingOf → ℕ → List (Option ℕ) → Type 0
AreKeepers app x keepers = (e : ℕ) → e < length app.map.schema.embeds → IsKeeperFor app e x (slice_index_or keepers e None)

-- the value that was given to the deciding instance of this index
abbrev pub given_of : List DecidingInstance → ℕ → Option Value
given_of instances k = option_and_then (λ (instance : DecidingInstance). instance.given) (slice_get instances k)
