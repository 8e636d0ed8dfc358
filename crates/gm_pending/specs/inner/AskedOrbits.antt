-- How what was answered is kept. No public clause cites this module.
use Rattle.std.specs.Int.{bit_at}
use Rattle.std.specs.Prelude.{◌≡◌, ℕ, ◌*◌, List, Option, Some, None, map, slice_get}
use Rattle.std.specs.Option.{option_map}
use Rattle.gm_model.specs.declared.rule.RuleTable.{RuleTable}
use Rattle.gm_model.specs.declared.schema.Embed.{Embed}
use Rattle.gm_model.specs.Maps.{IsEmbedAt}
use Rattle.gm_arena.specs.inner.ArenaMap.{ArenaMap}
use Rattle.gm_plan.specs.inner.Placed.{Placed}
use Rattle.gm_pending.specs.declared.decided_orbits.DecidedOrbits.{DecidedOrbits}
use Rattle.gm_pending.specs.declared.deciding_instance.DecidingInstance.{DecidingInstance}
use Rattle.gm_plan.specs.declared.lookup.Lookup.{Lookup}
use Rattle.gm_plan.specs.inner.InArena.{slot_number}
use Rattle.gm_plan.specs.inner.Lookup.{IsLookupIn, IsWithin}
use Rattle.gm_pending.specs.inner.Marks.{bit_of}
use Rattle.gm_pending.specs.inner.ReachedDarts.{AreReached}
use Rattle.gm_pending.specs.inner.Results.{PendingOf}

abbrev pub instances_in : Option DecidedOrbits → Option (List DecidingInstance)
instances_in entry = option_map (λ (orbits : DecidedOrbits). orbits.instances.items) entry

-- with what was answered of each embedding
abbrev pub pending_as : ArenaMap → RuleTable → Placed → List (Option DecidedOrbits) → PendingOf
pending_as map table placed orbits = record { map = map; table = table; placed = placed; asked = Rattle.std.specs.Prelude.map instances_in orbits }

-- each answer has the darts that its deciding instances reach
abbrev pub AreDecidedOrbits : PendingOf → List (Option DecidedOrbits) → Type 0
AreDecidedOrbits app answers = (e : ℕ) (embed : Embed) (orbits : DecidedOrbits) → IsEmbedAt app.map.schema e embed → slice_get answers e ≡ Some (Some orbits) → AreReached app e embed orbits.instances.items orbits.marks

-- the application was asked for these orbits of each embedding, as far as it was asked
pub record AreOrbitsOf (app : PendingOf) (orbits : List (Option DecidedOrbits)) : Type 0 where
  pub asked : app.asked ≡ map instances_in orbits
  pub decided : AreDecidedOrbits app orbits

-- a look-up that was made has the instances
abbrev pub IsLookedUp : Placed → Option Lookup → Type 0
IsLookedUp placed None = Unit {0}
IsLookedUp placed (Some lookup) = IsLookupIn placed lookup

-- the bit of each instance's slot is set
abbrev pub AreMatchedSeen : Placed → ℕ → Type 0
AreMatchedSeen placed bits = (x p : ℕ) → IsWithin placed x p → bit_at bits (bit_of (slot_number placed x p * 2)) ≡ 1
