-- What matching answers: the match, or why there is none, in the words of an application's outcome.
use Rattle.std.specs.Prelude.{ℕ, List, Option}
use Rattle.std.specs.Option.{option_map_or}
use Rattle.gm_model.specs.declared.value.Value.{Value}
use Rattle.gm_model.specs.Applications.{Application, IsRefused}
use Rattle.gm_model.specs.Applications.Cause.{NoDart, Arc, Same}
use Rattle.gm_model.specs.Rules.{Rule}
use Rattle.gm_arena.specs.declared.slot.Slot.{Slot}
use Rattle.gm_arena.specs.inner.ArenaMap.{ArenaMap, name_at}
use Rattle.gm_arena.specs.inner.ArenaAsMap.{as_map}
use Rattle.gm_plan.specs.inner.InArena.{AreMatched}
use Rattle.gm_plan.specs.inner.Placed.{Placed}
use Rattle.gm_walk.specs.inner.Walks.{AreLive}
use Rattle.gm_match.specs.declared.fault.MatchFault.{MatchFault}
use Rattle.gm_match.specs.declared.fault.MatchFault.TheVariants as faults

-- the application of the rule to the map in an arena
abbrev pub application_of : ArenaMap → Rule → List ℕ → List Value → Application
application_of m rule hooks params = record { map = as_map m; rule = rule; hooks = hooks; params = params }

-- the name of the dart at a slot; without a slot, at the first
abbrev pub name_of : ArenaMap → Option Slot → ℕ
name_of m slot = name_at m (option_map_or (λ (s : Slot). s.at) slot 0)

-- the instances are a match, and each of their slots is live
pub record IsAnswer (m : ArenaMap) (rule : Rule) (hooks : List ℕ) (found : Placed) : Type 0 where
  pub matched : AreMatched m rule hooks found
  pub live : AreLive m found.slots

-- the fault is the cause for which the application is refused
abbrev pub IsCause : Application → MatchFault → Type 0
IsCause app (faults.NoDart index) = IsRefused app (NoDart index)
IsCause app (faults.Arc x p i) = IsRefused app (Arc x p i)
IsCause app (faults.Same x p y q) = IsRefused app (Same x p y q)
IsCause app faults.OutOfMemory = Unit {0}
