-- Which outcome of an application an answer names.
use Rattle.std.specs.Prelude.{◌≡◌, ℕ, ◌+◌, ◌-◌, ◌*◌, ◌≤◌, max}
use Rattle.gm_model.specs.Applications.{Application, IsRefused, IsReady, more}
use Rattle.gm_model.specs.Applications as causes
use Rattle.gm_model.specs.Matches.{Placement}
use Rattle.gm_model.specs.Orbits.{HasCount}
use Rattle.gm_model.specs.Unfolding.{IsGone, scene_of}
use Rattle.gm_arena.specs.inner.ArenaMap.{ArenaMap}
use Rattle.gm_plan.specs.inner.Counts.{removed_nodes}
use Rattle.gm_match.specs.declared.fault.MatchFault.{MatchFault}
use Rattle.gm_match.specs.declared.fault.MatchFault.TheVariants as faults
use Rattle.gm_apply.specs.declared.refusal.Refusal.{Refusal}
use Rattle.gm_apply.specs.declared.refusal.Refusal.TheVariants as refusals

abbrev pub refusal_of_match : MatchFault → Refusal
refusal_of_match (faults.NoDart index) = refusals.NoDart index
refusal_of_match (faults.Arc x p i) = refusals.Arc x p i
refusal_of_match (faults.Same x p y q) = refusals.Same x p y q
refusal_of_match faults.OutOfMemory = refusals.OutOfMemory

-- the application is refused for this cause; that memory ran out is none
abbrev pub IsRefusedFor : Application → Refusal → Type 0
IsRefusedFor app (refusals.NoDart index) = IsRefused app (causes.NoDart index)
IsRefusedFor app (refusals.Arc x p i) = IsRefused app (causes.Arc x p i)
IsRefusedFor app (refusals.Same x p y q) = IsRefused app (causes.Same x p y q)
IsRefusedFor app refusals.PreNoValue = IsRefused app causes.PreNoValue
IsRefusedFor app refusals.PreFalse = IsRefused app causes.PreFalse
IsRefusedFor app (refusals.FullDarts live more) = IsRefused app (causes.FullDarts live more)
IsRefusedFor app (refusals.FullNames next more) = IsRefused app (causes.FullNames next more)
IsRefusedFor app (refusals.NoValue embed node) = IsRefused app (causes.NoValue embed node)
IsRefusedFor app refusals.OutOfMemory = Unit {0}

-- The found match has room for its result: the `added` darts and their names fit, and `removed` darts go.
pub record HasRoom (app : Application) (place : Placement) (added removed : ℕ) : Type 0 where
  pub ready : IsReady app place
  pub added_is : added ≡ more app place
  pub removed_is : removed ≡ place.positions * removed_nodes app.rule
  pub gone : HasCount (IsGone (scene_of app.map app.rule place)) removed

-- What is reserved after a refusal: what was before, or, where memory ran out, no more than the result takes.
pub data StaysInRoom (app : Application) (old new : ArenaMap) : Type 0 where
  AsBefore : new ≡ old → StaysInRoom app old new
  ForResult : (place : Placement) (added removed : ℕ) → HasRoom app place added removed → new.spare ≤ max old.spare (added - removed) → new.reserved ≤ max old.reserved (old.next + added) → StaysInRoom app old new
