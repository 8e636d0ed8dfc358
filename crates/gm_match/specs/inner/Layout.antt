-- What the parts of matching have made: the hook darts, and the slots and turns of the candidate.
use Rattle.std.specs.Prelude.{◌≡◌, ℕ, zero, suc, ◌+◌, ◌*◌, ◌/◌, ◌%◌, ◌<◌, ◌≤◌, List, [], ◌∷◌, length, take, None, Some, slice_get, slice_index}
use Rattle.std.specs.FinMap.{get}
use Rattle.gm_model.specs.declared.rule.Side.TheVariants.{Left}
use Rattle.gm_model.specs.Maps.{IsGeneralised}
use Rattle.gm_model.specs.Matches.{IsCandidate, IsPathTo}
use Rattle.gm_model.specs.Orbits.{follow}
use Rattle.gm_model.specs.Rules.{Rule, rule_of, letters, label_at, first_hook, width}
use Rattle.gm_arena.specs.declared.slot.Slot.{Slot}
use Rattle.gm_arena.specs.inner.ArenaAsMap.{as_map}
use Rattle.gm_arena.specs.inner.ArenaMap.{ArenaMap, IsLiveName, alpha}
use Rattle.gm_arena.specs.inner.Lawful.{IsLawful}
use Rattle.gm_plan.specs.inner.Placed.{Placed}
use Rattle.gm_plan.specs.inner.Plans.{PlanOf, IsLeftCount, IsPlanned}
use Rattle.gm_walk.specs.inner.Walks.{AreLive, names_of}
use Rattle.gm_match.specs.declared.fault.MatchFault.{MatchFault}
use Rattle.gm_match.specs.declared.fault.MatchFault.TheVariants as faults
use Rattle.gm_plan.specs.inner.InArena.{placement_in}
use Rattle.gm_match.specs.inner.Outcome.{name_of}

-- a generalised map of the plan's schema, and a rule that has a plan
pub record AreMatchable (m : ArenaMap) (plan : PlanOf) : Type 0 where
  pub lawful : IsLawful m
  pub generalised : IsGeneralised (as_map m)
  pub schema : m.schema ≡ plan.schema
  pub planned : IsPlanned plan.schema (rule_of plan.table)

-- ---- hooks

-- the slots are live, and those of the hook darts, in their order
pub record AreHookSlots (m : ArenaMap) (hooks : List ℕ) (slots : List Slot) : Type 0 where
  pub live : AreLive m slots
  pub names : names_of m slots ≡ hooks

-- the first `count` hooks name live darts
abbrev pub AreDarts : ArenaMap → List ℕ → ℕ → Type 0
AreDarts m hooks count = (k d : ℕ) → k < count → slice_get hooks k ≡ Some d → IsLiveName m d

-- the fault names the first hook that names no live dart
pub data IsNoDart (m : ArenaMap) (hooks : List ℕ) : MatchFault → Type 0 where
  Dead : (index d : ℕ) → slice_get hooks index ≡ Some d → get m.darts d ≡ None → AreDarts m hooks index → IsNoDart m hooks (faults.NoDart index)

-- ---- turns

-- the first `count` turns lead to positions before p
abbrev pub LeadBefore : List ℕ → ℕ → ℕ → Type 0
LeadBefore turns count p = (j : ℕ) → j < count → slice_index turns j < p

-- the turn at k leads to p, and each turn before it to an earlier position
pub record IsFirstTo (turns : List ℕ) (p k : ℕ) : Type 0 where
  pub here : slice_get turns k ≡ Some p
  pub before : LeadBefore turns k p

-- each later position is first turned to from an earlier one
abbrev pub HaveFirstTurns : List ℕ → ℕ → ℕ → Type 0
HaveFirstTurns turns positions places = (p : ℕ) → 0 < p → p < positions → (k : ℕ) × (k < p * places) × IsFirstTo turns p k

-- the slots of a walk along one label, as many as there are turns
abbrev pub ends : Slot → Slot → List ℕ → List Slot
ends from to turns = take (length turns) (from ∷ to ∷ [])

-- the slots of a walk along this many labels: those of the walk along one label, or those that were walked
abbrev pub walk_of : ℕ → List Slot → List Slot → List Slot
walk_of (suc zero) one walked = one
walk_of zero one walked = walked
walk_of (suc (suc places)) one walked = walked

-- ---- slots

-- what slots are found for: the hooks of a plan have these darts, and the first of them lies along this walk
pub record AreWalkedFrom (m : ArenaMap) (plan : PlanOf) (darts walk : List Slot) : Type 0 where
  pub matchable : AreMatchable m plan
  pub some : 0 < length darts
  pub count : length darts ≡ length (rule_of plan.table).hooks
  pub darts_live : AreLive m darts
  pub some_position : 0 < length walk
  pub few : length walk ≤ 4294967295
  pub walk_live : AreLive m walk
  pub starts : slice_index (names_of m walk) 0 ≡ slice_index (names_of m darts) 0

-- the dart that a row of slots has for node x
abbrev pub dart_in : ArenaMap → List Slot → ℕ → ℕ
dart_in m row x = name_of m (slice_get row x)

-- the dart that rows of this many slots have for node x at position p
abbrev pub dart_at : ArenaMap → ℕ → List Slot → ℕ → ℕ → ℕ
dart_at m nodes slots x p = name_of m (slice_get slots (p * nodes + x))

-- the rows of the slots have that of the position of the turn at k
abbrev pub IsTurnAmong : Rule → List Slot → ℕ → Type 0
IsTurnAmong rule slots k = (nodes : ℕ) → IsLeftCount rule nodes → (rows : ℕ) × (rows * nodes ≡ length slots) × (k < rows * width rule)

-- the dart to which the turn at k leads the hook h by its own letter
abbrev pub stepped : ArenaMap → Rule → ℕ → List Slot → ℕ → ℕ → ℕ
stepped m rule nodes slots k h = alpha m (label_at (letters rule Left h) (k % width rule)) (dart_at m nodes slots h (k / width rule))

-- a row of live slots, in which each left node lies where its least path leads from its hook
pub record IsForcedRow (m : ArenaMap) (rule : Rule) (row : List Slot) : Type 0 where
  pub long : length row ≡ 32
  pub live : AreLive m row
  pub forced : (x hook : ℕ) (path : List ℕ) → IsPathTo rule x hook path → dart_in m row x ≡ follow (alpha m) path (dart_in m row hook)

-- in the first `rows` rows each left node lies where its least path leads from its hook
abbrev pub AreForcedRows : ArenaMap → Rule → ℕ → ℕ → List Slot → Type 0
AreForcedRows m rule nodes rows slots = (x p hook : ℕ) (path : List ℕ) → p < rows → IsPathTo rule x hook path → dart_at m nodes slots x p ≡ follow (alpha m) path (dart_at m nodes slots hook p)

-- the first `rows` rows are all: of live slots, where the first hook lies along the walk and each left node is forced
pub record AreAlongWalk (m : ArenaMap) (rule : Rule) (nodes : ℕ) (walk : List ℕ) (rows : ℕ) (slots : List Slot) : Type 0 where
  pub long : rows * nodes ≡ length slots
  pub live : AreLive m slots
  pub hooked : (h p : ℕ) → first_hook rule ≡ Some h → p < rows → dart_at m nodes slots h p ≡ slice_index walk p
  pub forced : AreForcedRows m rule nodes rows slots

-- Of hooks of one label each, the first `count` lie in their rows: the first hook along the walk, each other one at its dart, and at the second position, where there is one, at the neighbour of that along its own label.
pub record AreHooksLaid (m : ArenaMap) (rule : Rule) (hooks walk : List ℕ) (rows nodes count : ℕ) (slots : List Slot) : Type 0 where
  pub first : (h p : ℕ) → first_hook rule ≡ Some h → p < rows → dart_at m nodes slots h p ≡ slice_index walk p
  pub at_darts : (t h : ℕ) → 0 < t → t < count → slice_get rule.hooks t ≡ Some h → dart_at m nodes slots h 0 ≡ slice_index hooks t
  pub in_step : (t h : ℕ) → 0 < t → t < count → slice_get rule.hooks t ≡ Some h → 1 < rows → dart_at m nodes slots h 1 ≡ alpha m (label_at (letters rule Left h) 0) (slice_index hooks t)

-- The first `rows` rows are those of the candidate at these hook darts, by its walk and its turns.
pub record AreRows (m : ArenaMap) (rule : Rule) (hooks walk turns : List ℕ) (nodes rows : ℕ) (slots : List Slot) : Type 0 where
  pub along : AreAlongWalk m rule nodes walk rows slots
  pub at_darts : (t h d : ℕ) → 0 < rows → slice_get rule.hooks t ≡ Some h → slice_get hooks t ≡ Some d → dart_at m nodes slots h 0 ≡ d
  pub in_step : (t h p k : ℕ) → 0 < t → slice_get rule.hooks t ≡ Some h → p < rows → k < p * width rule → IsFirstTo turns p k → dart_at m nodes slots h p ≡ stepped m rule nodes slots k h

-- ---- instances

-- the instances have live slots for the left nodes, and turns at the places of the hooks' words
pub record IsLaid (m : ArenaMap) (rule : Rule) (found : Placed) : Type 0 where
  pub slots : AreLive m found.slots
  pub long : found.positions * found.nodes ≡ length found.slots
  pub nodes : IsLeftCount rule found.nodes
  pub places : found.places ≡ width rule

-- the instances are those of the candidate at the hook darts
pub record IsCandidateAt (m : ArenaMap) (rule : Rule) (hooks : List ℕ) (found : Placed) : Type 0 where
  pub laid : IsLaid m rule found
  pub candidate : IsCandidate (as_map m) rule hooks (placement_in m found)
