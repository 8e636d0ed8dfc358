-- How a component is searched: the marks of its darts, and the queue of those that were reached. No public clause cites this module.
use Rattle.std.specs.Prelude.{◌≡◌, ◌≢◌, ℕ, ◌+◌, ◌*◌, ◌%◌, ◌<◌, ◌≤◌, ◌⊎◌, ◌==◌, List, [], ◌∷◌, ◌++◌, length, get_or, set}
use Rattle.std.specs.List.{count_by}
use Rattle.gm_arena.specs.inner.ArenaMap.{ArenaMap, IsLiveSlot, name_at, alpha}
use Rattle.gm_arena.specs.declared.slot.Slot.{Slot}
use Rattle.gm_model.specs.Orbits.{IsPairBefore}
use Rattle.gm_cells.specs.declared.search.Visit.{Visit}
use Rattle.gm_cells.specs.Colours.{LeadsTo}

-- the mark of a slot at the parity of the length
abbrev pub mark_of : List ℕ → ℕ → ℕ → ℕ
mark_of marks slot length = get_or marks (2 * slot + length % 2) 0

-- the labels lead from e to d
abbrev pub Leads : ArenaMap → ℕ → List ℕ → ℕ → Type 0
Leads m d labels e = LeadsTo m.schema.dim (alpha m) d labels e

-- no dart from which a walk leads to d has a mark
abbrev pub IsFresh : ArenaMap → ℕ → List ℕ → Type 0
IsFresh m d marks = (slot k : ℕ) (labels : List ℕ) → IsLiveSlot m slot → Leads m d labels (name_at m slot) → mark_of marks slot k ≡ 0

-- a walk to d from the slot, of the length that its mark tells
pub record IsMarkedBy (m : ArenaMap) (d : ℕ) (marks : List ℕ) (slot k : ℕ) : Type 0 where
  pub labels : List ℕ
  pub leads : Leads m d labels (name_at m slot)
  pub parity : length labels % 2 ≡ k % 2
  pub mark : mark_of marks slot k ≡ length labels + 1

-- a mark of no more than the walk's length
pub record IsReachedBy (marks : List ℕ) (slot most : ℕ) : Type 0 where
  pub length : ℕ
  pub mark : mark_of marks slot most ≡ length + 1
  pub few : length ≤ most

-- d's component was searched
pub record IsSearched (m : ArenaMap) (d : ℕ) (old new : List ℕ) : Type 0 where
  pub kept : (place : ℕ) → get_or old place 0 ≢ 0 → get_or new place 0 ≡ get_or old place 0
  pub only : (slot k : ℕ) → IsLiveSlot m slot → mark_of new slot k ≢ 0 → (mark_of old slot k ≢ 0) ⊎ IsMarkedBy m d new slot k
  pub least : (slot : ℕ) (labels : List ℕ) → IsLiveSlot m slot → Leads m d labels (name_at m slot) → IsReachedBy new slot (length labels)

-- the slot was marked and put into the queue, unless it had a mark
pub data Reaches (slot : Slot) (k : ℕ) (marks : List ℕ) (queue : List Visit) (marks' : List ℕ) (queue' : List Visit) : Type 0 where
  Known : mark_of marks slot.at k ≢ 0 → marks' ≡ marks → queue' ≡ queue → Reaches slot k marks queue marks' queue'
  Added : mark_of marks slot.at k ≡ 0 → marks' ≡ set marks (2 * slot.at + k % 2) (k + 1) → queue' ≡ queue ++ record { slot = slot; length = k } ∷ [] → Reaches slot k marks queue marks' queue'

-- ---- on the way

-- what stands after the end of a queue
abbrev pub nowhere : Visit
nowhere = record { slot = record { at = 0 }; length = 0 }

abbrev pub slot_in : List Visit → ℕ → ℕ
slot_in queue p = (get_or queue p nowhere).slot.at

abbrev pub length_in : List Visit → ℕ → ℕ
length_in queue p = (get_or queue p nowhere).length

abbrev pub dart_in : ArenaMap → List Visit → ℕ → ℕ
dart_in m queue p = name_at m (slot_in queue p)

abbrev pub unmarked : List ℕ → ℕ
unmarked marks = count_by (λ mark. mark == 0) marks

-- the queue has the dart, with a length of no more than this and of its parity
pub record IsQueued (m : ArenaMap) (queue : List Visit) (d most : ℕ) : Type 0 where
  pub place : ℕ
  pub within : place < length queue
  pub is : dart_in m queue place ≡ d
  pub few : length_in queue place ≤ most
  pub parity : length_in queue place % 2 ≡ most % 2

-- a place of the queue has the slot at the parity
pub record IsInQueue (queue : List Visit) (slot k : ℕ) : Type 0 where
  pub place : ℕ
  pub within : place < length queue
  pub is : slot_in queue place ≡ slot
  pub parity : length_in queue place % 2 ≡ k % 2

-- a walk to d from the dart at a place of the queue
pub record IsLedTo (m : ArenaMap) (d : ℕ) (queue : List Visit) (p : ℕ) : Type 0 where
  pub labels : List ℕ
  pub leads : Leads m d labels (dart_in m queue p)
  pub long : length labels ≡ length_in queue p

-- what the marks and the queue of a search from d hold at any time
pub record IsFound (m : ArenaMap) (d : ℕ) (old marks : List ℕ) (queue : List Visit) : Type 0 where
  pub live : (p : ℕ) → p < length queue → IsLiveSlot m (slot_in queue p)
  pub led : (p : ℕ) → p < length queue → IsLedTo m d queue p
  pub marked : (p : ℕ) → p < length queue → mark_of marks (slot_in queue p) (length_in queue p) ≡ length_in queue p + 1
  pub kept : (place : ℕ) → get_or old place 0 ≢ 0 → get_or marks place 0 ≡ get_or old place 0
  pub only : (slot k : ℕ) → mark_of marks slot k ≢ 0 → (mark_of old slot k ≢ 0) ⊎ IsInQueue queue slot k
  pub low : (p : ℕ) → p < length queue → length_in queue p ≤ p
  pub rising : (p q : ℕ) → p ≤ q → q < length queue → length_in queue p ≤ length_in queue q
  pub counted : length queue + unmarked marks ≡ unmarked old

-- the search from d as far as the label of the dart at a place, before which each label was followed
pub record IsSearching (m : ArenaMap) (d : ℕ) (old : List ℕ) (at label : ℕ) (marks : List ℕ) (queue : List Visit) : Type 0 where
  pub fresh : IsFresh m d old
  pub some : 0 < length queue
  pub starts : (dart_in m queue 0 ≡ d) × (length_in queue 0 ≡ 0)
  pub found : IsFound m d old marks queue
  pub near : (q : ℕ) → at < length queue → q < length queue → length_in queue q ≤ length_in queue at + 1
  pub closed : (q i : ℕ) → IsPairBefore q i at label → q < length queue → i ≤ m.schema.dim → alpha m i (dart_in m queue q) ≢ dart_in m queue q → IsQueued m queue (alpha m i (dart_in m queue q)) (length_in queue q + 1)
