-- What the marks of a search say of the component in which an odd walk is looked for. No public clause cites this module.
use Rattle.std.specs.Prelude.{◌≡◌, ◌≢◌, ℕ, ◌-◌, ◌<◌, ◌≤◌, List, length}
use Rattle.gm_arena.specs.inner.ArenaAsMap.{as_map}
use Rattle.gm_arena.specs.inner.ArenaMap.{ArenaMap, IsAt, IsLiveSlot, name_at, alpha}
use Rattle.gm_cells.specs.Colours.{IsComponentLead, HasColoursAt}
use Rattle.gm_cells.specs.inner.Search.{mark_of, Leads, IsMarkedBy, IsReachedBy}

-- the dart at the slot is the least of the first component with an odd walk, and the marks of this component are distances
pub record IsOddStart (m : ArenaMap) (slot : ℕ) (marks : List ℕ) : Type 0 where
  pub live : IsLiveSlot m slot
  pub lead : IsComponentLead (as_map m) (name_at m slot)
  pub earlier : (d : ℕ) → IsComponentLead (as_map m) d → d < name_at m slot → HasColoursAt (as_map m) d
  pub odd : mark_of marks slot 1 ≢ 0
  pub by : (other k : ℕ) (labels : List ℕ) → IsLiveSlot m other → Leads m (name_at m slot) labels (name_at m other) → mark_of marks other k ≢ 0 → IsMarkedBy m (name_at m slot) marks other k
  pub least : (other : ℕ) (labels : List ℕ) → IsLiveSlot m other → Leads m (name_at m slot) labels (name_at m other) → IsReachedBy marks other (length labels)

-- the label leads to a dart whose mark at the other parity is one less
pub record IsNearer (m : ArenaMap) (marks : List ℕ) (slot mark i : ℕ) : Type 0 where
  pub low : i ≤ m.schema.dim
  pub moves : alpha m i (name_at m slot) ≢ name_at m slot
  pub to : ℕ
  pub there : IsAt m to (alpha m i (name_at m slot))
  pub is : mark_of marks to mark ≡ mark - 1

pub record IsFirstNearer (m : ArenaMap) (marks : List ℕ) (slot mark i : ℕ) : Type 0 where
  pub one : IsNearer m marks slot mark i
  pub before : (j : ℕ) → j < i → IsNearer m marks slot mark j → ⊥
