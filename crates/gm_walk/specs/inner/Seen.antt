-- How orbits are counted and listed: which slots were seen, and the list of the darts at them.
use Rattle.std.specs.Prelude.{◌≡◌, ℕ, ◌<◌, ◌≤◌, ◌⊎◌, ◌↔◌, Bool, List, length, slice_get, slice_index, slice_index_or, Some, false, IsTrue}
use Rattle.std.specs.List.{Contains, count_by}
use Rattle.gm_model.specs.declared.word.Letter.{Letter}
use Rattle.gm_model.specs.declared.word.Letter.TheVariants.{At}
use Rattle.gm_model.specs.Orbits.{Labels, HasCount, HasNoRepeats, IsInOrbit, IsLead}
use Rattle.gm_arena.specs.inner.ArenaMap.{ArenaMap, IsAt, IsLiveName, alpha}
use Rattle.gm_walk.specs.inner.Walks.{along}

-- how many slots were seen
abbrev pub seen_count : List Bool → ℕ
seen_count seen = count_by (λ b. b) seen

-- the darts of the list are those at the slots that were seen, each once
pub record HasSeen (m : ArenaMap) (seen : List Bool) (darts : List ℕ) : Type 0 where
  pub distinct : HasNoRepeats darts
  pub same : (slot d : ℕ) → IsAt m slot d → IsTrue (slice_index_or seen slot false) ↔ Contains darts d
  pub counted : seen_count seen ≡ length darts

-- the letters of the word are the labels of the set
pub record HasLettersOf (o : Labels) (word : List Letter) : Type 0 where
  pub has : (i : ℕ) → IsTrue (o i) → (place : ℕ) × (slice_get word place ≡ Some (At i))
  pub only : (place : ℕ) (letter : Letter) → slice_get word place ≡ Some letter → (i : ℕ) × (letter ≡ At i) × IsTrue (o i)

-- each place of the word leads from a dart of the list to one of its darts
abbrev pub IsClosed : ArenaMap → List Letter → List ℕ → Type 0
IsClosed m word darts = (d place : ℕ) → Contains darts d → place < length word → Contains darts (along m word d place)

-- The new list has d, and nothing after the old one but darts of its orbit. Of each of these it has the neighbours.
pub record HasGrownBy (m : ArenaMap) (word : List Letter) (d : ℕ) (old new : List ℕ) : Type 0 where
  pub longer : length old ≤ length new
  pub front : (p : ℕ) → p < length old → slice_index new p ≡ slice_index old p
  pub there : Contains new d
  pub closed : (p place : ℕ) → length old ≤ p → p < length new → place < length word → Contains new (along m word (slice_index new p) place)
  pub only : (o : Labels) → HasLettersOf o word → (p : ℕ) → length old ≤ p → p < length new → IsInOrbit (alpha m) o d (slice_index new p)

-- The new list has the neighbour of d along the first label, and nothing after the old one but darts to which the two labels
-- lead from d. Of each of these it has both neighbours.
pub record HasFollowed (m : ArenaMap) (first second d : ℕ) (old new : List ℕ) : Type 0 where
  pub longer : length old ≤ length new
  pub front : (p : ℕ) → p < length old → slice_index new p ≡ slice_index old p
  pub there : Contains new (alpha m first d)
  pub closed : (p i : ℕ) → length old ≤ p → p < length new → (i ≡ first) ⊎ (i ≡ second) → Contains new (alpha m i (slice_index new p))
  pub only : (o : Labels) → IsTrue (o first) → IsTrue (o second) → (p : ℕ) → length old ≤ p → p < length new → IsInOrbit (alpha m) o d (slice_index new p)

-- d is the least dart of an orbit and was met
abbrev pub IsMetLead : ArenaMap → Labels → List ℕ → ℕ → Type 0
IsMetLead m o darts d = IsLead (IsLiveName m) (alpha m) o d × Contains darts d

-- the darts that were met are live, and are this many whole orbits
pub record HasMet (m : ArenaMap) (o : Labels) (word : List Letter) (darts : List ℕ) (count : ℕ) : Type 0 where
  pub closed : IsClosed m word darts
  pub live : (d : ℕ) → Contains darts d → IsLiveName m d
  pub leads : HasCount (IsMetLead m o darts) count
