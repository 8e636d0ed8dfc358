-- How a walk turns: from each of its places, along each place of the word, to a place of the walk.
use Rattle.std.specs.Prelude.{◌≡◌, ℕ, ◌+◌, ◌*◌, ◌<◌, List, length, slice_index}
use Rattle.gm_model.specs.declared.word.Letter.{Letter}
use Rattle.gm_model.specs.Orbits.{IsWalkTo}
use Rattle.gm_arena.specs.inner.ArenaMap.{ArenaMap}
use Rattle.gm_walk.specs.inner.Cells.{AreFirstCells}
use Rattle.gm_walk.specs.inner.Walks.{along}

-- at place q of the walk is the neighbour at place l of the dart at place p
pub record IsTurn (m : ArenaMap) (word : List Letter) (walk : List ℕ) (p l q : ℕ) : Type 0 where
  pub within : q < length walk
  pub leads : slice_index walk q ≡ along m word (slice_index walk p) l

-- The walk from d was broken off: it goes as far as place l of the word from its place p, and has the turns before that one.
pub record IsBrokenOff (m : ArenaMap) (word : List Letter) (d : ℕ) (walk turns : List ℕ) : Type 0 where
  pub p : ℕ
  pub l : ℕ
  pub walk_to : IsWalkTo (along m word) (length word) d p (l + 1) walk
  pub turns_to : length turns ≡ p * length word + l
  pub turns_are : AreFirstCells (IsTurn m word walk) (length word) turns
