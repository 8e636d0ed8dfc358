use Rattle.std.proofs.Common.{◌≡◌, ◌+◌, ◌-◌, ◌*◌, ◌≤◌, length}
use Rattle.gm_arena.specs.inner.ArenaMap.{name_at}
use Rattle.gm_walk.specs.inner.Cells.{AreCells}
use Rattle.gm_walk.specs.inner.Turns.{IsTurn}
use Rattle.gm_walk.specs.inner.Walks.{AreLive, IsWalkedTo, names_of}
use Rattle.gm_walk.proofs.turns.walk_turns.Given as goal

abbrev pub invariant-loop-at : goal.invariant-loop-at
invariant-loop-at g l = record {
  within : l.at ≤ length l.scratch.walked;
  live : AreLive l.arena l.scratch.walked;
  walk : IsWalkedTo l.arena l.word (name_at l.arena l.fn.from.at) l.at l.scratch.walked;
  cells : AreCells (IsTurn l.arena l.word (names_of l.arena l.scratch.walked)) l.at (length l.word) l.turns.items;
  bound : l.scratch.bound ≡ l.fn.scratch.bound;
  cost : l.steps ≤ l.fn.steps + l.at * length l.word;
  least : l.fn.steps ≤ l.steps;
}

abbrev pub decreases-loop-at : goal.decreases-loop-at
decreases-loop-at g l = l.scratch.bound - l.at
