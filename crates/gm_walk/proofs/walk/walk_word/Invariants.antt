use Rattle.std.proofs.Common.{◌≡◌, ◌+◌, ◌-◌, ◌*◌, ◌≤◌, length}
use Rattle.gm_arena.specs.inner.ArenaMap.{name_at}
use Rattle.gm_walk.specs.inner.Walks.{AreLive, IsWalkedTo}
use Rattle.gm_walk.proofs.walk.walk_word.Given as goal

abbrev pub invariant-loop-at : goal.invariant-loop-at
invariant-loop-at g l = record {
  within : l.at ≤ length l.scratch.walked;
  live : AreLive l.arena l.scratch.walked;
  walk : IsWalkedTo l.arena l.word (name_at l.arena l.fn.from.at) l.at l.scratch.walked;
  bound : l.scratch.bound ≡ l.fn.scratch.bound;
  cost : l.steps ≤ l.fn.steps + 4 * (l.arena.schema.dim + 1) * l.at;
  least : l.fn.steps ≤ l.steps;
}

abbrev pub decreases-loop-at : goal.decreases-loop-at
decreases-loop-at g l = l.scratch.bound - l.at
