use Rattle.std.proofs.Common.{◌≡◌, ◌-◌, length}
use Rattle.gm_arena.specs.inner.ArenaMap.{name_at}
use Rattle.gm_cells.specs.inner.Search.{IsSearching, unmarked}
use Rattle.gm_cells.proofs.search.search.Given as goal

abbrev pub invariant-loop-at : goal.invariant-loop-at
invariant-loop-at g l = record {
  long : length l.marks ≡ length l.fn.marks;
  searching : IsSearching l.arena (name_at l.arena l.fn.from.at) l.fn.marks l.at 0 l.marks l.queue.items;
}

abbrev pub decreases-loop-at : goal.decreases-loop-at
decreases-loop-at g l = unmarked l.fn.marks - l.at
