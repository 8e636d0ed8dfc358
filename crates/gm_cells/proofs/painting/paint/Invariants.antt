use Rattle.std.proofs.Common.{◌≡◌, ◌-◌, length}
use Rattle.gm_arena.specs.inner.ArenaMap.{name_at}
use Rattle.gm_cells.specs.inner.Painted.{IsPainting, unpainted}
use Rattle.gm_cells.proofs.painting.paint.Given as goal

abbrev pub invariant-loop-at : goal.invariant-loop-at
invariant-loop-at g l = record {
  long : length l.colours ≡ length l.fn.colours;
  painting : IsPainting l.arena (name_at l.arena l.fn.from.at) l.fn.colours l.at 0 l.fits l.colours l.queue.items;
}

abbrev pub decreases-loop-at : goal.decreases-loop-at
decreases-loop-at g l = unpainted l.fn.colours - l.at
