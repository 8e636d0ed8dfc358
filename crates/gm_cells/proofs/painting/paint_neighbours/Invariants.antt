use Rattle.std.proofs.Common.{◌≡◌, ℕ, ◌<◌, List, length, get_or}
use Rattle.gm_cells.specs.inner.Painted.{IsPainting, colour_in, no_place}
use Rattle.gm_cells.proofs.painting.paint_neighbours.Given as goal

abbrev pub invariant-loop-to : goal.invariant-loop-to
invariant-loop-to g l = record {
  long : length l.colours ≡ length l.fn.colours;
  within : l.at < length l.queue.items;
  here : get_or l.queue.items l.at no_place ≡ l.slot;
  own : colour_in l.colours l.slot.at ≡ l.own;
  painting : (d : ℕ) (old : List ℕ) → IsPainting l.arena d old l.at 0 l.fn.fits l.fn.colours l.fn.queue.items → IsPainting l.arena d old l.at l.to-index l.fits l.colours l.queue.items;
}
