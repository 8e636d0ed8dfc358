use Rattle.std.proofs.Common.{◌≡◌, ℕ, ◌<◌, List, length, get_or}
use Rattle.gm_cells.specs.inner.Search.{IsSearching, nowhere}
use Rattle.gm_cells.proofs.search.visit_neighbours.Given as goal

abbrev pub invariant-loop-label : goal.invariant-loop-label
invariant-loop-label g l = record {
  long : length l.marks ≡ length l.fn.marks;
  within : l.at < length l.queue.items;
  here : get_or l.queue.items l.at nowhere ≡ l.visit;
  searching : (d : ℕ) (old : List ℕ) → IsSearching l.arena d old l.at 0 l.fn.marks l.fn.queue.items → IsSearching l.arena d old l.at l.label l.marks l.queue.items;
}
