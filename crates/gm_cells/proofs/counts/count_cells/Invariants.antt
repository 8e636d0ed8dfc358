use Rattle.std.proofs.Common.{◌≡◌, ℕ, ◌+◌, ◌*◌, ◌<◌, ◌≤◌, get_or, length}
use Rattle.gm_arena.specs.inner.ArenaAsMap.{as_map}
use Rattle.gm_cells.specs.Cells.{HasCellsOf}
use Rattle.gm_cells.proofs.counts.count_cells.Given as goal

abbrev pub invariant-loop-label : goal.invariant-loop-label
invariant-loop-label g l = record {
  one_each : length l.cells.items ≡ l.label;
  each : (i : ℕ) → i < l.label → HasCellsOf (as_map l.arena) i (get_or l.cells.items i 0);
  cost : l.steps ≤ l.fn.steps + l.label * (8 * (l.arena.schema.dim + 1) * l.arena.count);
  least : l.fn.steps ≤ l.steps;
  room : l.fn.scratch.bound ≤ l.scratch.bound;
}
