use Rattle.std.proofs.Common.{◌≡◌, ◌+◌}
use Rattle.gm_grid.specs.inner.Building.{AreAdded}
use Rattle.gm_grid.specs.GridMap.{dart}
use Rattle.gm_grid.proofs.grid.add_square.Given as goal

abbrev pub invariant-loop-number : goal.invariant-loop-number
invariant-loop-number g l = record {
  added : AreAdded l.m (dart l.m l.row l.column l.number) l.arena;
  cost : l.steps ≡ l.fn.steps + l.number;
}
