use Rattle.std.proofs.Common.{◌≡◌, ◌+◌, ◌*◌}
use Rattle.gm_grid.specs.inner.Building.{AreLinked}
use Rattle.gm_grid.specs.GridMap.{dart}
use Rattle.gm_grid.proofs.grid.link_square.Given as goal

abbrev pub invariant-loop-number : goal.invariant-loop-number
invariant-loop-number g l = record {
  linked : AreLinked l.m (dart l.m l.row l.column l.number) l.arena;
  cost : l.steps ≡ l.fn.steps + 7 * l.number;
}
