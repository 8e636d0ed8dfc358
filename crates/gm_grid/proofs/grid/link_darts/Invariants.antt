use Rattle.std.proofs.Common.{◌≡◌, ◌+◌, ◌*◌}
use Rattle.gm_grid.specs.inner.Building.{AreLinked}
use Rattle.gm_grid.proofs.grid.link_darts.Given as goal

abbrev pub invariant-loop-square : goal.invariant-loop-square
invariant-loop-square g l = record {
  linked : AreLinked l.m (8 * l.square) l.arena;
  cost : l.steps ≡ l.fn.steps + 56 * l.square;
}
