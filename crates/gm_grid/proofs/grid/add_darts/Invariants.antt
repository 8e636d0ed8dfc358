use Rattle.std.proofs.Common.{◌≡◌, ◌+◌, ◌*◌}
use Rattle.gm_grid.specs.inner.Building.{AreAdded}
use Rattle.gm_grid.proofs.grid.add_darts.Given as goal

abbrev pub invariant-loop-square : goal.invariant-loop-square
invariant-loop-square g l = record {
  added : AreAdded l.m (8 * l.square) l.arena;
  cost : l.steps ≡ l.fn.steps + 8 * l.square;
}
