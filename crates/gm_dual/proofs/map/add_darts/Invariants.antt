use Rattle.std.proofs.Common.{◌≡◌, ◌+◌, ◌*◌}
use Rattle.gm_dual.specs.inner.Building.{AreAdded}
use Rattle.gm_dual.proofs.map.add_darts.Given as goal

abbrev pub invariant-loop-name : goal.invariant-loop-name
invariant-loop-name g l = record {
  added : AreAdded l.arena l.names l.name-index l.dual;
  cost : l.steps ≡ l.fn.steps + 3 * l.name-index;
}
