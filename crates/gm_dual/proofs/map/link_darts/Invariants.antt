use Rattle.std.proofs.Common.{◌≡◌, ◌+◌, ◌*◌}
use Rattle.gm_dual.specs.inner.Building.{AreLinked}
use Rattle.gm_dual.proofs.map.link_darts.Given as goal

abbrev pub invariant-loop-name : goal.invariant-loop-name
invariant-loop-name g l = record {
  linked : AreLinked l.arena l.names l.name-index l.dual;
  cost : l.steps ≡ l.fn.steps + l.name-index * (3 * l.arena.schema.dim + 6);
}
