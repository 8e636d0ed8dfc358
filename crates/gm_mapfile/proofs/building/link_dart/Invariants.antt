use Rattle.std.proofs.Common.{◌+◌, ◌*◌, ◌≤◌}
use Rattle.gm_arena.specs.inner.ArenaMap.{IsAt}
use Rattle.gm_mapfile.specs.inner.Building.{IsDartLinked}
use Rattle.gm_mapfile.proofs.building.link_dart.Given as goal

abbrev pub invariant-loop-label : goal.invariant-loop-label
invariant-loop-label g l = record {
  linked : IsDartLinked l.fn.arena.schema.dim l.fn.arena l.arena l.name l.neighbours l.label;
  at : IsAt l.fn.arena l.slot.at l.name;
  most : l.steps ≤ l.fn.steps + 1 + 2 * l.label;
  least : l.fn.steps ≤ l.steps;
}
