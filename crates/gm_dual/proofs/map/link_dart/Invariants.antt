use Rattle.std.proofs.Common.{◌≡◌, ◌+◌, ◌*◌, Some}
use Rattle.std.specs.FinMap.{get}
use Rattle.gm_arena.specs.inner.ArenaMap.{Dart, name_at}
use Rattle.gm_dual.specs.inner.Building.{IsAllBut, IsLinkedTo}
use Rattle.gm_dual.proofs.map.link_dart.Given as goal

abbrev pub invariant-loop-label : goal.invariant-loop-label
invariant-loop-label g l = record {
  but : IsAllBut (name_at l.arena l.fn.from.at) l.fn.dual l.dual;
  linked : (dart : Dart) × (now : Dart) × (get l.arena.darts (name_at l.arena l.fn.from.at) ≡ Some dart) × (get l.dual.darts (name_at l.arena l.fn.from.at) ≡ Some now) × IsLinkedTo l.arena.schema.dim l.label dart now;
  cost : l.steps ≡ l.fn.steps + (3 * l.label + 1);
}
