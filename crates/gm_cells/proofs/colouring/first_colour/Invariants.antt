use Rattle.std.proofs.Common.{◌-◌, ◌≤◌}
use Rattle.gm_arena.specs.inner.ArenaAsMap.{as_map}
use Rattle.gm_arena.specs.inner.Lawful.{IsLawful}
use Rattle.gm_model.specs.Maps.{IsGeneralised}
use Rattle.gm_cells.specs.inner.Ascending.{IsAscendingOf}
use Rattle.gm_cells.proofs.ColouredLemmas.{IsOfFirst}
use Rattle.gm_cells.proofs.colouring.first_colour.Given as goal

abbrev pub invariant-loop-slot : goal.invariant-loop-slot
invariant-loop-slot g l = record {
  low : l.from ≤ l.arena.next;
  listed : (lawful : IsLawful l.arena) (gmap : IsGeneralised (as_map l.arena)) → IsAscendingOf (IsOfFirst l.arena lawful gmap l.colours) l.from l.first.items;
}

abbrev pub decreases-loop-slot : goal.decreases-loop-slot
decreases-loop-slot g l = l.arena.next - l.from
