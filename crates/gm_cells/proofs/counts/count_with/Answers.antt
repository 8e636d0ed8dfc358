use Rattle.std.proofs.Common.{subst, sym}
use Rattle.gm_arena.proofs.Keys.{darts_counted}
use Rattle.gm_arena.specs.inner.ArenaAsMap.{as_map}
use Rattle.gm_cells.specs.Cells.{HasCells, HasFreeDarts}
use Rattle.gm_model.specs.Maps.{IsDart}
use Rattle.gm_model.specs.Orbits.{HasCount}
use Rattle.gm_model.proofs.Exits.{unless_ok}
use Rattle.gm_cells.proofs.counts.count_with.Goals as goal

pub returns-clause-counts : goal.returns-clause-counts
returns-clause-counts g c =
    let m = c.args.arena.now in record {
      darts = subst (HasCount (IsDart (as_map m))) (sym c.count-darts.ensures.count) (darts_counted m c.count-darts.ensures.lawful);
      cells = subst (HasCells (as_map m)) (sym c.new.ensures) c.in_ok-cells.ensures.cells;
      components = c.requires.components;
      free = subst (HasFreeDarts (as_map m)) (sym c.new-2.ensures) c.in_ok-free.ensures.free;
    }

pub returns-clause-room : goal.returns-clause-room
returns-clause-room g c = c.count_cells.ensures.room

pub returns-in_err-cells : goal.returns-in_err-cells
returns-in_err-cells g c = record {
  counts = unless_ok _ c.from_residual.result c.from_residual.ensures.0;
  room = c.count_cells.ensures.room;
}

pub returns-in_err-free : goal.returns-in_err-free
returns-in_err-free g c = record {
  counts = unless_ok _ c.from_residual-in_err-free.result c.from_residual-in_err-free.ensures.0;
  room = c.count_cells.ensures.room;
}
