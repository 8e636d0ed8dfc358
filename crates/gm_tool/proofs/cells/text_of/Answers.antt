use Rattle.gm_arena.specs.inner.ArenaAsMap.{as_map}
use Rattle.gm_tool.proofs.ArenaMaps.{tells_cells}
use Rattle.gm_tool.proofs.cells.text_of.Goals as goal

pub returns : goal.returns
returns g c = tells_cells (as_map c.args.arena.now) c.in_ok-found.found.0 c.in_ok-found.found.1 c.in_ok-found.ensures.counts c.in_ok-found.ensures.orientation c.print_cells.result c.print_cells.ensures
