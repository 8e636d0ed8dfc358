use Rattle.gm_grid.proofs.GridFound.{grid_found}
use Rattle.gm_grid.proofs.laws.grids_exist.Goals as goal

pub returns : goal.returns
returns c = grid_found
