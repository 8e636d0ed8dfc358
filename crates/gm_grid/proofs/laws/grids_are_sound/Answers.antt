use Rattle.gm_grid.proofs.GridSound.{is_sound}
use Rattle.gm_grid.proofs.laws.grids_are_sound.Goals as goal

pub returns : goal.returns
returns c m map small grid = is_sound m small map grid
