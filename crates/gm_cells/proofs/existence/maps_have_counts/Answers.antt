use Rattle.gm_cells.proofs.CountsFound.{counts_exist}
use Rattle.gm_cells.proofs.existence.maps_have_counts.Goals as goal

pub returns : goal.returns
returns c = counts_exist
