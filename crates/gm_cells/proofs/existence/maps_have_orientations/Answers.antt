use Rattle.gm_cells.proofs.OrientationFound.{orientation_exists}
use Rattle.gm_cells.proofs.existence.maps_have_orientations.Goals as goal

pub returns : goal.returns
returns c = orientation_exists
