use Rattle.gm_cells.proofs.OneAnswer.{one_orientation}
use Rattle.gm_cells.proofs.laws.one_orientation_at_most.Goals as goal

pub returns : goal.returns
returns c = one_orientation
