use Rattle.gm_mapfile.proofs.OneMap.{one_map}
use Rattle.gm_mapfile.proofs.laws.one_map_at_most.Goals as goal

pub returns : goal.returns
returns c = one_map
