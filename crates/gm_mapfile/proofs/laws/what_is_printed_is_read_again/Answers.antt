use Rattle.gm_mapfile.proofs.Again.{printed_again}
use Rattle.gm_mapfile.proofs.Listed.{listed_good}
use Rattle.gm_mapfile.proofs.laws.what_is_printed_is_read_again.Goals as goal

pub returns : goal.returns
returns c = printed_again listed_good
