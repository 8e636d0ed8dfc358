use Rattle.std.proofs.Common.{arith}
use Rattle.gm_mapfile.proofs.building.set_above.Goals as goal

pub set_next-requires-clause-names : goal.set_next-requires-clause-names
set_next-requires-clause-names c name live = omega (arith, c.requires.names name live, c.count.ensures.count)
