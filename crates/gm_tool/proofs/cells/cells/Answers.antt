use Rattle.std.proofs.Common.{refl}
use Rattle.gm_tool.specs.Answer.{Cells}
use Rattle.gm_tool.proofs.Judging.{map_judged}
use Rattle.gm_tool.proofs.cells.cells.Goals as goal

pub returns-in-Err : goal.returns-in-Err
returns-in-Err g c = map_judged c.args.bytes.items Cells c.refused.result refl (c.refused.ensures c.args.bytes.items c.in-Err.ensures.fault)

pub returns : goal.returns
returns g c = c.told.ensures c.args.bytes.items c.in-Ok.read.version c.in-Ok.ensures.map
