use Rattle.gm_tool.specs.Answer.{Cells}
use Rattle.gm_tool.proofs.ArenaMaps.{cells_told}
use Rattle.gm_tool.proofs.Judging.{output_judged}
use Rattle.gm_tool.proofs.cells.told.Goals as goal

pub returns : goal.returns
returns g c bytes version stands =
    output_judged bytes Cells 0 c.in_ok-text.text.items c.reply_within_limit.result (cells_told bytes c.in_ok-text.text.items version c.args.arena.now stands c.in_ok-text.ensures) c.reply_within_limit.ensures
