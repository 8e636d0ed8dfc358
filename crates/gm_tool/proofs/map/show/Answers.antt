use Rattle.std.proofs.Common.{refl}
use Rattle.gm_tool.specs.Answer.{Show}
use Rattle.gm_tool.proofs.Judging.{map_judged}
use Rattle.gm_tool.proofs.StepWords.{reads_shown, prints_shown}
use Rattle.gm_tool.proofs.map.show.Goals as goal

pub returns-in-Err-clause-judged : goal.returns-in-Err-clause-judged
returns-in-Err-clause-judged g c = map_judged c.args.bytes.items Show c.refused.result refl (c.refused.ensures c.args.bytes.items c.in-Err.ensures.fault)

pub returns-clause-judged : goal.returns-clause-judged
returns-clause-judged g c = c.printed.ensures.judged c.args.bytes.items c.in-Ok.ensures.map

pub returns-in-Err-clause-most : goal.returns-in-Err-clause-most
returns-in-Err-clause-most g c = reads_shown c.args.bytes.items _ _ c.take_map.ensures.most

pub returns-clause-most : goal.returns-clause-most
returns-clause-most g c = prints_shown c.args.bytes.items c.in-Ok.read _ _ _ c.printed.ensures.lawful c.in-Ok.ensures.map c.take_map.ensures.most c.printed.ensures.most
