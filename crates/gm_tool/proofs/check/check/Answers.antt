use Rattle.std.proofs.Common.{refl, map}
use Rattle.gm_model.specs.Rules.{rule_of}
use Rattle.gm_tool.specs.Answer.{Check}
use Rattle.gm_tool.proofs.Judging.{book_judged, check_judged}
use Rattle.gm_tool.proofs.ReadBooks.{checkable_rules}
use Rattle.gm_tool.proofs.check.check.Goals as goal

pub report-requires : goal.report-requires
report-requires c = checkable_rules c.args.bytes.now c.in-Ok.book c.in-Ok.ensures.book c.in-Ok.ensures.schema

pub returns-in-Ok : goal.returns-in-Ok
returns-in-Ok c = check_judged c.args.bytes.now c.in-Ok.book.version c.in-Ok.book.schema (map rule_of c.in-Ok.book.rules) c.report.result c.in-Ok.ensures.book c.report.ensures

pub returns-in-Err : goal.returns-in-Err
returns-in-Err c = book_judged c.args.bytes.now Check c.in-Err.fault c.refused.result refl c.in-Err.ensures.fault c.refused.ensures
