use Rattle.std.proofs.lemmas.Result.{err_from_is_err_and}
use Rattle.gm_model.specs.Acceptance.{Incidence}
use Rattle.gm_model.specs.Rules.{rule_of}
use Rattle.gm_tool.proofs.Verdicts.{checked_sources}
use Rattle.gm_tool.proofs.check.check_rule.Goals as goal

pub returns-in_err-check : goal.returns-in_err-check
returns-in_err-check c =
    let p = err_from_is_err_and c.from_residual.result c.from_residual.ensures.1 in
    rw (p.1, p.2) (Incidence c.in_err-check.ensures)

pub returns : goal.returns
returns c = checked_sources c.args.schema.now (rule_of c.args.rule.now) c.requires c.in_ok-check.ensures c.in_ok-check-2.ensures c.check-3.result c.check-3.ensures
