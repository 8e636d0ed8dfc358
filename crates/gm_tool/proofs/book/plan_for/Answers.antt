use Rattle.gm_model.specs.Rules.{rule_of}
use Rattle.gm_tool.proofs.Stopping.{rule_stopped}
use Rattle.gm_tool.proofs.Verdicts.{fault_without_plan, fault_speaks}
use Rattle.gm_tool.proofs.book.plan_for.Goals as goal

pub refused_rule_line-requires : goal.refused_rule_line-requires
refused_rule_line-requires c =
    fault_speaks c.args.schema.now (rule_of c.args.rule.now) c.requires c.in-Err-Rule.fault
    (fault_without_plan c.args.schema.now (rule_of c.args.rule.now) c.in-Err-Rule.fault (rw c.in-Err-Rule.field-0-is at c.in-Err-Rule.ensures))

pub returns-in-Err-Rule-clause-stop : goal.returns-in-Err-Rule-clause-stop
returns-in-Err-Rule-clause-stop c =
    rule_stopped c.args.schema.now (rule_of c.args.rule.now) c.in-Err-Rule.fault c.refused_rule_line.result c.because.result
    (fault_without_plan c.args.schema.now (rule_of c.args.rule.now) c.in-Err-Rule.fault (rw c.in-Err-Rule.field-0-is at c.in-Err-Rule.ensures)) c.refused_rule_line.ensures c.because.ensures
