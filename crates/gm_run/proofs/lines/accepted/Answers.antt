use Rattle.gm_run.proofs.Advancing.{rule_accepted_here}
use Rattle.gm_run.proofs.lines.accepted.Goals as goal

pub returns-clause-rule : goal.returns-clause-rule
returns-clause-rule c = rule_accepted_here c.args.plans.now c.args.arena.now c.args.rule c.index-plans-rule.result c.requires.named c.index-plans-rule.is c.requires.plans c.count.ensures.lawful c.rule.ensures.planned

pub returns-clause-lawful : goal.returns-clause-lawful
returns-clause-lawful c = c.count.ensures.lawful
