use Rattle.std.proofs.Common.{◌<◌, sym, subst, ◌∙◌}
use Rattle.gm_model.specs.Rules.{rule_of}
use Rattle.gm_plan.proofs.Changed.{none_freed}
use Rattle.gm_plan.proofs.changes.FreedStepAt.step_at.Goals as goal

pub returns-then-not-has_word : goal.returns-then-not-has_word
returns-then-not-has_word c = none_freed (rule_of c.args.self.now.rule.now) c.args.node c.args.label (sym c.has_word.ensures ∙ c.if-not-has_word.true)

pub bounds-self-node : goal.bounds-self-node
bounds-self-node c = subst (λ n. c.args.node < n) (sym c.requires.node.0.long) c.requires.node.1

pub bounds-self-label : goal.bounds-self-label
bounds-self-label c = c.requires.label
