use Rattle.std.proofs.Common.{map, ap, ◌∙◌}
use Rattle.gm_model.specs.Rules.{rule_of}
use Rattle.gm_dual.specs.Duals as duals
use Rattle.gm_dual.proofs.MapLemmas.{viewed_all, viewed_more}
use Rattle.gm_dual.proofs.book.dual_rules.Goals as goal

pub loop-rule-init : goal.loop-rule-init
loop-rule-init c = ap (map rule_of) c.new-made.ensures.items

pub loop-rule-preserved : goal.loop-rule-preserved
loop-rule-preserved c = rw c.in_ok-push.ensures.items (viewed_more rule_of c.loop-rule.made.items c.in_ok-dual_rule.field-0 (duals.dual_rule c.args.top) c.args.rules.now c.loop-rule.rule-index _ c.loop-rule-test.true c.loop-rule.invariant (c.in_ok-dual_rule.ensures ∙ ap (λ x. duals.dual_rule c.args.top (rule_of x)) c.rule-item.is))

pub returns : goal.returns
returns c = ap (map rule_of) c.new.ensures ∙ (c.loop-rule.invariant ∙ viewed_all rule_of (duals.dual_rule c.args.top) c.args.rules.now c.loop-rule.rule-index c.loop-rule-test.false)
