use Rattle.std.proofs.Common.{below_more, arith}
use Rattle.gm_model.specs.declared.rule.Side.TheVariants.{Left}
use Rattle.gm_model.specs.Rules.{rule_of}
use Rattle.gm_plan.proofs.LeftNodes.{no_word, some_word, left_counted}
use Rattle.gm_theory.proofs.RuleSteps.{word_below}
use Rattle.gm_plan.proofs.sides.count_left.Goals as goal

pub returns-then-is_none : goal.returns-then-is_none
returns-then-is_none c = left_counted (rule_of c.args.rule.now) _ c.requires.left_first c.loop-node.invariant (no_word (rule_of c.args.rule.now) _ _ c.word.ensures c.if-is_none.ensures)

pub loop-node-preserved : goal.loop-node-preserved
loop-node-preserved c = below_more _ _ c.loop-node.invariant (some_word (rule_of c.args.rule.now) _ _ c.word.ensures c.if-is_none.ensures)

pub returns : goal.returns
returns c = left_counted (rule_of c.args.rule.now) _ c.requires.left_first (λ x b. c.loop-node.invariant x (omega arith)) (λ w. omega (arith, word_below (rule_of c.args.rule.now) Left c.node_count.result w))
