use Rattle.std.proofs.Common.{ℕ, ◌<◌}
use Rattle.gm_model.specs.declared.rule.Side.TheVariants.{Left}
use Rattle.std.specs.Prelude.{IsTrue}
use Rattle.gm_model.specs.Rules.{rule_of, has_word}
use Rattle.gm_plan.proofs.sides.count_left.Given as goal

abbrev pub invariant-loop-node : goal.invariant-loop-node
invariant-loop-node l = (x : ℕ) → x < l.node → IsTrue (has_word (rule_of l.rule) Left x)
