use Rattle.std.proofs.Common.{ℕ, ◌<◌}
use Rattle.gm_model.specs.Rules.{rule_of}
use Rattle.gm_cycle.proofs.Firsts.{HasSquaresAt}
use Rattle.gm_cycle.proofs.check.Given as goal

abbrev pub invariant-loop-node : goal.invariant-loop-node
invariant-loop-node l = (x : ℕ) → x < l.node → HasSquaresAt l.top (rule_of l.rule) x
