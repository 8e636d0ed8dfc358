use Rattle.std.proofs.Common.{◌≡◌, false}
use Rattle.gm_model.specs.Rules.{rule_of, is_removed}
use Rattle.gm_plan.proofs.Bits.{AreTold}
use Rattle.gm_plan.proofs.changes.nodes_removed.Given as goal

abbrev pub invariant-loop-node : goal.invariant-loop-node
invariant-loop-node l = AreTold (λ x. is_removed (rule_of l.rule) x ≡ false) l.node l.goes
