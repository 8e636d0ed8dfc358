use Rattle.std.proofs.Common.{◌+◌}
use Rattle.gm_model.specs.Rules.{rule_of}
use Rattle.gm_cycle.specs.inner.NodeSquares.{HasNodeSquares}
use Rattle.gm_cycle.proofs.squares.check_node.Given as goal

abbrev pub invariant-loop-label : goal.invariant-loop-label
invariant-loop-label l = HasNodeSquares (rule_of l.rule) l.node l.label (l.top + 1)
