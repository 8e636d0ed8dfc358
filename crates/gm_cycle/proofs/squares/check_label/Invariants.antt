use Rattle.gm_model.specs.Rules.{rule_of}
use Rattle.gm_cycle.specs.inner.NodeSquares.{HasLabelSquares}
use Rattle.gm_cycle.proofs.squares.check_label.Given as goal

abbrev pub invariant-loop-j : goal.invariant-loop-j
invariant-loop-j l = HasLabelSquares (rule_of l.rule) l.node l.i l.j
