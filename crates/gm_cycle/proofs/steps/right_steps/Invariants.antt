use Rattle.std.proofs.Common.{◌≡◌, length}
use Rattle.gm_model.specs.Rules.{rule_of}
use Rattle.gm_cycle.specs.inner.StepRows.{HasRows}
use Rattle.gm_cycle.proofs.steps.right_steps.Given as goal

abbrev pub invariant-loop-node : goal.invariant-loop-node
invariant-loop-node l = record {
  len : length l.rows ≡ 32;
  rows : HasRows (rule_of l.rule) l.rows l.node;
}
