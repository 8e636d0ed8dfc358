use Rattle.std.proofs.Common.{◌≡◌, ◌≤◌}
use Rattle.gm_model.specs.Rules.{rule_of}
use Rattle.gm_plan.specs.inner.Counts.{removed_before}
use Rattle.gm_plan.proofs.sides.count_removed.Given as goal

abbrev pub invariant-loop-node : goal.invariant-loop-node
invariant-loop-node l = (l.removed ≡ removed_before (rule_of l.rule) l.node) × (l.removed ≤ l.node)
