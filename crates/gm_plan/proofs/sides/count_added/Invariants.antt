use Rattle.std.proofs.Common.{◌≡◌, ◌≤◌}
use Rattle.gm_model.specs.Rules.{rule_of}
use Rattle.gm_model.specs.Unfolding.{added_before}
use Rattle.gm_plan.proofs.sides.count_added.Given as goal

abbrev pub invariant-loop-node : goal.invariant-loop-node
invariant-loop-node l = (l.added ≡ added_before (rule_of l.rule) l.node) × (l.added ≤ l.node)
