use Rattle.std.proofs.Common.{◌≡◌, ℕ, ◌<◌, ◌↔◌, length}
use Rattle.gm_model.specs.Components.{IsAssigned}
use Rattle.gm_model.specs.Rules.{rule_of}
use Rattle.gm_embcheck.specs.inner.NodeSets.{IsIn}
use Rattle.gm_plan.proofs.sources.assigned_nodes.Given as goal

abbrev pub invariant-loop-node : goal.invariant-loop-node
invariant-loop-node l = record {
  long : length l.nodes ≡ 32;
  done : (x : ℕ) → x < l.node → IsIn l.nodes x ↔ IsAssigned (rule_of l.rule) l.embed x;
}
