use Rattle.std.proofs.Common.{ℕ, ◌<◌, ◌≤◌}
use Rattle.gm_model.specs.Rules.{rule_of}
use Rattle.gm_embcheck.specs.inner.NodeSets.{IsAssignedIn}
use Rattle.gm_embcheck.proofs.nodes.first_assigned.Given as goal

abbrev pub invariant-loop-node : goal.invariant-loop-node
invariant-loop-node l = (x : ℕ) → l.start ≤ x → x < l.node → IsAssignedIn (rule_of l.rule) l.embed l.component x → ⊥
