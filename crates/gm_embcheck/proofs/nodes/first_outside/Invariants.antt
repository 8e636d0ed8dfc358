use Rattle.std.proofs.Common.{ℕ, ◌<◌}
use Rattle.gm_model.specs.Rules.{rule_of}
use Rattle.gm_embcheck.specs.inner.NodeSets.{IsPreservedOutside}
use Rattle.gm_embcheck.proofs.nodes.first_outside.Given as goal

abbrev pub invariant-loop-node : goal.invariant-loop-node
invariant-loop-node l = (x : ℕ) → x < l.node → IsPreservedOutside (rule_of l.rule) l.component l.left x → ⊥
