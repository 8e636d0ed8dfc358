use Rattle.std.proofs.Common.{◌≡◌, ◌<◌, ℕ, Some}
use Rattle.std.specs.List.{slice_get}
use Rattle.gm_model.specs.declared.rule.Node.{Node}
use Rattle.gm_plan.specs.inner.Collecting.{SetsCollect}
use Rattle.gm_plan.proofs.collecting.has_collectors.Given as goal

-- the assignments of no earlier node collect
abbrev pub invariant-loop-node : goal.invariant-loop-node
invariant-loop-node l = (x : ℕ) (node : Node) → x < l.node-index → slice_get l.rule.nodes x ≡ Some node → SetsCollect node.sets l.embed → ⊥
