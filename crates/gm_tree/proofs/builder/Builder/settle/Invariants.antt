use Rattle.std.proofs.Common.{◌≡◌, length}
use Rattle.gm_model.specs.Trees.{tree_of}
use Rattle.gm_tree.specs.inner.Building.{frames_of, settled}
use Rattle.gm_tree.proofs.builder.Builder.settle.Given as goal

abbrev pub invariant-loop-waiting : goal.invariant-loop-waiting
invariant-loop-waiting l = (settled (frames_of l.self.waiting.items) (tree_of l.operand) ≡ settled (frames_of l.fn.self.waiting.items) (tree_of l.fn.operand)) × (l.self.least ≡ l.fn.self.least)

abbrev pub decreases-loop-waiting : goal.decreases-loop-waiting
decreases-loop-waiting l = length (frames_of l.self.waiting.items)
