use Rattle.gm_commit.specs.inner.InstanceEdits.{told_by, concat_below, removed_in}
use Rattle.gm_commit.proofs.on_commit.WrittenSoFar.{AreGone}
use Rattle.gm_commit.proofs.rewrite.Rewrite.remove.Given as goal

abbrev pub invariant-loop-node : goal.invariant-loop-node
invariant-loop-node g l = AreGone l.fn.arena l.fn.steps (concat_below (removed_in (told_by l.self)) l.node) l.arena l.steps
