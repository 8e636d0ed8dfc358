use Rattle.gm_commit.specs.inner.InstanceEdits.{told_by, concat_below, removed_of}
use Rattle.gm_commit.proofs.on_commit.WrittenSoFar.{AreGone}
use Rattle.gm_commit.proofs.rewrite.Rewrite.remove_node.Given as goal

abbrev pub invariant-loop-position : goal.invariant-loop-position
invariant-loop-position g l = AreGone l.fn.arena l.fn.steps (concat_below (removed_of (told_by l.self) l.node) l.position) l.arena l.steps
