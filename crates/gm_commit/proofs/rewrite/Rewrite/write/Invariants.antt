use Rattle.gm_commit.specs.inner.InstanceEdits.{told_by, concat_below, arcs_in, made_in}
use Rattle.gm_commit.proofs.on_commit.WrittenSoFar.{AreWritten}
use Rattle.gm_commit.proofs.rewrite.Rewrite.write.Given as goal

abbrev pub invariant-loop-node : goal.invariant-loop-node
invariant-loop-node g l = AreWritten l.fn.arena (made_in (told_by l.self) l.slots) l.fn.steps (concat_below (arcs_in (told_by l.self) l.arcs) l.node) l.arena l.steps
