use Rattle.gm_commit.specs.inner.InstanceEdits.{told_by, concat_below, arcs_at, made_in}
use Rattle.gm_commit.proofs.on_commit.WrittenSoFar.{AreWritten}
use Rattle.gm_commit.proofs.rewrite.Rewrite.write_node.Given as goal

abbrev pub invariant-loop-label : goal.invariant-loop-label
invariant-loop-label g l = AreWritten l.fn.arena (made_in (told_by l.self) l.slots) l.fn.steps (concat_below (arcs_at (told_by l.self) l.arcs l.node) l.label) l.arena l.steps
