use Rattle.std.proofs.Common.{[], ◌∷◌}
use Rattle.gm_plan.specs.inner.Placed.{turn_at}
use Rattle.gm_commit.specs.inner.InstanceEdits.{told_by, concat_below, arc_between, made_in}
use Rattle.gm_commit.proofs.on_commit.WrittenSoFar.{AreWritten}
use Rattle.gm_commit.proofs.rewrite.Rewrite.link_turns.Given as goal

abbrev pub invariant-loop-position : goal.invariant-loop-position
invariant-loop-position g l = AreWritten l.fn.arena (made_in (told_by l.self) l.slots) l.fn.steps (concat_below (λ p. arc_between (told_by l.self) l.node p l.label (l.node, turn_at l.self.placed p l.place) ∷ []) l.position) l.arena l.steps
