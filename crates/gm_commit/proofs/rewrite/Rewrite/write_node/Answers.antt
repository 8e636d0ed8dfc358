use Rattle.std.proofs.Common.{◌≡◌, ◌<◌, arith}
use Rattle.gm_commit.specs.inner.InstanceEdits.{told_by, concat_below, labels, arcs_at, made_in}
use Rattle.gm_commit.proofs.on_rewrite.JoinedLists.{contains_concat}
use Rattle.gm_commit.proofs.on_commit.WrittenSoFar.{none_written, more_written, still_writable}
use Rattle.gm_commit.proofs.rewrite.Rewrite.write_node.Goals as goal

pub loop-label-init : goal.loop-label-init
loop-label-init g c = none_written c.args.arena.now (made_in (told_by c.args.self.now) c.args.slots.now) c.args.steps.now

pub write_step-requires-clause-arcs : goal.write_step-requires-clause-arcs
write_step-requires-clause-arcs g c =
    let within : c.loop-label.label < labels (told_by c.args.self.now) = omega (arith, c.loop-label-test.true, c.labels-label-end.ensures) in
    λ arc among. still_writable c.args.arena.now (made_in (told_by c.args.self.now) c.args.slots.now) c.args.steps.now (concat_below (arcs_at (told_by c.args.self.now) c.args.arcs c.args.node) c.loop-label.label) c.loop-label.arena c.loop-label.steps c.loop-label.invariant arc
    (c.requires.arcs arc (contains_concat (arcs_at (told_by c.args.self.now) c.args.arcs c.args.node) (labels (told_by c.args.self.now)) c.loop-label.label arc within among))

pub loop-label-preserved : goal.loop-label-preserved
loop-label-preserved g c = more_written c.args.arena.now (made_in (told_by c.args.self.now) c.args.slots.now) c.args.steps.now (arcs_at (told_by c.args.self.now) c.args.arcs c.args.node) c.loop-label.label c.loop-label.arena c.write_step.new.arena c.loop-label.steps c.write_step.new.steps c.loop-label.invariant c.write_step.ensures.map c.write_step.ensures.cost

pub returns : goal.returns
returns g c =
    let end : c.loop-label.label ≡ labels (told_by c.args.self.now) = omega (arith, c.loop-label-test.false, c.loop-label.auto.label-end, c.labels-label-end.ensures) in
    let written = rw end at c.loop-label.invariant in
    record { map = written.map; cost = written.cost }
