use Rattle.std.proofs.Common.{◌≡◌, ◌<◌, length, arith}
use Rattle.gm_commit.specs.inner.InstanceEdits.{told_by, concat_below, arcs_in, made_in}
use Rattle.gm_commit.proofs.on_rewrite.JoinedLists.{contains_concat}
use Rattle.gm_commit.proofs.on_commit.WrittenSoFar.{none_written, more_written, still_writable}
use Rattle.gm_commit.proofs.rewrite.Rewrite.write.Goals as goal

pub loop-node-init : goal.loop-node-init
loop-node-init g c = none_written c.args.arena.now (made_in (told_by c.args.self.now) c.args.slots.now) c.args.steps.now

pub write_node-requires-clause-arcs : goal.write_node-requires-clause-arcs
write_node-requires-clause-arcs g c =
    let within : c.loop-node.node < length c.args.self.now.made = omega (arith, c.loop-node-test.true, c.nodes-node-end.ensures) in
    λ arc among. still_writable c.args.arena.now (made_in (told_by c.args.self.now) c.args.slots.now) c.args.steps.now (concat_below (arcs_in (told_by c.args.self.now) c.args.arcs) c.loop-node.node) c.loop-node.arena c.loop-node.steps c.loop-node.invariant arc
    (c.requires.arcs arc (contains_concat (arcs_in (told_by c.args.self.now) c.args.arcs) (length c.args.self.now.made) c.loop-node.node arc within among))

pub loop-node-preserved : goal.loop-node-preserved
loop-node-preserved g c = more_written c.args.arena.now (made_in (told_by c.args.self.now) c.args.slots.now) c.args.steps.now (arcs_in (told_by c.args.self.now) c.args.arcs) c.loop-node.node c.loop-node.arena c.write_node.new.arena c.loop-node.steps c.write_node.new.steps c.loop-node.invariant c.write_node.ensures.map c.write_node.ensures.cost

pub returns : goal.returns
returns g c =
    let end : c.loop-node.node ≡ length c.args.self.now.made = omega (arith, c.loop-node-test.false, c.loop-node.auto.node-end, c.nodes-node-end.ensures) in
    let written = rw end at c.loop-node.invariant in
    record { map = written.map; cost = written.cost }
