use Rattle.std.proofs.Common.{◌≡◌, ◌<◌, length, arith}
use Rattle.gm_commit.specs.inner.InstanceEdits.{told_by, removed_in}
use Rattle.gm_commit.proofs.on_commit.WrittenSoFar.{none_gone, more_gone, can_go_on}
use Rattle.gm_commit.proofs.rewrite.Rewrite.remove.Goals as goal

pub loop-node-init : goal.loop-node-init
loop-node-init g c = none_gone c.args.arena.now c.args.steps.now

pub remove_node-requires : goal.remove_node-requires
remove_node-requires g c =
    let within : c.loop-node.node < length c.args.self.now.made = omega (arith, c.loop-node-test.true, c.nodes-node-end.ensures) in
    record { node = within; can = can_go_on c.args.arena.now c.args.steps.now (removed_in (told_by c.args.self.now)) (length c.args.self.now.made) c.loop-node.node c.loop-node.arena c.loop-node.steps within c.requires c.loop-node.invariant }

pub loop-node-preserved : goal.loop-node-preserved
loop-node-preserved g c = more_gone c.args.arena.now c.args.steps.now (removed_in (told_by c.args.self.now)) c.loop-node.node c.loop-node.arena c.remove_node.new.arena c.loop-node.steps c.remove_node.new.steps c.loop-node.invariant c.remove_node.ensures.map c.remove_node.ensures.cost

pub returns : goal.returns
returns g c =
    let end : c.loop-node.node ≡ length c.args.self.now.made = omega (arith, c.loop-node-test.false, c.loop-node.auto.node-end, c.nodes-node-end.ensures) in
    let gone = rw end at c.loop-node.invariant in
    record { map = gone.map; cost = gone.cost }
