use Rattle.std.proofs.Common.{◌<◌}
use Rattle.gm_plan.proofs.Looked.{slot_answered}
use Rattle.gm_plan.proofs.Looked.{looked_up_more}
use Rattle.gm_plan.proofs.lookup.add_node.Goals as goal

pub loop-position-preserved : goal.loop-position-preserved
loop-position-preserved c =
    let placed = c.args.found.now in
    let within : c.loop-position.position < placed.positions = rw (← c.positions-position-end.ensures.value) c.loop-position-test.true in
    looked_up_more placed c.loop-position.instances c.insert.new.self c.args.node c.loop-position.position c.slot.result.at (c.requires.node, within)
    (slot_answered placed c.args.node c.loop-position.position c.slot.result c.slot.ensures) c.in_ok-insert.ensures.updates c.loop-position.invariant
