use Rattle.std.proofs.Common.{◌<◌, length, refl, arith}
use Rattle.std.proofs.lemmas.List.{take_all, length-set}
use Rattle.gm_incident.proofs.Marks.{nothing_marked, marked_more}
use Rattle.gm_incident.proofs.joined.marked.Goals as goal

pub loop-node-init : goal.loop-node-init
loop-node-init c = record { len = refl; marks = λ x. ((λ h. absurd (nothing_marked 32 x h)), (λ h. absurd (omega (arith, h.1)))) }

pub loop-node-preserved : goal.loop-node-preserved
loop-node-preserved c =
    let b : c.loop-node.node-index < length c.args.nodes.now = omega arith in
    record {
      len = rw length-set c.loop-node.invariant.len;
      marks = marked_more c.args.nodes.now c.loop-node.node-index c.loop-node.reached b (rw c.loop-node.invariant.len (c.requires c.loop-node.node-index 0 b)) c.loop-node.invariant.marks;
    }

pub returns : goal.returns
returns c = rw (take_all c.loop-node.node-index c.args.nodes.now c.loop-node-test.false) at c.loop-node.invariant.marks
