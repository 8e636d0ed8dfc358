use Rattle.std.proofs.Common.{get_or, ◌≡◌, Some}
use Rattle.std.specs.List.{slice_get}
use Rattle.std.proofs.lemmas.Option.{slice_get-get_or}
use Rattle.gm_model.specs.declared.rule.Link.{Link}
use Rattle.gm_model.proofs.NodeSteps.{link_written, link_passed, is_end-from, is_end-to, is_end-neither, other_end-from, other_end-to}
use Rattle.gm_model.proofs.sides.link_steps.Goals as goal
use Rattle.gm_model.proofs.sides.link_steps.Goals.{then-link-node, else-link-node+then-link-node-2, else-link-node+else-link-node-2}

pub loop-link-preserved : goal.loop-link-preserved
loop-link-preserved c =
    let links = c.args.links.now in
    let x = c.args.node in
    let k = c.loop-link.link-index in
    let link : Link = get_or links k record { from = 0; label = 0; to = 0 } in
    let old = c.loop-link.steps in
    let here : slice_get links k ≡ Some link = slice_get-get_or links k _ c.loop-link-test.true in
    let held = c.loop-link.invariant.same in
    elim c.if-link-node.branch [
      | then-link-node w ↦ rw w.steps-is record {
        len = w.fill.ensures.len;
        same = λ i h. link_written links k x i link.to link old _ here (rw c.loop-link.invariant.len h) w.fill.ensures.after (is_end-from x i link w.if-link-node.true) (other_end-from x link w.if-link-node.true) (held i h);
      }
      | else-link-node+then-link-node-2 w ↦ rw w.steps-is record {
        len = w.fill-then-link-node-2.ensures.len;
        same = λ i h. link_written links k x i link.from link old _ here (rw c.loop-link.invariant.len h) w.fill-then-link-node-2.ensures.after (is_end-to x i link w.if-link-node-2.true) (other_end-to x link w.if-link-node.false) (held i h);
      }
      | else-link-node+else-link-node-2 w ↦ rw w.steps-is record {
        len = c.loop-link.invariant.len;
        same = λ i h. link_passed links k x i link old here (is_end-neither x i link w.if-link-node.false w.if-link-node-2.false) (held i h);
      }
    ]
