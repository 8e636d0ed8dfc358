use Rattle.std.proofs.Common.{map, ap, ◌∙◌}
use Rattle.gm_model.specs.Rules.{node_of}
use Rattle.gm_dual.specs.Duals as duals
use Rattle.gm_dual.proofs.MapLemmas.{viewed_all, viewed_more}
use Rattle.gm_dual.proofs.rule.dual_nodes.Goals as goal

pub loop-node-init : goal.loop-node-init
loop-node-init c = ap (map node_of) c.new-made.ensures.items

pub loop-node-preserved : goal.loop-node-preserved
loop-node-preserved c = rw c.in_ok-push.ensures.items (viewed_more node_of c.loop-node.made.items c.in_ok-dual_node.field-0 (duals.dual_node c.args.top) c.args.nodes.now c.loop-node.node-index _ c.loop-node-test.true c.loop-node.invariant (c.in_ok-dual_node.ensures ∙ ap (λ x. duals.dual_node c.args.top (node_of x)) c.node-item.is))

pub returns : goal.returns
returns c = ap (map node_of) c.new.ensures ∙ (c.loop-node.invariant ∙ viewed_all node_of (duals.dual_node c.args.top) c.args.nodes.now c.loop-node.node-index c.loop-node-test.false)
