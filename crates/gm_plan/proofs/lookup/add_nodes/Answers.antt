use Rattle.std.proofs.Common.{◌<◌, subst}
use Rattle.gm_plan.proofs.lookup.add_nodes.Goals as goal

pub loop-node-init : goal.loop-node-init
loop-node-init c = c.requires.none

pub add_node-requires-clause-node : goal.add_node-requires-clause-node
add_node-requires-clause-node c = subst (λ n. c.loop-node.node < n) c.requires.nodes c.loop-node-test.true

pub add_node-requires-clause-earlier : goal.add_node-requires-clause-earlier
add_node-requires-clause-earlier c = c.loop-node.invariant

pub loop-node-preserved : goal.loop-node-preserved
loop-node-preserved c = c.in_ok-add_node.ensures
