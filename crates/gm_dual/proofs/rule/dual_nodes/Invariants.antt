use Rattle.std.proofs.Common.{◌≡◌, map, take}
use Rattle.gm_model.specs.Rules.{node_of}
use Rattle.gm_dual.specs.Duals as duals
use Rattle.gm_dual.proofs.rule.dual_nodes.Given as goal

abbrev pub invariant-loop-node : goal.invariant-loop-node
invariant-loop-node l = map node_of l.made.items ≡ map (duals.dual_node l.top) (map node_of (take l.node-index l.nodes))
