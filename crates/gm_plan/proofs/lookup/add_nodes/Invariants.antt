use Rattle.gm_plan.specs.inner.Lookup.{IsLookupUpTo}
use Rattle.gm_plan.proofs.lookup.add_nodes.Given as goal

abbrev pub invariant-loop-node : goal.invariant-loop-node
invariant-loop-node l = IsLookupUpTo l.found l.instances l.node 0
