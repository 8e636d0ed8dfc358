use Rattle.gm_plan.specs.inner.Lookup.{IsLookupUpTo}
use Rattle.gm_plan.proofs.lookup.add_node.Given as goal

abbrev pub invariant-loop-position : goal.invariant-loop-position
invariant-loop-position l = IsLookupUpTo l.found l.instances l.node l.position
