use Rattle.std.proofs.Common.{◌≡◌}
use Rattle.gm_match.specs.inner.Taken.{IsTaken}
use Rattle.gm_match.proofs.repeats.take_node.Given as goal

abbrev pub invariant-loop-position : goal.invariant-loop-position
invariant-loop-position l = record { taken : IsTaken l.found l.node l.position l.scratch.walked; bound : l.scratch.bound ≡ l.fn.scratch.bound }
