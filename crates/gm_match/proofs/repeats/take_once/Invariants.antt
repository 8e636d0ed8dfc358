use Rattle.std.proofs.Common.{◌≡◌}
use Rattle.gm_match.specs.inner.Taken.{IsTaken}
use Rattle.gm_match.proofs.repeats.take_once.Given as goal

abbrev pub invariant-loop-node : goal.invariant-loop-node
invariant-loop-node l = record { taken : IsTaken l.found l.node 0 l.scratch.walked; bound : l.scratch.bound ≡ l.fn.scratch.bound }
