use Rattle.std.proofs.Common.{◌≡◌}
use Rattle.gm_match.specs.inner.Taken.{AreApart}
use Rattle.gm_match.proofs.repeats.take_others.Given as goal

abbrev pub invariant-loop-node : goal.invariant-loop-node
invariant-loop-node l = record { apart : AreApart l.found l.first_hook l.node 0 l.scratch.walked; bound : l.scratch.bound ≡ l.fn.scratch.bound }
