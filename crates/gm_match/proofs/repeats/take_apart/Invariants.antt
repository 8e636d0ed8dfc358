use Rattle.std.proofs.Common.{◌≡◌, ℕ}
use Rattle.gm_match.specs.inner.Taken.{AreApart}
use Rattle.gm_match.proofs.repeats.take_apart.Given as goal

abbrev pub invariant-loop-position : goal.invariant-loop-position
invariant-loop-position l = record { apart : (hook : ℕ) → AreApart l.found hook l.node 0 l.fn.scratch.walked → AreApart l.found hook l.node l.position l.scratch.walked; bound : l.scratch.bound ≡ l.fn.scratch.bound }
