use Rattle.std.proofs.Common.{◌≡◌, replicate, None}
use Rattle.gm_pending.proofs.decided_orbits.no_orbits.Given as goal

abbrev pub invariant-loop : goal.invariant-loop
invariant-loop l = l.orbits.items ≡ replicate l.counter None
