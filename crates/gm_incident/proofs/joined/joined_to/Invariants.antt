use Rattle.std.proofs.Common.{ℕ}
use Rattle.std.specs.List.{Contains}
use Rattle.gm_incident.specs.inner.Reached.{IsReached, unreached, IsJoinedToHook}
use Rattle.gm_incident.proofs.joined.joined_to.Given as goal

abbrev pub invariant-loop : goal.invariant-loop
invariant-loop l = record {
  hooks : (x : ℕ) → Contains l.hooks x → IsReached l.reached x;
  joined : (x : ℕ) → IsReached l.reached x → IsJoinedToHook l.links l.hooks x;
}

abbrev pub decreases-loop : goal.decreases-loop
decreases-loop l = unreached l.reached
