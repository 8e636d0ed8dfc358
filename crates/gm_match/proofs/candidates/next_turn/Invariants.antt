use Rattle.std.proofs.Common.{ℕ, ◌-◌, ◌≤◌, length}
use Rattle.gm_match.specs.inner.Layout.{IsFirstTo}
use Rattle.gm_match.proofs.candidates.next_turn.Given as goal

abbrev pub invariant-loop-turn : goal.invariant-loop-turn
invariant-loop-turn l = (k : ℕ) → IsFirstTo l.turns l.position k → l.turn ≤ k

abbrev pub decreases-loop-turn : goal.decreases-loop-turn
decreases-loop-turn l = length l.turns - l.turn
