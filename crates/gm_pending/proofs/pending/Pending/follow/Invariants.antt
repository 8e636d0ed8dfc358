use Rattle.std.proofs.Common.{ℕ, ◌+◌, ◌-◌, ◌≤◌, List, length}
use Rattle.gm_theory.specs.inner.Theorem.{Unfolded}
use Rattle.gm_walk.specs.declared.mark.Mark.{Mark}
use Rattle.gm_pending.specs.inner.Marks.{HasKey}
use Rattle.gm_walk.specs.inner.Keys.{key_of}
use Rattle.gm_pending.specs.inner.ReachedDarts.{AreResultDarts, IsFollowedBut, LeadsBackOnly}
use Rattle.gm_pending.specs.inner.Results.{IsResultDart, IsUnfoldedIn, name_of}
use Rattle.gm_pending.proofs.pending.Pending.follow.Given as goal

abbrev pub invariant-loop-to : goal.invariant-loop-to
invariant-loop-to g l = record {
  darts : AreResultDarts l.self l.marks;
  dart : IsResultDart l.self l.at;
  here : HasKey l.marks (key_of l.at);
  begun : HasKey l.marks (key_of l.fn.from);
  followed : (result : Unfolded) (before : List Mark) (m : ℕ) → IsUnfoldedIn l.self result → IsFollowedBut l.self l.declared result before l.fn.marks l.index (name_of l.self l.fn.from) (name_of l.self l.fn.from) l.fn.first m → IsFollowedBut l.self l.declared result before l.marks l.index (name_of l.self l.fn.from) (name_of l.self l.at) l.fn.second m;
  ends : LeadsBackOnly l.self l.marks l.fn.from l.at l.fn.second;
  cost : l.steps + length l.fn.marks ≤ l.fn.steps + length l.marks;
  longer : length l.fn.marks ≤ length l.marks;
  least : l.fn.steps ≤ l.steps;
}

abbrev pub decreases-loop-to : goal.decreases-loop-to
decreases-loop-to g l = 18446744073709551616 - length l.marks
