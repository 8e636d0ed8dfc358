use Rattle.std.proofs.Common.{◌≢◌, ℕ, ◌<◌}
use Rattle.std.specs.List.{slice_get}
use Rattle.gm_match.proofs.repeats.are_apart.Given as goal

abbrev pub invariant-loop-place : goal.invariant-loop-place
invariant-loop-place l = record { differ : (q earlier : ℕ) → q < l.place → earlier < q → slice_get l.slots earlier ≢ slice_get l.slots q }
