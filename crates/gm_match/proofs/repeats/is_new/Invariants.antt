use Rattle.std.proofs.Common.{◌≢◌, ℕ, ◌<◌}
use Rattle.std.specs.List.{slice_get}
use Rattle.gm_match.proofs.repeats.is_new.Given as goal

abbrev pub invariant-loop-earlier : goal.invariant-loop-earlier
invariant-loop-earlier l = record { differ : (k : ℕ) → k < l.earlier → slice_get l.slots k ≢ slice_get l.slots l.place }
