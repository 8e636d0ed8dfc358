use Rattle.std.proofs.Common.{◌≢◌, ℕ, ◌<◌, slice_index_or}
use Rattle.gm_plan.proofs.lookup.instance_at.Given as goal

abbrev pub invariant-loop-place : goal.invariant-loop-place
invariant-loop-place l = (k : ℕ) → k < l.place → (slice_index_or l.found.slots k (record { at = 0 })).at ≢ l.slot.at
