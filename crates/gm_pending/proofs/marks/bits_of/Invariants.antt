use Rattle.std.proofs.Common.{◌≡◌, ℕ, ◌*◌, ◌<◌, slice_index_or}
use Rattle.std.specs.Int.{bit_at}
use Rattle.gm_pending.specs.inner.Marks.{bit_of}
use Rattle.gm_pending.proofs.marks.bits_of.Given as goal

abbrev pub invariant-loop-slot : goal.invariant-loop-slot
invariant-loop-slot l = (k : ℕ) → k < l.slot-index → bit_at l.bits (bit_of ((slice_index_or l.slots k (record { at = 0 })).at * 2)) ≡ 1
