use Rattle.std.proofs.Common.{◌≡◌, ◌≢◌, ℕ, ◌+◌, ◌<◌, ◌≤◌, length, get_or}
use Rattle.gm_cells.specs.inner.Painted.{queued_at}
use Rattle.gm_cells.proofs.free.add_dart.Given as goal

abbrev pub invariant-loop-label : goal.invariant-loop-label
invariant-loop-label l = record {
  long : length l.free ≡ length l.fn.free;
  own : (i : ℕ) → i < l.label → queued_at l.alphas i ≡ l.slot.at → get_or l.free i 0 ≡ get_or l.fn.free i 0 + 1;
  other : (i : ℕ) → i < l.label → queued_at l.alphas i ≢ l.slot.at → get_or l.free i 0 ≡ get_or l.fn.free i 0;
  rest : (i : ℕ) → l.label ≤ i → get_or l.free i 0 ≡ get_or l.fn.free i 0;
}
