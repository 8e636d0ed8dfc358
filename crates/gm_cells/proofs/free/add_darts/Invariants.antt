use Rattle.std.proofs.Common.{◌≡◌, ℕ, ◌+◌, ◌-◌, ◌≤◌, length, get_or}
use Rattle.gm_cells.proofs.FreeLemmas.{AreFree}
use Rattle.gm_cells.proofs.free.add_darts.Given as goal

abbrev pub invariant-loop-slot : goal.invariant-loop-slot
invariant-loop-slot g l = record {
  low : l.from ≤ l.arena.next;
  long : length l.free ≡ l.arena.schema.dim + 1;
  few : (i : ℕ) → get_or l.free i 0 ≤ l.from;
  counted : (i : ℕ) → i ≤ l.arena.schema.dim → AreFree l.arena i l.from (get_or l.free i 0);
}

abbrev pub decreases-loop-slot : goal.decreases-loop-slot
decreases-loop-slot g l = l.arena.next - l.from
