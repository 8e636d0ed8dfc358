use Rattle.std.proofs.Common.{◌≡◌, ◌-◌, ◌≤◌, length}
use Rattle.gm_cells.specs.inner.Painted.{ArePainted}
use Rattle.gm_cells.proofs.components.paint_components.Given as goal

abbrev pub invariant-loop-slot : goal.invariant-loop-slot
invariant-loop-slot g l = record {
  long : length l.colours ≡ length l.fn.colours;
  few : l.found.count ≤ l.from;
  low : l.from ≤ l.arena.next;
  painted : ArePainted l.arena l.from l.colours l.found;
}

abbrev pub decreases-loop-slot : goal.decreases-loop-slot
decreases-loop-slot g l = l.arena.next - l.from
