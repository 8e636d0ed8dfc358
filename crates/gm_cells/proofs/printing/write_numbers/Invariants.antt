use Rattle.std.proofs.Common.{◌≡◌, ◌*◌, ◌≤◌, length, drop}
use Rattle.gm_cells.specs.CellsText.{listed}
use Rattle.gm_cells.proofs.printing.write_numbers.Given as goal

abbrev pub invariant-loop-left : goal.invariant-loop-left
invariant-loop-left l = record {
  few : l.left ≤ length l.numbers;
  room : 11 * l.left ≤ l.at;
  within : l.at ≤ length l.bytes;
  long : length l.bytes ≡ length l.fn.bytes;
  written : drop l.at l.bytes ≡ listed (drop l.left l.numbers);
}

abbrev pub decreases-loop-left : goal.decreases-loop-left
decreases-loop-left l = l.left
