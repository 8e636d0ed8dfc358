use Rattle.std.proofs.Common.{◌≡◌, ◌-◌, ◌≤◌, drop, length}
use Rattle.gm_cells.specs.CellsText.{listed}
use Rattle.gm_text.proofs.Cuts.{IsSoFar}
use Rattle.gm_cells.proofs.printing.put_numbers.Given as goal

abbrev pub invariant-loop-from : goal.invariant-loop-from
invariant-loop-from l = record {
  within : l.from ≤ length l.numbers;
  long : length l.part ≡ 704;
  so_far : IsSoFar l.fn.text (listed l.numbers) l.text (listed (drop l.from l.numbers));
}

abbrev pub decreases-loop-from : goal.decreases-loop-from
decreases-loop-from l = length l.numbers - l.from
