use Rattle.std.proofs.Common.{◌-◌}
use Rattle.gm_mapfile.proofs.PrintedLines.{ArePrinted}
use Rattle.gm_mapfile.proofs.printing.print_lines.Given as goal

abbrev pub invariant-loop-slot : goal.invariant-loop-slot
invariant-loop-slot g l = ArePrinted l.arena l.from l.fn.text l.text l.fn.steps l.steps

abbrev pub decreases-loop-slot : goal.decreases-loop-slot
decreases-loop-slot g l = l.arena.next - l.from
