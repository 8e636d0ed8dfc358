use Rattle.std.proofs.Common.{◌≡◌, map}
use Rattle.std.specs.List.{range_with_len}
use Rattle.gm_grid.specs.GridBook.{stat_at}
use Rattle.gm_grid.proofs.script.make_script.Given as goal

abbrev pub invariant-loop-square : goal.invariant-loop-square
invariant-loop-square l = l.script.stats ≡ map stat_at (range_with_len 0 l.square)
