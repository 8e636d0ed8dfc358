use Rattle.std.proofs.Common.{ℕ, ◌<◌, ◌≤◌, get_or}
use Rattle.gm_mapfile.proofs.ordering.names_end.Given as goal

abbrev pub invariant-loop-number : goal.invariant-loop-number
invariant-loop-number l = record {
  above : (k d : ℕ) → k < l.number-index → get_or l.numbers k d < l.end;
  few : l.end ≤ 16777216;
}
