use Rattle.std.proofs.Common.{◌≡◌, ◌+◌, ◌*◌, ◌≤◌, ◌∷◌, ◌++◌, length, drop}
use Rattle.std.specs.List.{flat_map}
use Rattle.gm_mapfile.specs.MapText.{value_text}
use Rattle.gm_mapfile.proofs.printing.write_values.Given as goal

abbrev pub invariant-loop-left : goal.invariant-loop-left
invariant-loop-left l = record {
  within : l.at ≤ length l.line;
  before : l.at ≤ l.fn.end;
  room : 65 * l.left ≤ l.at;
  few : l.left ≤ length l.values;
  taken : l.fn.end + 65 * l.left ≤ l.at + 65 * length l.values;
  written : drop l.at l.line ≡ flat_map (λ v. 32 ∷ value_text v) (drop l.left l.values) ++ drop l.fn.end l.fn.line;
}

abbrev pub decreases-loop-left : goal.decreases-loop-left
decreases-loop-left l = l.left
