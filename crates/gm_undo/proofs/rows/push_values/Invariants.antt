use Rattle.std.proofs.Common.{◌≡◌, ◌++◌, take}
use Rattle.std.specs.Vec.{vec_capacity}
use Rattle.gm_undo.proofs.rows.push_values.Given as goal

abbrev pub invariant-loop-value : goal.invariant-loop-value
invariant-loop-value l = record {
  items : l.values.items ≡ l.fn.values.items ++ take l.value-index l.own;
  capacity : vec_capacity l.values ≡ vec_capacity l.fn.values;
}
