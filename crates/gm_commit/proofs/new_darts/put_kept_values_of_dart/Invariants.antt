use Rattle.std.proofs.Common.{◌+◌, ◌≤◌}
use Rattle.gm_commit.specs.inner.NewDartValues.{new_number}
use Rattle.gm_commit.proofs.on_new_darts.KeptValues.{ArePut}
use Rattle.gm_commit.proofs.new_darts.put_kept_values_of_dart.Given as goal

abbrev pub invariant-loop-embed : goal.invariant-loop-embed
invariant-loop-embed g l = record {
  put : ArePut l.pending (new_number l.pending l.fn.node l.fn.position) l.embed l.fn.values.items l.values.items;
  cost : l.steps ≤ l.fn.steps + l.embed;
  least : l.fn.steps ≤ l.steps;
}
