use Rattle.std.proofs.Common.{◌+◌, ◌*◌, ◌≤◌, length}
use Rattle.gm_commit.specs.inner.NewDartValues.{AreKeptValues, new_number}
use Rattle.gm_commit.proofs.new_darts.put_kept_values_of_node.Given as goal

abbrev pub invariant-loop-position : goal.invariant-loop-position
invariant-loop-position g l = record {
  so_far : AreKeptValues l.pending (new_number l.pending l.node l.position) l.values.items;
  cost : l.steps ≤ l.fn.steps + l.position * length l.pending.map.schema.embeds;
  least : l.fn.steps ≤ l.steps;
}
