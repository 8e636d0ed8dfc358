use Rattle.std.proofs.Common.{◌+◌, ◌*◌, ◌≤◌, length}
use Rattle.gm_commit.specs.inner.NewDartValues.{AreKeptValues, new_number}
use Rattle.gm_commit.proofs.new_darts.kept_values.Given as goal

abbrev pub invariant-loop-node : goal.invariant-loop-node
invariant-loop-node g l = record {
  right : l.pending.placed.nodes ≤ l.node;
  so_far : AreKeptValues l.pending (new_number l.pending l.node 0) l.values.items;
  cost : l.steps ≤ l.fn.steps + new_number l.pending l.node 0 * length l.pending.map.schema.embeds;
  least : l.fn.steps ≤ l.steps;
}
