use Rattle.std.proofs.Common.{◌≡◌, ◌+◌, ◌*◌, ◌≤◌}
use Rattle.std.specs.Vec.{vec_capacity}
use Rattle.gm_commit.specs.inner.InstanceEdits.{told_by, concat_below, left_slots_of}
use Rattle.gm_commit.proofs.rewrite.Rewrite.left_slots.Given as goal

abbrev pub invariant-loop-node : goal.invariant-loop-node
invariant-loop-node l = record {
  items : l.slots.items ≡ concat_below (left_slots_of (told_by l.self)) l.node;
  room : (l.left + l.added) * l.self.placed.positions ≤ vec_capacity l.slots;
}
