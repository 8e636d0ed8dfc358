use Rattle.std.proofs.Common.{◌≡◌, [], ◌∷◌, ◌++◌}
use Rattle.std.specs.Vec.{vec_capacity}
use Rattle.gm_commit.specs.inner.InstanceEdits.{concat_below, slot_in}
use Rattle.gm_commit.proofs.rewrite.Rewrite.put_left_slots.Given as goal

abbrev pub invariant-loop-position : goal.invariant-loop-position
invariant-loop-position l = record {
  items : l.slots.items ≡ l.fn.slots.items ++ concat_below (λ p. slot_in l.self.placed l.node p ∷ []) l.position;
  capacity : vec_capacity l.slots ≡ vec_capacity l.fn.slots;
}
