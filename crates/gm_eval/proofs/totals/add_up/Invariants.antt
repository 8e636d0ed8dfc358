use Rattle.std.proofs.Common.{◌≡◌, ◌+◌, take}
use Rattle.gm_eval.specs.inner.Sums.{parts_at, sum_of}
use Rattle.gm_eval.proofs.Sums.{IsSmall}
use Rattle.gm_eval.proofs.totals.add_up.Given as goal

abbrev pub invariant-loop-slot : goal.invariant-loop-slot
invariant-loop-slot g l = record {
  x : l.totals.x ≡ sum_of (parts_at l.arena l.embed 0 (take l.slot-index l.slots));
  y : l.totals.y ≡ sum_of (parts_at l.arena l.embed 1 (take l.slot-index l.slots));
  z : l.totals.z ≡ sum_of (parts_at l.arena l.embed 2 (take l.slot-index l.slots));
  x_small : IsSmall l.slot-index l.totals.x;
  y_small : IsSmall l.slot-index l.totals.y;
  z_small : IsSmall l.slot-index l.totals.z;
  cost : l.steps ≡ l.fn.steps + l.slot-index;
}
