use Rattle.std.proofs.Common.{◌≡◌, ◌+◌, take}
use Rattle.std.specs.Int.{int_max, int_min}
use Rattle.std.specs.List.{fold}
use Rattle.gm_eval.specs.inner.Sums.{first_at, parts_at}
use Rattle.gm_eval.proofs.totals.extremes.Given as goal

abbrev pub invariant-loop-slot : goal.invariant-loop-slot
invariant-loop-slot g l = record {
  least : l.least ≡ fold int_min (first_at l.arena l.embed l.slots) (parts_at l.arena l.embed 0 (take l.slot-index l.slots));
  greatest : l.greatest ≡ fold int_max (first_at l.arena l.embed l.slots) (parts_at l.arena l.embed 0 (take l.slot-index l.slots));
  cost : l.steps ≡ l.fn.steps + l.slot-index + 1;
}
