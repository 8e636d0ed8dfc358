use Rattle.std.proofs.Common.{◌<◌, All, IsTrue, take}
use Rattle.gm_mapfile.proofs.building.are_below.Given as goal

abbrev pub invariant-loop-number : goal.invariant-loop-number
invariant-loop-number l = record {
  below : IsTrue l.below → All (λ x. x < l.end) (take l.number-index l.numbers);
}
