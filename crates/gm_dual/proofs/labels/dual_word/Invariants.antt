use Rattle.std.proofs.Common.{◌≡◌, length, map, take}
use Rattle.gm_dual.specs.Duals as duals
use Rattle.gm_dual.proofs.labels.dual_word.Given as goal

abbrev pub invariant-loop-place : goal.invariant-loop-place
invariant-loop-place l = record {
  long : length l.letters ≡ 8;
  done : take l.place l.letters ≡ map (duals.dual_letter l.top) (take l.place l.word);
}
