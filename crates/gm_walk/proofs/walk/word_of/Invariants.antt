use Rattle.std.proofs.Common.{◌≡◌, ◌≤◌, length, map, take}
use Rattle.std.specs.List.{filter}
use Rattle.gm_model.specs.Labels.{has}
use Rattle.gm_model.specs.declared.word.Letter.TheVariants.{At}
use Rattle.gm_walk.proofs.walk.word_of.Given as goal

abbrev pub invariant-loop-label : goal.invariant-loop-label
invariant-loop-label l = record {
  whole : length l.letters ≡ 8;
  used : l.used ≤ l.label-index;
  front : take l.used l.letters ≡ map At (filter (has l.mask) (take l.label-index l.label-items));
}
