use Rattle.std.specs.List.{AllWithin}
use Rattle.gm_walk.specs.inner.Walks.{IsLabelUpTo}
use Rattle.gm_tests.proofs.walks.low_word.Given as goal

abbrev pub invariant-loop-place : goal.invariant-loop-place
invariant-loop-place g l = AllWithin (IsLabelUpTo 2) l.word 0 l.place
