use Rattle.std.proofs.Common.{◌≡◌}
use Rattle.gm_tests.proofs.walks.walk_words.Given as goal

abbrev pub invariant-loop-from : goal.invariant-loop-from
invariant-loop-from g l = l.scratch.bound ≡ l.fn.scratch.bound
