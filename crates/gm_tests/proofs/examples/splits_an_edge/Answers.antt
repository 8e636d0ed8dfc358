-- The example is worked out in the lemmas.
use Rattle.gm_theory.proofs.ExamplesSplit.{split_shown}
use Rattle.gm_tests.proofs.examples.splits_an_edge.Goals as goal

pub returns : goal.returns
returns c = split_shown
