-- The example is worked out in the lemmas.
use Rattle.gm_theory.proofs.ExamplesRefused.{twisted_shown}
use Rattle.gm_tests.proofs.examples.needs_squares.Goals as goal

pub returns : goal.returns
returns c = twisted_shown
