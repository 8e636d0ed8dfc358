-- Each is shown in the lemmas.
use Rattle.gm_theory.proofs.ExamplesOutcomes.{truth_for_number, number_too_great, literal_too_great}
use Rattle.gm_tests.proofs.examples.refuses_values.Goals as goal

pub returns : goal.returns
returns c = record { param = truth_for_number; number = number_too_great; literal = literal_too_great }
