-- Each is shown in the lemmas.
use Rattle.gm_theory.proofs.ExamplesOutcomes.{other_order, torn_apart, next_taken, name_reserved, label_astray, hook_astray, hook_left}
use Rattle.gm_tests.proofs.examples.tells_apart.Goals as goal

pub returns : goal.returns
returns c = record { order = other_order; points = torn_apart; next = next_taken; name = name_reserved; label = label_astray; hook = hook_astray; count = hook_left }
