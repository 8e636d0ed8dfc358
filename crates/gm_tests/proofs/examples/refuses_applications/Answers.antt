-- Each refusal is worked out in the lemmas.
use Rattle.gm_theory.proofs.ExamplesDone.{no_value as valueless_decider}
use Rattle.gm_theory.proofs.ExamplesOutcomes.{no_dart as hookless_dart, broken_step, repeated, valueless_pre, false_pre, no_room, no_names}
use Rattle.gm_tests.proofs.examples.refuses_applications.Goals as goal

pub returns : goal.returns
returns c = record {
  no_dart = hookless_dart;
  arc = broken_step;
  same = repeated;
  pre_no_value = valueless_pre;
  pre_false = false_pre;
  full_darts = no_room;
  full_names = no_names;
  no_value = valueless_decider;
}
