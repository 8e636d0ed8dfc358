-- Each fault is shown in the lemmas.
use Rattle.gm_theory.proofs.ExamplesRefused.{hook_refused, arc_refused, square_refused, value_refused, twice_refused, merge_refused, along_refused, kind_refused}
use Rattle.gm_tests.proofs.examples.refuses_rules.Goals as goal

pub returns : goal.returns
returns c = record {
  hooks = hook_refused;
  arcs = arc_refused;
  squares = square_refused;
  no_value = value_refused;
  twice = twice_refused;
  merge = merge_refused;
  merge_along = along_refused;
  kinds = kind_refused;
}
