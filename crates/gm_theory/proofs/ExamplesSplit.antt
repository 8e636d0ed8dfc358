-- The split of an edge is accepted, matches an edge of two darts, and its unfolding there is two edges.
use Rattle.std.proofs.Common.{◌<◌, [], ◌∷◌, refl, arith}
use Rattle.std.proofs.lemmas.Bool.{ltb-true}
use Rattle.gm_model.specs.declared.rule.Side.TheVariants.{Left, Right}
use Rattle.gm_model.specs.Acceptance.{IsAccepted}
use Rattle.gm_model.specs.Applications.{IsResult}
use Rattle.gm_model.specs.Unfolding.{scene_of}
use Rattle.gm_theory.proofs.ExamplesMaps.{table_shown}
use Rattle.gm_theory.proofs.ExamplesMatches.{match_shown}
use Rattle.gm_theory.proofs.ExamplesRules.{range_shown, incidence_shown, squares_shown}
use Rattle.gm_theory.proofs.ExamplesUnfoldings.{unfolding_shown}
use Rattle.gm_theory.proofs.Lists.{none_some}
use Rattle.gm_theory.proofs.RuleSteps.{word_below}
use Rattle.gm_theory.specs.inner.Examples.{linear, split, edge, on_edge, two_edges, splitting, IsLawfulExample, IsWorkedExample}

accepted : IsAccepted linear split
accepted = record {
  in_range = range_shown linear split 0 refl refl refl;
  typed = record { pre = λ tree e. none_some tree e; sets = λ x e tree embed a at. none_some embed at };
  incidence = incidence_shown 1 split 0 refl refl refl;
  squares = squares_shown 1 split refl;
  sources = λ e embed at x r. none_some embed at;
}

edge_lawful : IsLawfulExample edge
edge_lawful = record {
  schema = record { count = omega arith; kinds = λ e embed at. none_some embed at; labels = λ e i embed at h. none_some embed at; free = λ e embed at. none_some embed at; differ = λ e e' embed embed' at at' f. none_some embed at };
  sound = record {
    is_map = record { below = λ d h. ltb-true d 2 h; values = λ e d embed at h. none_some embed at };
    generalised = table_shown linear ((1 ∷ 0 ∷ []) ∷ (0 ∷ 1 ∷ []) ∷ []) [] refl;
    embedded = λ e embed at. none_some embed at;
  };
}

split_edge : IsResult splitting on_edge two_edges
split_edge = record {
  schema = refl;
  unfolded = unfolding_shown (scene_of edge split on_edge) 2 4 two_edges.live two_edges.alpha 4 (λ d h. let b : d < 2 = ltb-true d 2 h in omega arith) (λ d h. ltb-true d 4 h) (word_below split Left) (word_below split Right) refl refl;
  values = λ e d embed at live. none_some embed at;
}

pub split_shown : IsWorkedExample splitting on_edge two_edges
split_shown = record { lawful = edge_lawful; accepted = accepted; found = match_shown edge split on_edge 0 (0 ∷ 1 ∷ []) refl refl refl refl; new_values = split_edge }
