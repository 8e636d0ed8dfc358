-- The first half of the theorem: for every generalised map, every accepted rule and every match, the unfolding exists, is determined, and is a generalised map.
use Rattle.std.proofs.Common.{ℕ, ◌+◌, ◌≤◌, ◌⊎◌, not, IsTrue, List, length, subst, inl, inr, arith}
use Rattle.gm_model.specs.declared.rule.Side.TheVariants.{Left, Right}
use Rattle.gm_model.specs.Acceptance.{IsAccepted}
use Rattle.gm_model.specs.Maps.{Map, IsGeneralised, dimension}
use Rattle.gm_model.specs.Matches.{Placement, IsMatch, IsEmbedding, IsStepMet}
use Rattle.gm_model.specs.Rules.{Rule, has_word, step, width, hook_label}
use Rattle.gm_model.specs.Squares.{IsExcused, ClosesRight, Closes}
use Rattle.gm_model.specs.Unfolding.{Scene, scene_of, next_after}
use Rattle.gm_theory.proofs.NewNames.{lawful_names}
use Rattle.gm_theory.proofs.Results.{unfolding_generalised, unfolding_below, unfoldings_agree, unfolding_exists, live_after, alpha_after}
use Rattle.gm_theory.proofs.RuleSteps.{word_below, step_back, step_within, label_step, step_label}
use Rattle.gm_theory.proofs.Scenes.{IsSteadyNode, HasLawfulSteps, HasLawfulDarts, IsLawful}
use Rattle.gm_theory.proofs.Tests.{both_true, and_true, true_not}
use Rattle.gm_theory.proofs.Turns.{lawful_turns}
use Rattle.gm_theory.specs.inner.Theorem.{IsDartOf, HasNamesBelow, RulesKeepGeneralisedMaps}

module _ (map : Map) (rule : Rule) (place : Placement) (accepted : IsAccepted map.schema rule) where
  abbrev scene : Scene
  scene = scene_of map rule place

  pub lawful_steps : HasLawfulSteps scene (length rule.nodes) (width rule) (hook_label rule)
  lawful_steps = record {
    left_below = word_below rule Left;
    right_below = word_below rule Right;
    left_back = λ x i y l h e. step_back map.schema rule accepted.in_range accepted.incidence Left x i y h e;
    right_back = λ x i y r h e. step_back map.schema rule accepted.in_range accepted.incidence Right x i y h e;
    left_place = λ x i m l e. step_within map.schema rule accepted.in_range accepted.incidence Left x i m l e;
    right_place = λ x i m r e. step_within map.schema rule accepted.in_range accepted.incidence Right x i m r e;
    removed_whole = λ x i l g h. label_step map.schema rule accepted.in_range accepted.incidence Left x i (((accepted.incidence.arcs x (word_below rule Left x l)).one_sided i (omega arith)).0 (and_true (has_word rule Left x) (not (has_word rule Right x)) l (true_not (has_word rule Right x) g)));
    added_whole = λ x i a r h. label_step map.schema rule accepted.in_range accepted.incidence Right x i (((accepted.incidence.arcs x (word_below rule Right x r)).one_sided i (omega arith)).1 (and_true (not (has_word rule Left x)) (has_word rule Right x) (true_not (has_word rule Left x) a) r));
    left_then_right = λ x i l r h s. label_step map.schema rule accepted.in_range accepted.incidence Right x i (((accepted.incidence.arcs x (word_below rule Left x l)).both i (omega arith) (and_true (has_word rule Left x) (has_word rule Right x) l r)).0 (step_label map.schema rule accepted.in_range accepted.incidence Left x i s));
    right_then_left = λ x i l r h s. label_step map.schema rule accepted.in_range accepted.incidence Left x i (((accepted.incidence.arcs x (word_below rule Left x l)).both i (omega arith) (and_true (has_word rule Left x) (has_word rule Right x) l r)).1 (step_label map.schema rule accepted.in_range accepted.incidence Right x i s));
    squares = squares;
  }
    where
      excused : (x i j : ℕ) → IsExcused rule x i j → IsSteadyNode scene x i × IsSteadyNode scene x j
      excused x i j e =
          let sides : IsTrue (has_word rule Left x) × IsTrue (has_word rule Right x) = both_true (has_word rule Left x) (has_word rule Right x) e.preserved in
          (record { left = sides.0; right = sides.1; same = e.same_i }, record { left = sides.0; right = sides.1; same = e.same_j })

      squares : (x i j : ℕ) → IsTrue (has_word rule Right x) → i + 2 ≤ j → j ≤ dimension map → (IsSteadyNode scene x i × IsSteadyNode scene x j) ⊎ Closes (step rule Right) (hook_label rule) x i j
      squares x i j r far h = go (accepted.squares x i j far h r)
        where
          go : IsExcused rule x i j ⊎ ClosesRight rule x i j → (IsSteadyNode scene x i × IsSteadyNode scene x j) ⊎ Closes (step rule Right) (hook_label rule) x i j
          go (inl e) = inl (excused x i j e)
          go (inr c) = inr c

  pub lawful_darts : IsEmbedding map rule place → HasLawfulDarts scene
  lawful_darts found = record {
    live = found.live;
    injective = found.injective;
    links = λ x p i y at h e. (subst (IsStepMet map.alpha place x p i) e (found.steps x p i at h)).0;
    letters = λ x p i m at h e. subst (IsStepMet map.alpha place x p i) e (found.steps x p i at h);
  }

  pub lawful : IsGeneralised map → HasNamesBelow map → (hooks : List ℕ) → IsMatch map rule hooks place → IsLawful scene (length rule.nodes) (width rule) (hook_label rule)
  lawful old names_below hooks found = record {
    old = old;
    steps = lawful_steps;
    turns = lawful_turns map rule place hooks found.walk (length rule.nodes) old accepted.in_range found.positions;
    darts = lawful_darts found.embedded;
    names = lawful_names map rule place names_below;
  }

pub rules_keep_generalised_maps : RulesKeepGeneralisedMaps
rules_keep_generalised_maps map rule hooks place names_below old accepted found = record {
  exists = (record { live = live_after s count w label law; alpha = alpha_after s count w label law; next = next_after s }, unfolding_exists s count w label law);
  determined = λ a b u v. record {
    next = (unfoldings_agree s count w label law (IsDartOf a) (IsDartOf b) a.alpha b.alpha a.next b.next u v).0;
    darts = λ d. ((unfoldings_agree s count w label law (IsDartOf a) (IsDartOf b) a.alpha b.alpha a.next b.next u v).1 d, (unfoldings_agree s count w label law (IsDartOf b) (IsDartOf a) b.alpha a.alpha b.next a.next v u).1 d);
    arcs = (unfoldings_agree s count w label law (IsDartOf a) (IsDartOf b) a.alpha b.alpha a.next b.next u v).2;
  };
  lawful = λ result u. record {
    generalised = unfolding_generalised s count w label law (IsDartOf result) result.alpha result.next u;
    below = unfolding_below s count w label law (IsDartOf result) result.alpha result.next u;
  };
}
  where
    s : Scene
    s = scene_of map rule place

    count : ℕ
    count = length rule.nodes

    w : ℕ
    w = width rule

    label : ℕ → ℕ
    label = hook_label rule

    law : IsLawful (scene_of map rule place) (length rule.nodes) (width rule) (hook_label rule)
    law = lawful map rule place accepted old names_below hooks found
