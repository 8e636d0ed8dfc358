-- What becomes of an application, and its work, are what they are over a map that is alike.
use Rattle.std.proofs.Common.{ℕ, ◌+◌, ◌*◌, inl, inr, List, length, Option, Some, IsTrue, sym, subst}
use Rattle.gm_model.specs.declared.schema.Schema.{Schema}
use Rattle.gm_model.specs.declared.value.Value.{Value}
use Rattle.gm_model.specs.Applications.{Application, Cause, HasHookDarts, MeetsSteps, IsReady, IsPreUnits, IsReadSum, IsReachedSum, HasPositions, NoDarts, Candidate, IsWork, NoMatch, NotReady, Ready, IsBudget, Of}
use Rattle.gm_model.specs.Maps.{Map}
use Rattle.gm_model.specs.Matches.{Placement, IsCandidate, IsMatch}
use Rattle.gm_model.specs.Rules.{Rule}
use Rattle.gm_model.specs.Unfolding.{IsUnfolding, scene_of, added_nodes}
use Rattle.gm_apply.proofs.LikeApplications.{pre_units_there, ready_there}
use Rattle.gm_apply.proofs.LikePlaces.{AreLikeAt}
use Rattle.gm_apply.proofs.LikeResults.{AreLikeResults, results_like}
use Rattle.gm_apply.proofs.LikeScenes.{unfolding_there}
use Rattle.gm_apply.proofs.LikeValues.{reached_sum_there, read_sum_there}
use Rattle.gm_theory.specs.inner.Theorem.{Unfolded, Unfolds, IsDartOf}
use Rattle.gm_theory.proofs.Agreement.{one_match}
use Rattle.gm_theory.proofs.Found.{HasNoRepeat, found_match}
use Rattle.gm_theory.proofs.Turns.{some_position_walked}
use Rattle.gm_run.specs.inner.Alike.{AreAlike}
use Rattle.gm_run.proofs.AlikeLemmas.{Suits, suits_too, alike_at, alike_back}
use Rattle.gm_run.proofs.AlikeMatches.{app_over, hook_darts_there, candidate_there, steps_there, broken_there, match_there, distinct_there, first_repeat_there}
use Rattle.gm_run.proofs.Endings.{IsEnd, Breaks, Repeats, Fits, found_end_there, Ends, IsRefusedBy}

module _ (rule : Rule) (hooks : List ℕ) (params : List Value) (a b : Map) (suits : Suits rule a) (alike : AreAlike a b) where
  abbrev here : Application
  here = app_over rule hooks params a

  abbrev there : Application
  there = app_over rule hooks params b

  -- a match lies alike in both maps
  both : (place : Placement) → IsMatch a rule hooks place → AreLikeAt rule a b place place
  both place matched = alike_at rule a b alike suits place place (one_match a rule hooks place place suits.accepted.in_range suits.accepted.incidence matched matched) matched.embedded.live

  match_now : (place : Placement) → IsCandidate a rule hooks place → HasHookDarts here → MeetsSteps here place → HasNoRepeat here place → IsMatch a rule hooks place
  match_now place candidate darts steps distinct = found_match here place suits.sound.generalised suits.accepted (record { darts = darts; candidate = candidate; steps = steps; distinct = distinct })

  -- ---- ends

  end_there : (place : Placement) (candidate : IsCandidate a rule hooks place) → HasHookDarts here → (told : Option Cause) → IsEnd here place told → IsEnd there place told
  end_there place candidate darts _ (Breaks x p i first) = Breaks x p i (broken_there rule hooks params a b suits alike place candidate darts x p i first)
  end_there place candidate darts _ (Repeats x p y q steps first) = Repeats x p y q (steps_there rule hooks params a b suits alike place candidate darts steps) (first_repeat_there rule hooks params a b place x p y q first)
  end_there place candidate darts told (Fits _ steps distinct end) =
      Fits told (steps_there rule hooks params a b suits alike place candidate darts steps) (distinct_there rule hooks params a b place distinct)
      (let matched = match_now place candidate darts steps distinct in
      found_end_there rule hooks params a b place place (both place matched) suits.of_schema matched (match_there rule hooks params a b suits alike place matched) told end)

  pub ends_there : (told : Option Cause) → Ends here told → Ends there told
  ends_there told ends = record {
    place = ends.place;
    darts = hook_darts_there rule hooks params a b suits alike ends.darts;
    candidate = candidate_there rule hooks params a b suits alike ends.place ends.candidate ends.darts;
    is_end = end_there ends.place ends.candidate ends.darts told ends.is_end;
  }

  pub refused_there : (cause : Cause) → IsRefusedBy here cause → IsRefusedBy there cause
  refused_there cause (inl (index, hook, e)) =
      inl (index, record { dart = hook.dart; named = hook.named; dead = λ live. hook.dead ((alike.same.darts hook.dart).1 live); before = λ k d less named. (alike.same.darts d).0 (hook.before k d less named) }, e)
  refused_there cause (inr ends) = inr (ends_there (Some cause) ends)

  -- ---- the parts of its work

  ready_too : (place : Placement) → IsReady here place → IsReady there place
  ready_too place ready = ready_there rule hooks params a b place place (both place ready.matched) ready (match_there rule hooks params a b suits alike place ready.matched)

  units_there : (place : Placement) (u : ℕ) → IsMatch a rule hooks place → IsPreUnits here place u → IsPreUnits there place u
  units_there place u matched = pre_units_there rule hooks params a b place place (both place matched) (some_position_walked a rule hooks matched.walk place matched.positions) u

  -- ---- over an unfolding

  module _ (place : Placement) (matched : IsMatch a rule hooks place) (result : Unfolded) (unfolds : Unfolds a rule place result) where
    unfolds_too : Unfolds b rule place result
    unfolds_too = unfolding_there rule a b place place (both place matched) (IsDartOf result) result.alpha result.next unfolds

    both_results : AreLikeResults rule a b place place result result
    both_results = results_like rule hooks a b place place (both place matched) suits.of_schema matched result result unfolds unfolds_too

    reached_there : (u : ℕ) → IsReachedSum here place (IsDartOf result) result.alpha u → IsReachedSum there place (IsDartOf result) result.alpha u
    reached_there = reached_sum_there rule hooks params a b place place result result both_results

    read_there : (w : ℕ) → IsReadSum here place (IsDartOf result) result.alpha w → IsReadSum there place (IsDartOf result) result.alpha w
    read_there = read_sum_there rule hooks params a b place place result result both_results

module _ (rule : Rule) (hooks : List ℕ) (params : List Value) (a b : Map) (suits : Suits rule a) (alike : AreAlike a b) where
  back : AreAlike b a
  back = alike_back a b alike

  suits_there : Suits rule b
  suits_there = suits_too rule a b alike suits

  positions_there : (k : ℕ) → HasPositions (app_over rule hooks params a) k → HasPositions (app_over rule hooks params b) k
  positions_there _ (NoDarts none) = NoDarts (λ darts. none (hook_darts_there rule hooks params b a suits_there back darts))
  positions_there _ (Candidate place darts candidate) = Candidate place (hook_darts_there rule hooks params a b suits alike darts) (candidate_there rule hooks params a b suits alike place candidate darts)

  work_there : (reached read : ℕ) → IsWork (app_over rule hooks params a) reached read → IsWork (app_over rule hooks params b) reached read
  work_there _ _ (NoMatch none) = NoMatch (λ place matched. none place (match_there rule hooks params b a suits_there back place matched))
  work_there _ _ (NotReady place u matched unready units) =
      NotReady place u (match_there rule hooks params a b suits alike place matched) (λ ready. unready (ready_too rule hooks params b a suits_there back place ready)) (units_there rule hooks params a b suits alike place u matched units)
  work_there _ _ (Ready place live alpha reached u w ready unfolded reaches units read) =
      let result : Unfolded = record { live = live; alpha = alpha; next = a.next + place.positions * added_nodes rule } in
      Ready place live alpha reached u w (ready_too rule hooks params a b suits alike place ready)
      (subst (λ n. IsUnfolding (scene_of b rule place) (λ d. IsTrue (live d)) alpha (n + place.positions * added_nodes rule)) alike.same.next (unfolds_too rule hooks params a b suits alike place ready.matched result unfolded))
      (reached_there rule hooks params a b suits alike place ready.matched result unfolded reached reaches) (units_there rule hooks params a b suits alike place u ready.matched units)
      (read_there rule hooks params a b suits alike place ready.matched result unfolded w read)

  pub budget_there : (most : ℕ) → IsBudget (app_over rule hooks params a) most → IsBudget (app_over rule hooks params b) most
  budget_there _ (Of positions reached read has work) =
      subst (λ (s : Schema). IsBudget (app_over rule hooks params b) (24 * (s.dim + 1) * (length rule.nodes * positions + reached + read + 1))) (sym alike.schema)
      (Of positions reached read (positions_there positions has) (work_there reached read work))
