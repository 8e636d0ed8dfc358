-- A candidate at live hook darts that meets each step and takes no dart twice is a match, and a match is such a candidate.
use Rattle.std.proofs.Common.{◌≡◌, ℕ, Some, slice_get, subst, inl, inr, arith, get_or}
use Rattle.std.proofs.lemmas.Option.{slice_get-get_or}
use Rattle.gm_model.specs.Acceptance.{IsAccepted}
use Rattle.gm_model.specs.Applications.{Application, HasHookDarts, IsRepeat, MeetsSteps}
use Rattle.gm_model.specs.Maps.{IsDart, IsGeneralised}
use Rattle.gm_model.specs.Matches.{Placement, IsCandidate, IsMatch}
use Rattle.gm_model.specs.Orbits.{IsPairBefore}
use Rattle.gm_theory.proofs.Candidates.{candidate_is_match, hook_left, match_is_candidate}
use Rattle.gm_theory.proofs.Lists.{contained_at}
use Rattle.gm_theory.proofs.Turns.{some_position_walked}

module _ (app : Application) (place : Placement) where
  abbrev pub HasNoRepeat : Type 0
  HasNoRepeat = (x p y q : ℕ) → IsRepeat app place x p y q → ⊥

  -- what is tested of a candidate, in this order
  pub record IsFound : Type 0 where
    pub darts : HasHookDarts app
    pub candidate : IsCandidate app.map app.rule app.hooks place
    pub steps : MeetsSteps app place
    pub distinct : HasNoRepeat

  pub found_match : IsGeneralised app.map → IsAccepted app.map.schema app.rule → IsFound → IsMatch app.map app.rule app.hooks place
  found_match old accepted found =
      candidate_is_match app.map app.rule place accepted.in_range accepted.incidence old app.hooks found.candidate found.darts found.steps
      (λ x p y q at at' before e. found.distinct x p y q (record { first = at; second = at'; later = before; same = e }))

  module _ (accepted : IsAccepted app.map.schema app.rule) (matched : IsMatch app.map app.rule app.hooks place) where
    -- each hook dart is that of a hook at the first position
    pub hook_darts : HasHookDarts app
    hook_darts d (t, within, is) = subst (IsDart app.map) lies (matched.embedded.live hook 0 (hook_left app.map.schema app.rule accepted.in_range accepted.incidence t hook at, some_position_walked app.map app.rule app.hooks matched.walk place matched.positions))
      where
        hook : ℕ
        hook = get_or app.rule.hooks t 0

        at : slice_get app.rule.hooks t ≡ Some hook
        at = slice_get-get_or app.rule.hooks t 0 (omega (arith, matched.count))

        lies : place.dart_of hook 0 ≡ d
        lies = matched.at_darts t hook d at (contained_at app.hooks d (t, within, is))

    no_repeat : HasNoRepeat
    no_repeat x p y q r = go r.later
      where
        same : (x ≡ y) × (p ≡ q)
        same = matched.embedded.injective x p y q r.first r.second r.same

        go : IsPairBefore x p y q → ⊥
        go (inl h) = let e : x ≡ y = same.0 in omega arith
        go (inr (f, h)) = let e : p ≡ q = same.1 in omega arith

    pub match_found : IsFound
    match_found = record {
      darts = hook_darts;
      candidate = match_is_candidate app.map app.rule place accepted.in_range accepted.incidence app.hooks matched;
      steps = matched.embedded.steps;
      distinct = no_repeat;
    }
