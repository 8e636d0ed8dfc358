-- The candidate of an application, the steps that it meets, and its match are those over a map that is alike.
use Rattle.std.proofs.Common.{◌≡◌, ℕ, suc, ◌<◌, ◌≤◌, inl, inr, List, [], ◌∷◌, length, take, Some, slice_get, refl, sym, ap, subst, ◌∙◌, arith}
use Rattle.std.specs.List.{Contains}
use Rattle.std.specs.Prelude.{slice_index}
use Rattle.gm_model.specs.declared.rule.Side.TheVariants.{Left}
use Rattle.gm_model.specs.declared.step.Step.{Step}
use Rattle.gm_model.specs.declared.step.Step.TheVariants.{Absent, Exp, Imp}
use Rattle.gm_model.specs.declared.value.Value.{Value}
use Rattle.gm_model.specs.Applications.{Application, HasHookDarts, MeetsSteps, IsFirstBroken, IsRepeat, IsFirstRepeat}
use Rattle.gm_model.specs.Maps.{Map, IsDart, dimension}
use Rattle.gm_model.specs.Matches.{Placement, ArePositions, Created, Walked, IsCandidate, IsMatch, IsInstance, IsMetAt, IsPathTo, IsStepMet, along_hook}
use Rattle.gm_model.specs.Orbits.{IsLeastStep, IsPairBefore, IsWalk, follow}
use Rattle.gm_model.specs.Rules.{Rule, hook_label, label_at, letters, step, width}
use Rattle.gm_model.specs.Structure.{Leads}
use Rattle.gm_theory.proofs.Candidates.{follow_live, hooks_live, letter_low}
use Rattle.gm_theory.proofs.Found.{HasNoRepeat, IsFound, found_match, match_found}
use Rattle.gm_theory.proofs.LeastPaths.{least_path}
use Rattle.gm_theory.proofs.RuleLinks.{linked_in_range}
use Rattle.gm_theory.proofs.RuleSteps.{step_back}
use Rattle.gm_theory.proofs.Turns.{hook_label_up_to}
use Rattle.gm_theory.proofs.Walks.{walk_keeps}
use Rattle.gm_run.specs.inner.Alike.{AreAlike}
use Rattle.gm_run.proofs.AlikeLemmas.{Suits, label_there, suits_too}

-- a step is met by neighbours that are the same at its ends
pub met_same : (alpha beta : ℕ → ℕ → ℕ) (place : Placement) (x p i : ℕ) (s : Step) → alpha i (place.dart_of x p) ≡ beta i (place.dart_of x p)
    → ((y : ℕ) → s ≡ Exp y → alpha i (place.dart_of y p) ≡ beta i (place.dart_of y p)) → IsStepMet alpha place x p i s → IsStepMet beta place x p i s
met_same alpha beta place x p i Absent here there met = tt
met_same alpha beta place x p i (Exp y) here there met = (sym here ∙ met.0, sym (there y refl) ∙ met.1)
met_same alpha beta place x p i (Imp m) here there met = sym here ∙ met

module _ (rule : Rule) (hooks : List ℕ) (params : List Value) where
  abbrev pub app_over : Map → Application
  app_over map = record { map = map; rule = rule; hooks = hooks; params = params }

  -- of repeats the map says nothing
  pub repeat_there : (a b : Map) (place : Placement) (x p y q : ℕ) → IsRepeat (app_over a) place x p y q → IsRepeat (app_over b) place x p y q
  repeat_there a b place x p y q r = record { first = r.first; second = r.second; later = r.later; same = r.same }

  pub distinct_there : (a b : Map) (place : Placement) → HasNoRepeat (app_over a) place → HasNoRepeat (app_over b) place
  distinct_there a b place distinct x p y q r = distinct x p y q (repeat_there b a place x p y q r)

  pub first_repeat_there : (a b : Map) (place : Placement) (x p y q : ℕ) → IsFirstRepeat (app_over a) place x p y q → IsFirstRepeat (app_over b) place x p y q
  first_repeat_there a b place x p y q first = record {
    here = repeat_there a b place x p y q first.here;
    before = λ x' p' y' q' earlier r. first.before x' p' y' q' earlier (repeat_there b a place x' p' y' q' r);
  }

module _ (rule : Rule) (hooks : List ℕ) (params : List Value) (a b : Map) (suits : Suits rule a) (alike : AreAlike a b) where
  abbrev here : Application
  here = app_over rule hooks params a

  abbrev there : Application
  there = app_over rule hooks params b

  label_back : (i : ℕ) → i ≤ dimension b → i ≤ dimension a
  label_back i h = label_there b a (sym alike.schema) i h

  pub hook_darts_there : HasHookDarts here → HasHookDarts there
  hook_darts_there darts d c = (alike.same.darts d).0 (darts d c)

  -- ---- the walk

  module _ (d : ℕ) (walk : List ℕ) (live : IsDart a d) (is : IsWalk (along_hook a rule) (width rule) d walk) where
    walk_live : (p : ℕ) → p < length walk → IsDart a (slice_index walk p)
    walk_live p within =
        walk_keeps (along_hook a rule) (width rule) (IsDart a) d walk is live (λ e m h l. suits.sound.generalised.stays e (hook_label rule m) l (hook_label_up_to a.schema rule suits.accepted.in_range m)) (suc p) p (omega arith) within

    next_same : (p m : ℕ) → p < length walk → along_hook a rule (slice_index walk p) m ≡ along_hook b rule (slice_index walk p) m
    next_same p m within = alike.same.arcs (slice_index walk p) (hook_label rule m) (walk_live p within) (hook_label_up_to a.schema rule suits.accepted.in_range m)

    walk_there : IsWalk (along_hook b rule) (width rule) d walk
    walk_there = record {
      starts = is.starts;
      distinct = is.distinct;
      closed = λ q l before within place. subst (Contains walk) (next_same q l within) (is.closed q l before within place);
      least = λ p some within. least p within (is.least p some within);
    }
      where
        no_later : (q l q' l' : ℕ) → IsPairBefore q' l' q l → q' ≤ q
        no_later q l q' l' (inl h) = omega (arith, h)
        no_later q l q' l' (inr (e, h)) = omega (arith, e)

        least : (p : ℕ) → p < length walk → (q : ℕ) × (l : ℕ) × IsLeastStep (along_hook a rule) (width rule) walk p q l → (q : ℕ) × (l : ℕ) × IsLeastStep (along_hook b rule) (width rule) walk p q l
        least p within (q, l, s) = (
          q,
          l,
          record {
            earlier = s.earlier;
            place = s.place;
            leads = s.leads ∙ next_same q l (omega (arith, s.earlier, within));
            least = λ q' l' before place. subst (Contains (take p walk)) (next_same q' l' (omega (arith, no_later q l q' l' before, s.earlier, within))) (s.least q' l' before place);
          },
        )

  positions_there : (place : Placement) (named walk : List ℕ) → ArePositions a rule place named walk → ArePositions b rule place named walk
  positions_there place _ _ (Created none one) = Created none one
  positions_there place _ _ (Walked d others walk live is size turns) =
      Walked d others walk ((alike.same.darts d).0 live) (walk_there d walk live is) size (λ p m within h. ((turns p m within h).0, (turns p m within h).1 ∙ next_same d walk live is p m within))

  -- ---- the candidate

  follow_there : (path : List ℕ) (x y d : ℕ) → Leads rule.left_links x path y → IsDart a d → follow a.alpha path d ≡ follow b.alpha path d
  follow_there [] x y d e live = refl
  follow_there (i ∷ path) x y d (z, linked, leads) live =
      let label : i ≤ dimension a = (linked_in_range a.schema rule suits.accepted.in_range suits.accepted.incidence Left x i z linked).2 in
      follow_there path z y (a.alpha i d) leads (suits.sound.generalised.stays d i live label) ∙ ap (follow b.alpha path) (alike.same.arcs d i live label)

  module _ (place : Placement) (candidate : IsCandidate a rule hooks place) (darts : HasHookDarts here) where
    hook_there : (t h p : ℕ) → slice_get rule.hooks t ≡ Some h → p < place.positions → IsDart a (place.dart_of h p)
    hook_there = hooks_live a rule place suits.accepted.in_range suits.accepted.incidence suits.sound.generalised hooks candidate darts

    pub candidate_there : IsCandidate b rule hooks place
    candidate_there = record {
      count = candidate.count;
      walk = candidate.walk;
      positions = positions_there place hooks candidate.walk candidate.positions;
      hooked = candidate.hooked;
      at_darts = candidate.at_darts;
      in_step = λ t h p q m later at some within turn.
          candidate.in_step t h p q m later at some within turn
          ∙ alike.same.arcs (place.dart_of h q) (label_at (letters rule Left h) m) (hook_there t h q at turn.position) (letter_low a.schema rule suits.accepted.in_range suits.accepted.incidence t h at m);
      forced = λ x p hook path at to. candidate.forced x p hook path at to ∙ follow_there path hook x (place.dart_of hook p) to.leads (hook_there to.index hook p to.hook_at at.1);
    }

    -- ---- the steps that it meets

    instance_live : (x p : ℕ) → IsInstance rule place x p → IsDart a (place.dart_of x p)
    instance_live x p at = go (least_path a.schema rule suits.accepted.in_range suits.accepted.incidence x at.0)
      where
        go : (hook : ℕ) × (path : List ℕ) × IsPathTo rule x hook path → IsDart a (place.dart_of x p)
        go (hook, path, to) =
            subst (IsDart a) (sym (candidate.forced x p hook path at to))
            (follow_live a rule place suits.accepted.in_range suits.accepted.incidence suits.sound.generalised path hook x (place.dart_of hook p) to.leads (hook_there to.index hook p to.hook_at at.1))

    arc_there : (x p i : ℕ) → IsInstance rule place x p → i ≤ dimension a → a.alpha i (place.dart_of x p) ≡ b.alpha i (place.dart_of x p)
    arc_there x p i at h = alike.same.arcs (place.dart_of x p) i (instance_live x p at) h

    other_end : (x p i y : ℕ) → IsInstance rule place x p → i ≤ dimension a → step rule Left x i ≡ Exp y → IsInstance rule place y p
    other_end x p i y at h e = ((step_back a.schema rule suits.accepted.in_range suits.accepted.incidence Left x i y h e).0, at.1)

    met_there : (x p i : ℕ) → IsInstance rule place x p → i ≤ dimension a → IsMetAt a rule place x p i → IsMetAt b rule place x p i
    met_there x p i at h = met_same a.alpha b.alpha place x p i (step rule Left x i) (arc_there x p i at h) (λ y e. arc_there y p i (other_end x p i y at h e) h)

    met_back : (x p i : ℕ) → IsInstance rule place x p → i ≤ dimension a → IsMetAt b rule place x p i → IsMetAt a rule place x p i
    met_back x p i at h = met_same b.alpha a.alpha place x p i (step rule Left x i) (sym (arc_there x p i at h)) (λ y e. sym (arc_there y p i (other_end x p i y at h e) h))

    pub steps_there : MeetsSteps here place → MeetsSteps there place
    steps_there steps x p i at h = met_there x p i at (label_back i h) (steps x p i at (label_back i h))

    pub broken_there : (x p i : ℕ) → IsFirstBroken here place x p i → IsFirstBroken there place x p i
    broken_there x p i first = record {
      instance = first.instance;
      label = label_there a b alike.schema i first.label;
      broken = λ met. first.broken (met_back x p i first.instance first.label met);
      before = λ y q j earlier at h. met_there y q j at (label_back j h) (first.before y q j earlier at (label_back j h));
    }

  -- ---- the match

  pub found_there : (place : Placement) → IsFound here place → IsFound there place
  found_there place found = record {
    darts = hook_darts_there found.darts;
    candidate = candidate_there place found.candidate found.darts;
    steps = steps_there place found.candidate found.darts found.steps;
    distinct = distinct_there rule hooks params a b place found.distinct;
  }

  pub match_there : (place : Placement) → IsMatch a rule hooks place → IsMatch b rule hooks place
  match_there place matched =
      let theirs = suits_too rule a b alike suits in
      found_match there place theirs.sound.generalised theirs.accepted (found_there place (match_found here place suits.accepted matched))
