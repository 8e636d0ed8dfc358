-- Tests of a walk and of a match, and what they show.
use Rattle.std.proofs.Common.{◌≡◌, ℕ, suc, ◌+◌, ◌<◌, Bool, true, not, ◌&&◌, ◌||◌, IsTrue, List, [], ◌∷◌, length, take, eqb, ltb, Some, slice_get, slice_index, subst, inl, inr, arith, refl, sym, ap, ◌∙◌, zero}
use Rattle.std.proofs.lemmas.Option.{slice_get_within}
use Rattle.std.proofs.lemmas.Bool.{eqb-true, eq-eqb, ltb-true, lt-ltb, or_left, or_right, and_from}
use Rattle.gm_model.specs.declared.rule.Side.TheVariants.{Left}
use Rattle.gm_model.specs.declared.step.Step.{Step}
use Rattle.gm_model.specs.declared.step.Step.TheVariants.{Absent, Exp, Imp}
use Rattle.gm_model.specs.Maps.{Map, dimension}
use Rattle.gm_model.specs.Matches.{Placement, ArePositions, Walked, along_hook, IsStepMet, IsEmbedding, IsMatch, IsCandidate, IsForced, LieAtDarts, GoInStep}
use Rattle.gm_model.specs.Orbits.{IsPairBefore, IsLeastStep, IsWalk}
use Rattle.gm_model.specs.Rules.{Rule, has_word, letters, label_at, step, width}
use Rattle.gm_theory.proofs.ExamplesChecks.{each_below, each, some_below, some, ◌implies◌, implied, has_number, number_contained}
use Rattle.gm_theory.proofs.Lists.{some_same, none_some}
use Rattle.gm_theory.proofs.RuleSteps.{word_below}
use Rattle.gm_theory.proofs.Tests.{both_true, not_true, not_both}
use Rattle.gm_theory.proofs.Walks.{first_at}

-- ---- walks

abbrev before_test : ℕ → ℕ → ℕ → ℕ → Bool
before_test q l q' l' = ltb q q' || (eqb q q' && ltb l l')

before_true : (q l q' l' : ℕ) → IsPairBefore q l q' l' → IsTrue (before_test q l q' l')
before_true q l q' l' (inl b) = or_left _ _ (lt-ltb q q' b)
before_true q l q' l' (inr (e, b)) = or_right _ _ (and_from _ _ (eq-eqb q q' e) (lt-ltb l l' b))

before_within : (q l q' l' : ℕ) → IsPairBefore q l q' l' → q < suc q'
before_within q l q' l' (inl b) = omega arith
before_within q l q' l' (inr (e, b)) = omega arith

module _ (next : ℕ → ℕ → ℕ) (width : ℕ) (walk : List ℕ) where
  abbrev distinct_test : ℕ → Bool
  distinct_test q = each_below q (λ p. not (eqb (slice_index walk p) (slice_index walk q)))

  abbrev closed_test : ℕ → Bool
  closed_test q = each_below width (λ l. has_number walk (next (slice_index walk q) l))

  abbrev earlier_test : ℕ → ℕ → ℕ → ℕ → ℕ → Bool
  earlier_test p q l q' l' = before_test q' l' q l implies has_number (take p walk) (next (slice_index walk q') l')

  abbrev step_test : ℕ → ℕ → ℕ → Bool
  step_test p q l = eqb (slice_index walk p) (next (slice_index walk q) l) && each_below (suc q) (λ q'. each_below width (earlier_test p q l q'))

  abbrev least_test : ℕ → Bool
  least_test p = ltb 0 p implies some_below p (λ q. some_below width (λ l. step_test p q l))

  abbrev pub walk_test : Bool
  walk_test = each_below (length walk) (λ p. distinct_test p && closed_test p && least_test p)

  least_shown : (p q l : ℕ) → q < p → l < width → IsTrue (step_test p q l) → IsLeastStep next width walk p q l
  least_shown p q l b c t = record {
    earlier = b;
    place = c;
    leads = eqb-true _ _ (both_true _ _ t).0;
    least = λ q' l' before d. number_contained (take p walk) _ (implied (before_test q' l' q l) _ (each width (earlier_test p q l q') (each (suc q) (λ k. each_below width (earlier_test p q l k)) (both_true _ _ t).1 q' (before_within q' l' q l before)) l' d) (before_true q' l' q l before));
  }

  found_least : (p : ℕ) → IsTrue (some_below p (λ q. some_below width (λ l. step_test p q l))) → (q : ℕ) × (l : ℕ) × IsLeastStep next width walk p q l
  found_least p t =
      let outer : (q : ℕ) × (q < p) × IsTrue (some_below width (λ l. step_test p q l)) = some p (λ q. some_below width (λ l. step_test p q l)) t in
      let inner : (l : ℕ) × (l < width) × IsTrue (step_test p outer.0 l) = some width (λ l. step_test p outer.0 l) outer.2 in
      (outer.0, inner.0, least_shown p outer.0 inner.0 outer.1 inner.1 inner.2)

  pub walk_shown : (d : ℕ) → slice_get walk 0 ≡ Some d → IsTrue walk_test → IsWalk next width d walk
  walk_shown d starts t = record {
    starts = starts;
    distinct = λ p q b c e. not_both (eqb (slice_index walk p) (slice_index walk q)) (eq-eqb _ _ e) (not_true _ (each q _ (both_true _ _ (both_true _ _ (each (length walk) _ t q c)).0).0 p b));
    closed = λ q l before b c. number_contained walk _ (each width _ (both_true _ _ (both_true _ _ (each (length walk) _ t q b)).0).1 l c);
    least = λ p b c. found_least p (implied (ltb 0 p) _ (both_true _ _ (each (length walk) _ t p c)).1 (lt-ltb 0 p b));
  }

-- ---- matches

module _ (map : Map) (rule : Rule) (place : Placement) where
  abbrev pub met_test : ℕ → ℕ → ℕ → Step → Bool
  met_test x p i Absent = true
  met_test x p i (Exp y) = eqb (map.alpha i (place.dart_of x p)) (place.dart_of y p) && eqb (map.alpha i (place.dart_of y p)) (place.dart_of x p)
  met_test x p i (Imp m) = eqb (map.alpha i (place.dart_of x p)) (place.dart_of x (place.turn p m))

  pub met_shown : (x p i : ℕ) (s : Step) → IsTrue (met_test x p i s) → IsStepMet map.alpha place x p i s
  met_shown x p i Absent t = tt
  met_shown x p i (Exp y) t = (eqb-true _ _ (both_true _ _ t).0, eqb-true _ _ (both_true _ _ t).1)
  met_shown x p i (Imp m) t = eqb-true _ _ t

  abbrev apart_test : ℕ → ℕ → ℕ → ℕ → Bool
  apart_test x p y q = eqb (place.dart_of x p) (place.dart_of y q) implies (eqb x y && eqb p q)

  abbrev alone_test : ℕ → ℕ → Bool
  alone_test x p = each_below (length rule.nodes) (λ y. has_word rule Left y implies each_below place.positions (λ q. apart_test x p y q))

  abbrev instance_test : ℕ → ℕ → Bool
  instance_test x p = map.live (place.dart_of x p) && each_below (dimension map + 1) (λ i. met_test x p i (step rule Left x i)) && alone_test x p

  abbrev pub embedding_test : Bool
  embedding_test = each_below (length rule.nodes) (λ x. has_word rule Left x implies each_below place.positions (λ p. instance_test x p))

  pub embedding_shown : IsTrue embedding_test → IsEmbedding map rule place
  embedding_shown t = record {
    live = λ x p at. (both_true _ _ (both_true _ _ (here x p at.0 at.1)).0).0;
    injective = λ x p y q at at' e. both x p y q (implied _ _ (each place.positions _ (implied (has_word rule Left y) _ (each (length rule.nodes) _ (both_true _ _ (here x p at.0 at.1)).1 y (word_below rule Left y at'.0)) at'.0) q at'.1) (eq-eqb _ _ e));
    steps = λ x p i at h. met_shown x p i (step rule Left x i) (each (dimension map + 1) _ (both_true _ _ (both_true _ _ (here x p at.0 at.1)).0).1 i (omega arith));
  }
    where
      here : (x p : ℕ) → IsTrue (has_word rule Left x) → p < place.positions → IsTrue (instance_test x p)
      here x p l b = each place.positions (λ p. instance_test x p) (implied (has_word rule Left x) (each_below place.positions (λ p. instance_test x p)) (each (length rule.nodes) (λ x. has_word rule Left x implies each_below place.positions (λ p. instance_test x p)) t x (word_below rule Left x l)) l) p b

      both : (x p y q : ℕ) → IsTrue (eqb x y && eqb p q) → (x ≡ y) × (p ≡ q)
      both x p y q t = (eqb-true x y (both_true (eqb x y) (eqb p q) t).0, eqb-true p q (both_true (eqb x y) (eqb p q) t).1)

  abbrev turn_test : List ℕ → ℕ → ℕ → Bool
  turn_test walk p m = ltb (place.turn p m) (length walk) && eqb (slice_index walk (place.turn p m)) (along_hook map rule (slice_index walk p) m)

  abbrev pub positions_test : ℕ → List ℕ → Bool
  positions_test d walk = map.live d && walk_test (along_hook map rule) (width rule) walk && each_below (length walk) (λ p. each_below (width rule) (turn_test walk p))

  pub positions_shown : (d : ℕ) (walk : List ℕ) → slice_get walk 0 ≡ Some d → place.positions ≡ length walk → IsTrue (positions_test d walk) → ArePositions map rule place (d ∷ []) walk
  positions_shown d walk starts many t = Walked d [] walk (both_true _ _ (both_true _ _ t).0).0 (walk_shown (along_hook map rule) (width rule) walk d starts (both_true _ _ (both_true _ _ t).0).1) many
      (λ p m b c. turned p m (each (width rule) (turn_test walk p) (each (length walk) (λ p. each_below (width rule) (turn_test walk p)) (both_true _ _ t).1 p b) m c))
    where
      turned : (p m : ℕ) → IsTrue (turn_test walk p m) → (place.turn p m < length walk) × (slice_index walk (place.turn p m) ≡ along_hook map rule (slice_index walk p) m)
      turned p m u = (ltb-true (place.turn p m) (length walk) (both_true (ltb (place.turn p m) (length walk)) (eqb (slice_index walk (place.turn p m)) (along_hook map rule (slice_index walk p) m)) u).0, eqb-true (slice_index walk (place.turn p m)) (along_hook map rule (slice_index walk p) m) (both_true (ltb (place.turn p m) (length walk)) (eqb (slice_index walk (place.turn p m)) (along_hook map rule (slice_index walk p) m)) u).1)

  -- ---- a rule whose one hook is its node 0

  one_hook_lies : (d : ℕ) → rule.hooks ≡ 0 ∷ [] → place.dart_of 0 0 ≡ d → LieAtDarts rule (d ∷ []) place
  one_hook_lies d only lies t h e at named = go t (rw only at at) named
    where
      go : (t : ℕ) → slice_get (0 ∷ []) t ≡ Some h → slice_get (d ∷ []) t ≡ Some e → place.dart_of h 0 ≡ e
      go zero a b = ap (λ z. place.dart_of z 0) (sym (some_same 0 h a)) ∙ lies ∙ some_same d e b
      go (suc t) a b = none_some h a

  no_later_hook : rule.hooks ≡ 0 ∷ [] → GoInStep map rule place
  no_later_hook only t h p q m later at some b turn = go t later (rw only at at)
    where
      go : (t : ℕ) → 0 < t → slice_get (0 ∷ []) t ≡ Some h → place.dart_of h p ≡ map.alpha (label_at (letters rule Left h) m) (place.dart_of h q)
      go zero c a = absurd (omega arith)
      go (suc t) c a = none_some h a

  abbrev along_test : List ℕ → Bool
  along_test walk = each_below (length walk) (λ p. eqb (place.dart_of 0 p) (slice_index walk p))

  along_shown : (walk : List ℕ) → place.positions ≡ length walk → IsTrue (along_test walk) → (p : ℕ) → p < place.positions → place.dart_of 0 p ≡ slice_index walk p
  along_shown walk many t p b = eqb-true (place.dart_of 0 p) (slice_index walk p) (each (length walk) (λ p. eqb (place.dart_of 0 p) (slice_index walk p)) t p (subst (λ k. p < k) many b))

  starts_shown : (d : ℕ) (walk : List ℕ) → slice_get walk 0 ≡ Some d → IsTrue (along_test walk) → place.dart_of 0 0 ≡ d
  starts_shown d walk starts t = eqb-true (place.dart_of 0 0) (slice_index walk 0) (each (length walk) (λ p. eqb (place.dart_of 0 p) (slice_index walk p)) t 0 (slice_get_within walk 0 d starts)) ∙ first_at walk d starts

  abbrev pub hooked_test : ℕ → List ℕ → Bool
  hooked_test d walk = positions_test d walk && along_test walk

  pub candidate_shown : (d : ℕ) (walk : List ℕ) → rule.hooks ≡ 0 ∷ [] → slice_get walk 0 ≡ Some d → place.positions ≡ length walk → IsTrue (hooked_test d walk) → IsForced map rule place → IsCandidate map rule (d ∷ []) place
  candidate_shown d walk only starts many t forced = record {
    count = rw only refl;
    walk = walk;
    positions = positions_shown d walk starts many (both_true (positions_test d walk) (along_test walk) t).0;
    hooked = λ h p e b. subst (λ z. place.dart_of z p ≡ slice_index walk p) (some_same 0 h (rw only at e)) (along_shown walk many (both_true (positions_test d walk) (along_test walk) t).1 p b);
    at_darts = one_hook_lies d only (starts_shown d walk starts (both_true (positions_test d walk) (along_test walk) t).1);
    in_step = no_later_hook only;
    forced = forced;
  }

  abbrev pub match_test : ℕ → List ℕ → Bool
  match_test d walk = hooked_test d walk && embedding_test

  pub match_shown : (d : ℕ) (walk : List ℕ) → rule.hooks ≡ 0 ∷ [] → slice_get walk 0 ≡ Some d → place.positions ≡ length walk → IsTrue (match_test d walk) → IsMatch map rule (d ∷ []) place
  match_shown d walk only starts many t = record {
    count = rw only refl;
    walk = walk;
    positions = positions_shown d walk starts many (both_true (positions_test d walk) (along_test walk) here).0;
    hooked = λ h p e b. subst (λ z. place.dart_of z p ≡ slice_index walk p) (some_same 0 h (rw only at e)) (along_shown walk many (both_true (positions_test d walk) (along_test walk) here).1 p b);
    at_darts = one_hook_lies d only (starts_shown d walk starts (both_true (positions_test d walk) (along_test walk) here).1);
    embedded = embedding_shown (both_true (hooked_test d walk) embedding_test t).1;
  }
    where
      here : IsTrue (hooked_test d walk)
      here = (both_true (hooked_test d walk) embedding_test t).0
