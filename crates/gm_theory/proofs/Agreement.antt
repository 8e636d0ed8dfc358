-- Two candidates at the same hook darts agree, so that a match is like each candidate.
use Rattle.std.proofs.Common.{◌≡◌, ℕ, zero, suc, ◌<◌, ◌≤◌, ◌⊎◌, inl, inr, List, [], length, get_or, Some, refl, sym, ap, subst, ◌∙◌, arith}
use Rattle.std.proofs.lemmas.Option.{slice_get-get_or, slice_get_within}
use Rattle.std.specs.List.{slice_get}
use Rattle.std.specs.Prelude.{slice_index}
use Rattle.gm_model.specs.declared.rule.Side.TheVariants.{Left}
use Rattle.gm_model.specs.declared.step.Step.{Step}
use Rattle.gm_model.specs.declared.step.Step.TheVariants.{Absent, Exp, Imp}
use Rattle.gm_model.specs.Maps.{Map, IsDart, dimension}
use Rattle.gm_model.specs.Matches.{Placement, ArePositions, IsCandidate, IsFirstTurn, IsInstance, IsMetAt, IsPathTo, IsStepMet, along_hook}
use Rattle.gm_model.specs.Matches.ArePositions.{Created, Walked}
use Rattle.gm_model.specs.Orbits.{IsPairBefore, IsWalk, follow}
use Rattle.gm_model.specs.Rules.{Rule, label_at, letters, step, width}
use Rattle.gm_model.specs.Structure.{IsInRange, HasIncidence}
use Rattle.gm_theory.specs.inner.OneMatch.{HaveSameTurns, IsLike, OneMatchAtMost}
use Rattle.gm_theory.proofs.Candidates.{match_is_candidate}
use Rattle.gm_theory.proofs.LeastPaths.{least_path}
use Rattle.gm_theory.proofs.Lists.{none_some, some_same}
use Rattle.gm_theory.proofs.RuleSteps.{step_back, step_within}
use Rattle.gm_theory.proofs.Turns.{first_turn, no_places}
use Rattle.gm_theory.proofs.Walks.{same_place, walk_unique}

module _ (map : Map) (rule : Rule) (hooks : List ℕ) where
  -- the positions are those of a walk from the first hook dart
  pub record IsWalkedBy (place : Placement) (walk : List ℕ) : Type 0 where
    pub start : ℕ
    pub first : slice_get hooks 0 ≡ Some start
    pub live : IsDart map start
    pub is_walk : IsWalk (along_hook map rule) (width rule) start walk
    pub size : place.positions ≡ length walk
    pub turns : (p m : ℕ) → p < length walk → m < width rule → (place.turn p m < length walk) × (slice_index walk (place.turn p m) ≡ along_hook map rule (slice_index walk p) m)

  -- the one position of a creation rule
  pub record IsCreatedBy (place : Placement) (walk : List ℕ) : Type 0 where
    pub none : rule.hooks ≡ []
    pub no_dart : hooks ≡ []
    pub one : place.positions ≡ 1
    pub walk_is : walk ≡ []

pub positions_parts : (map : Map) (rule : Rule) (place : Placement) (hooks walk : List ℕ) → ArePositions map rule place hooks walk → IsCreatedBy map rule hooks place walk ⊎ IsWalkedBy map rule hooks place walk
positions_parts map rule place _ _ (Created none one) = inl (record { none = none; no_dart = refl; one = one; walk_is = refl })
positions_parts map rule place _ _ (Walked d others walk live is_walk size turns) = inr (record { start = d; first = refl; live = live; is_walk = is_walk; size = size; turns = turns })

module _ (map : Map) (rule : Rule) (hooks : List ℕ) where
  -- where there is a hook dart, the positions are those of its walk
  pub walked_from : (place : Placement) (walk : List ℕ) (d : ℕ) → slice_get hooks 0 ≡ Some d → ArePositions map rule place hooks walk → IsWalkedBy map rule hooks place walk
  walked_from place walk d first positions = go (positions_parts map rule place hooks walk positions)
    where
      go : IsCreatedBy map rule hooks place walk ⊎ IsWalkedBy map rule hooks place walk → IsWalkedBy map rule hooks place walk
      go (inl created) = none_some d (subst (λ xs. slice_get xs 0 ≡ Some d) created.no_dart first)
      go (inr walked) = walked

  pub same_walk : (place other : Placement) (walk walk' : List ℕ) → IsWalkedBy map rule hooks place walk → IsWalkedBy map rule hooks other walk' → walk ≡ walk'
  same_walk place other walk walk' u w = walk_unique (along_hook map rule) (width rule) u.start walk walk' u.is_walk (subst (λ d. IsWalk (along_hook map rule) (width rule) d walk') (some_same w.start u.start (sym w.first ∙ u.first)) w.is_walk)

  -- ---- the later hooks

  module _ (place other : Placement) (ours : IsCandidate map rule hooks place) (theirs : IsCandidate map rule hooks other) (size : place.positions ≡ other.positions) (same : ours.walk ≡ theirs.walk) (turns : HaveSameTurns rule place other) where
    turn_there : (p q m : ℕ) → IsFirstTurn rule place p q m → IsFirstTurn rule other p q m
    turn_there p q m turn = record {
      position = subst (λ k. q < k) size turn.position;
      within = turn.within;
      turns = sym (turns q m turn.position turn.within).0 ∙ turn.turns;
      first = λ q' m' before low e. turn.first q' m' before low ((turns q' m' (earlier q' m' before) low).0 ∙ e);
    }
      where
        earlier : (q' m' : ℕ) → IsPairBefore q' m' q m → q' < place.positions
        earlier q' m' (inl h) = omega (arith, turn.position)
        earlier q' m' (inr (e, h)) = omega (arith, turn.position)

    starts_agree : (t h : ℕ) → slice_get rule.hooks t ≡ Some h → place.dart_of h 0 ≡ other.dart_of h 0
    starts_agree t h at =
        let named : slice_get hooks t ≡ Some (get_or hooks t 0) = slice_get-get_or hooks t 0 (omega (arith, ours.count, slice_get_within rule.hooks t h at)) in
        ours.at_darts t h (get_or hooks t 0) at named ∙ sym (theirs.at_darts t h (get_or hooks t 0) at named)

    later_agree : (t h : ℕ) → 0 < t → slice_get rule.hooks t ≡ Some h → (n p : ℕ) → p < n → p < place.positions → place.dart_of h p ≡ other.dart_of h p
    later_agree t h later at zero p less b = absurd (omega arith)
    later_agree t h later at (suc n) zero less b = starts_agree t h at
    later_agree t h later at (suc n) (suc p) less b = go (first_turn map rule place hooks ours.walk ours.positions (suc p) (omega arith) b) (later_agree t h later at n)
      where
        go : (q : ℕ) × (m : ℕ) × (q < suc p) × IsFirstTurn rule place (suc p) q m → ((p : ℕ) → p < n → p < place.positions → place.dart_of h p ≡ other.dart_of h p) → place.dart_of h (suc p) ≡ other.dart_of h (suc p)
        go (q, m, earlier, turn) before =
            ours.in_step t h (suc p) q m later at (omega arith) b turn
            ∙ ap (map.alpha (label_at (letters rule Left h) m)) (before q (omega (arith, earlier, less)) turn.position)
            ∙ sym (theirs.in_step t h (suc p) q m later at (omega arith) (subst (λ k. suc p < k) size b) (turn_there (suc p) q m turn))

    hooks_agree : (t h p : ℕ) → slice_get rule.hooks t ≡ Some h → p < place.positions → place.dart_of h p ≡ other.dart_of h p
    hooks_agree zero h p at b = ours.hooked h p at b ∙ ap (λ walk. slice_index walk p) same ∙ sym (theirs.hooked h p at (subst (λ k. p < k) size b))
    hooks_agree (suc t) h p at b = later_agree (suc t) h (omega arith) at (suc p) p (omega arith) b

  -- ---- all nodes

  pub candidates_agree : IsInRange map.schema rule → HasIncidence map.schema.dim rule → (place other : Placement) → IsCandidate map rule hooks place → IsCandidate map rule hooks other → IsLike rule place other
  candidates_agree range incidence place other ours theirs = go (positions_parts map rule place hooks ours.walk ours.positions) (positions_parts map rule other hooks theirs.walk theirs.positions)
    where
      like : place.positions ≡ other.positions → ours.walk ≡ theirs.walk → HaveSameTurns rule place other → IsLike rule place other
      like size same turns = record { positions = size; turns = turns; darts = λ x p at. lies x p at (least_path map.schema rule range incidence x at.0) }
        where
          lies : (x p : ℕ) → IsInstance rule place x p → (hook : ℕ) × (path : List ℕ) × IsPathTo rule x hook path → place.dart_of x p ≡ other.dart_of x p
          lies x p at (hook, path, to) = ours.forced x p hook path at to ∙ ap (follow map.alpha path) (hooks_agree place other ours theirs size same turns to.index hook p to.hook_at at.1) ∙ sym (theirs.forced x p hook path (at.0, subst (λ k. p < k) size at.1) to)

      walked : IsWalkedBy map rule hooks place ours.walk → IsWalkedBy map rule hooks other theirs.walk → IsLike rule place other
      walked u w = like size same turns
        where
          same : ours.walk ≡ theirs.walk
          same = same_walk place other ours.walk theirs.walk u w

          size : place.positions ≡ other.positions
          size = u.size ∙ ap length same ∙ sym w.size

          turns : HaveSameTurns rule place other
          turns p m b h =
              let here : p < length ours.walk = subst (λ k. p < k) u.size b in
              let mine = u.turns p m here h in
              let theirs_at : (other.turn p m < length ours.walk) × (slice_index ours.walk (other.turn p m) ≡ along_hook map rule (slice_index ours.walk p) m) =
              subst (λ walk. (other.turn p m < length walk) × (slice_index walk (other.turn p m) ≡ along_hook map rule (slice_index walk p) m)) (sym same) (w.turns p m (subst (λ walk. p < length walk) same here) h) in
              (same_place ours.walk (place.turn p m) (other.turn p m) u.is_walk.distinct mine.0 theirs_at.0 (mine.1 ∙ sym theirs_at.1), subst (λ k. place.turn p m < k) (sym u.size) mine.0)

      go : IsCreatedBy map rule hooks place ours.walk ⊎ IsWalkedBy map rule hooks place ours.walk → IsCreatedBy map rule hooks other theirs.walk ⊎ IsWalkedBy map rule hooks other theirs.walk → IsLike rule place other
      go (inl u) (inl w) = like (u.one ∙ sym w.one) (u.walk_is ∙ sym w.walk_is) (λ p m b h. absurd (let z : width rule ≡ 0 = no_places rule u.none in omega arith))
      go (inl u) (inr w) = none_some w.start (subst (λ xs. slice_get xs 0 ≡ Some w.start) u.no_dart w.first)
      go (inr u) (inl w) = none_some u.start (subst (λ xs. slice_get xs 0 ≡ Some u.start) w.no_dart u.first)
      go (inr u) (inr w) = walked u w

  -- and meet the same steps
  pub met_alike : IsInRange map.schema rule → HasIncidence map.schema.dim rule → (place other : Placement) → IsLike rule place other → (x p i : ℕ) → IsInstance rule place x p → i ≤ dimension map → IsMetAt map rule other x p i → IsMetAt map rule place x p i
  met_alike range incidence place other like x p i at label met = go (step rule Left x i) refl met
    where
      go : (s : Step) → step rule Left x i ≡ s → IsStepMet map.alpha other x p i (step rule Left x i) → IsStepMet map.alpha place x p i (step rule Left x i)
      go Absent e h = subst (IsStepMet map.alpha place x p i) (sym e) tt
      go (Exp y) e h =
          let there : IsInstance rule place y p = ((step_back map.schema rule range incidence Left x i y label e).0, at.1) in
          let both : IsStepMet map.alpha other x p i (Exp y) = subst (IsStepMet map.alpha other x p i) e h in
          subst (IsStepMet map.alpha place x p i) (sym e) (ap (map.alpha i) (like.darts x p at) ∙ both.0 ∙ sym (like.darts y p there), ap (map.alpha i) (like.darts y p there) ∙ both.1 ∙ sym (like.darts x p at))
      go (Imp m) e h =
          let within : m < width rule = step_within map.schema rule range incidence Left x i m at.0 e in
          let turn = like.turns p m at.1 within in
          let one : IsStepMet map.alpha other x p i (Imp m) = subst (IsStepMet map.alpha other x p i) e h in
          subst (IsStepMet map.alpha place x p i) (sym e) (ap (map.alpha i) (like.darts x p at) ∙ one ∙ ap (other.dart_of x) (sym turn.0) ∙ sym (like.darts x (place.turn p m) (at.0, turn.1)))

-- so there is one match at most
pub one_match : OneMatchAtMost
one_match map rule hooks place other range incidence a b = candidates_agree map rule hooks range incidence place other (match_is_candidate map rule place range incidence hooks a) (match_is_candidate map rule other range incidence hooks b)
