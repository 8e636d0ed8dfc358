-- At live hook darts there is a candidate. It has a first left step that it doesn't meet or none, and a first dart that it takes twice or none.
use Rattle.std.proofs.Common.{◌≡◌, ℕ, zero, suc, ◌+◌, ◌<◌, ◌≤◌, ◌⊎◌, IsTrue, false, List, [], ◌∷◌, length, Contains, Some, None, Option, slice_get, slice_index, refl, sym, ◌∙◌, ap, subst, inl, inr, arith}
use Rattle.std.proofs.lemmas.Bool.{cases_eq, cases_lt}
use Rattle.std.proofs.lemmas.Grind.{get_or_default_zero}
use Rattle.std.proofs.lemmas.Option.{slice_get_within, get_or_from_slice_get}
use Rattle.gm_model.specs.declared.rule.Side.TheVariants.{Left}
use Rattle.gm_model.specs.declared.step.Step.{Step}
use Rattle.gm_model.specs.declared.step.Step.TheVariants.{Absent, Exp, Imp}
use Rattle.gm_model.specs.Applications.{Application, HasHookDarts, IsFirstBroken, IsStepBefore, MeetsSteps, IsRepeat, IsFirstRepeat, IsRefused, NoDart, NoHookDart}
use Rattle.gm_model.specs.Maps.{Map, IsDart, IsMap, IsGeneralised, dimension}
use Rattle.gm_model.specs.Matches.{Placement, ArePositions, Created, Walked, IsInstance, IsMetAt, IsStepMet, IsFirstTurn, IsCandidate, IsPathTo, along_hook}
use Rattle.gm_model.specs.Orbits.{HasNoRepeats, IsPairBefore, IsWalk, follow}
use Rattle.gm_model.specs.Rules.{Rule, has_word, letters, step, label_at, hook_label, width}
use Rattle.gm_model.specs.Structure.{IsInRange, HasIncidence}
use Rattle.gm_theory.proofs.Candidates.{hook_left}
use Rattle.gm_theory.proofs.FirstFound.{IsFirstPair, first_pair, decide_pair_below}
use Rattle.gm_theory.proofs.LeastPaths.{least_path, same_path, hook_path}
use Rattle.gm_theory.proofs.Found.{HasNoRepeat}
use Rattle.gm_theory.proofs.Lists.{some_same, none_some, contained_at}
use Rattle.gm_theory.proofs.RuleSteps.{word_below}
use Rattle.gm_theory.proofs.Tests.{true_or_false, not_both, search_below}
use Rattle.gm_theory.proofs.Turns.{hook_label_up_to, first_turn, one_first_turn, some_position_walked}
use Rattle.gm_theory.proofs.ValuesFound.{IsLeast, least_below}
use Rattle.gm_theory.proofs.ValuesReach.{IsDecided}
use Rattle.gm_theory.proofs.Walks.{pair_order, same_place, first_at}
use Rattle.gm_theory.proofs.WalksFound.{walk_exists}

-- ---- the candidate

-- some place of the list holds the dart, or none
abbrev HasPlace : List ℕ → ℕ → Type 0
HasPlace walk d = ((k : ℕ) × (k < length walk) × (slice_index walk k ≡ d)) ⊎ ((k : ℕ) → k < length walk → slice_index walk k ≡ d → ⊥)

place_of : (walk : List ℕ) (d : ℕ) → HasPlace walk d
place_of walk d = search_below (λ k. slice_index walk k ≡ d) (λ k. cases_eq (slice_index walk k) d) (length walk)

abbrev place_by : (walk : List ℕ) (d : ℕ) → HasPlace walk d → ℕ
place_by walk d (inl (k, b, e)) = k
place_by walk d (inr none) = 0

placed : (walk : List ℕ) (d : ℕ) (has : HasPlace walk d) → Contains walk d → (place_by walk d has < length walk) × (slice_index walk (place_by walk d has) ≡ d)
placed walk d (inl (k, b, e)) c = (b, e)
placed walk d (inr none) (k, b, e) = absurd (none k b (sym (get_or_default_zero walk k d b) ∙ e))

-- ---- where hooks lie

-- a number has one place in a list without repeats
one_index : (xs : List ℕ) (x a b : ℕ) → HasNoRepeats xs → slice_get xs a ≡ Some x → slice_get xs b ≡ Some x → a ≡ b
one_index xs x a b differ at there = same_place xs a b differ (slice_get_within xs a x at) (slice_get_within xs b x there) (get_or_from_slice_get xs a x 0 at ∙ sym (get_or_from_slice_get xs b x 0 there))

-- Over positions, wherever the nodes are to lie: the later hooks go in step with the first.
module _ (map : Map) (rule : Rule) (base : Placement) (hooks walk : List ℕ) (positions : ArePositions map rule base hooks walk) where
  turned_from : (p : ℕ) → suc p < base.positions → (q : ℕ) × (m : ℕ) × (q < suc p) × IsFirstTurn rule base (suc p) q m
  turned_from p b = first_turn map rule base hooks walk positions (suc p) (omega arith) b

  -- the dart at position p + 1, by those at the positions before it
  next_dart : (h p : ℕ) → (ℕ → ℕ) → (suc p < base.positions) ⊎ (base.positions ≤ suc p) → ℕ
  next_dart h p dart (inl b) = map.alpha (label_at (letters rule Left h) (turned_from p b).1) (dart (turned_from p b).0)
  next_dart h p dart (inr b) = 0

  -- the dart of the hook with this index at the first n positions
  later_dart : (t h n p : ℕ) → ℕ
  later_dart t h zero p = 0
  later_dart t h (suc n) zero = slice_index hooks t
  later_dart t h (suc n) (suc p) = next_dart h p (later_dart t h n) (cases_lt (suc p) base.positions)

  same_later : (t h n n' p : ℕ) → p < n → p < n' → later_dart t h n p ≡ later_dart t h n' p
  unfolding later_dart next_dart
  same_later t h zero n' p b c = absurd (omega arith)
  same_later t h (suc n) zero p b c = absurd (omega arith)
  same_later t h (suc n) (suc n') zero b c = refl
  same_later t h (suc n) (suc n') (suc p) b c = go (cases_lt (suc p) base.positions) (λ q d. same_later t h n n' q (omega arith) (omega arith))
    where
      go : (side : (suc p < base.positions) ⊎ (base.positions ≤ suc p)) → ((q : ℕ) → q < suc p → later_dart t h n q ≡ later_dart t h n' q) → next_dart h p (later_dart t h n) side ≡ next_dart h p (later_dart t h n') side
      go (inl d) rest = ap (map.alpha (label_at (letters rule Left h) (turned_from p d).1)) (rest (turned_from p d).0 (turned_from p d).2)
      go (inr d) rest = refl

  abbrev hook_dart : ℕ → ℕ → ℕ → ℕ
  hook_dart zero h p = slice_index walk p
  hook_dart (suc t) h p = later_dart (suc t) h (suc p) p

  hook_begins : (t h d : ℕ) → slice_get hooks t ≡ Some d → hook_dart t h 0 ≡ d
  unfolding later_dart
  hook_begins zero h d at = begins positions at
    where
      begins : {named steps : List ℕ} → ArePositions map rule base named steps → slice_get named 0 ≡ Some d → slice_index steps 0 ≡ d
      begins (Created none one) e = none_some d e
      begins (Walked e others steps live is_walk size turns) f = first_at steps d (is_walk.starts ∙ f)
  hook_begins (suc t) h d at = get_or_from_slice_get hooks (suc t) d 0 at

  hook_in_step : (t h p q m : ℕ) → 0 < t → 0 < p → p < base.positions → IsFirstTurn rule base p q m → hook_dart t h p ≡ map.alpha (label_at (letters rule Left h) m) (hook_dart t h q)
  unfolding later_dart next_dart
  hook_in_step zero h p q m later some b turn = absurd (omega arith)
  hook_in_step (suc t) h zero q m later some b turn = absurd (omega arith)
  hook_in_step (suc t) h (suc p) q m later some b turn = go (cases_lt (suc p) base.positions)
    where
      go : (side : (suc p < base.positions) ⊎ (base.positions ≤ suc p)) → next_dart h p (later_dart (suc t) h (suc p)) side ≡ map.alpha (label_at (letters rule Left h) m) (hook_dart (suc t) h q)
      go (inr none) = absurd (omega (arith, b, none))
      go (inl c) = at (turned_from p c)
        where
          at : (found : (q : ℕ) × (m : ℕ) × (q < suc p) × IsFirstTurn rule base (suc p) q m) → map.alpha (label_at (letters rule Left h) found.1) (later_dart (suc t) h (suc p) found.0) ≡ map.alpha (label_at (letters rule Left h) m) (hook_dart (suc t) h q)
          at (q', m', earlier, other) =
              let one : (q' ≡ q) × (m' ≡ m) = one_first_turn rule base (suc p) q' m' q m other turn in
              ap (λ k. map.alpha (label_at (letters rule Left h) k) (later_dart (suc t) h (suc p) q')) one.1
              ∙ ap (map.alpha (label_at (letters rule Left h) m)) (ap (later_dart (suc t) h (suc p)) one.0 ∙ same_later (suc t) h (suc p) (suc q) q (omega (arith, earlier, one.0)) (omega arith))

module _ (map : Map) (rule : Rule) (is_map : IsMap map) (old : IsGeneralised map) (in_range : IsInRange map.schema rule) (incidence : HasIncidence map.schema.dim rule) where
  -- ---- the candidate from a walk

  module _ (base : Placement) (hooks walk : List ℕ) (count : length hooks ≡ length rule.hooks) (positions : ArePositions map rule base hooks walk) where
    -- a left node lies where its least path leads from its hook
    abbrev dart_by : (x p : ℕ) → IsTrue (has_word rule Left x) ⊎ (has_word rule Left x ≡ false) → ℕ
    dart_by x p (inl left) = let to : (hook : ℕ) × (path : List ℕ) × IsPathTo rule x hook path = least_path map.schema rule in_range incidence x left in
        follow map.alpha to.1 (hook_dart map rule base hooks walk positions to.2.index to.0 p)
    dart_by x p (inr right) = 0

    by_path : (x p h : ℕ) (path : List ℕ) (side : IsTrue (has_word rule Left x) ⊎ (has_word rule Left x ≡ false)) → IsTrue (has_word rule Left x) → (to : IsPathTo rule x h path) →
        dart_by x p side ≡ follow map.alpha path (hook_dart map rule base hooks walk positions to.index h p)
    by_path x p h path (inr right) left to = not_both (has_word rule Left x) left right
    by_path x p h path (inl left) l to = go (least_path map.schema rule in_range incidence x left)
      where
        go : (least : (hook : ℕ) × (path : List ℕ) × IsPathTo rule x hook path) →
            follow map.alpha least.1 (hook_dart map rule base hooks walk positions least.2.index least.0 p) ≡ follow map.alpha path (hook_dart map rule base hooks walk positions to.index h p)
        go (hook, known, least) =
            let one : (hook ≡ h) × (known ≡ path) = same_path rule x hook h known path least to in
            let index : least.index ≡ to.index = one_index rule.hooks h least.index to.index in_range.hooks_differ (least.hook_at ∙ ap Some one.0) to.hook_at in
            ap (λ way. follow map.alpha way (hook_dart map rule base hooks walk positions least.index hook p)) one.1
            ∙ ap (λ g. follow map.alpha path (hook_dart map rule base hooks walk positions least.index g p)) one.0
            ∙ ap (λ t. follow map.alpha path (hook_dart map rule base hooks walk positions t h p)) index

    abbrev placed_from : Placement
    placed_from = record { positions = base.positions; turn = base.turn; dart_of = λ x p. dart_by x p (true_or_false (has_word rule Left x)) }

    hook_lies : (t h p : ℕ) → slice_get rule.hooks t ≡ Some h → placed_from.dart_of h p ≡ hook_dart map rule base hooks walk positions t h p
    hook_lies t h p at = by_path h p h [] (true_or_false (has_word rule Left h)) (hook_left map.schema rule in_range incidence t h at) own ∙ ap (λ u. hook_dart map rule base hooks walk positions u h p) (one_index rule.hooks h own.index t in_range.hooks_differ own.hook_at at)
      where
        own : IsPathTo rule h h []
        own = hook_path rule in_range.hooks_differ t h at

    placed_there : {named steps : List ℕ} → ArePositions map rule base named steps → ArePositions map rule placed_from named steps
    placed_there (Created none one) = Created none one
    placed_there (Walked d others steps live is_walk size turns) = Walked d others steps live is_walk size turns

    is_candidate : IsCandidate map rule hooks placed_from
    is_candidate = record {
      count = count;
      walk = walk;
      positions = placed_there positions;
      hooked = λ h p at b. hook_lies 0 h p at;
      at_darts = λ t h d at named. hook_lies t h 0 at ∙ hook_begins map rule base hooks walk positions t h d named;
      in_step = λ t h p q m later at some b turn.
          hook_lies t h p at
          ∙ hook_in_step map rule base hooks walk positions t h p q m later some b (record { position = turn.position; within = turn.within; turns = turn.turns; first = turn.first })
          ∙ ap (map.alpha (label_at (letters rule Left h) m)) (sym (hook_lies t h q at));
      forced = λ x p hook path at to. by_path x p hook path (true_or_false (has_word rule Left x)) at.0 to ∙ ap (follow map.alpha path) (sym (hook_lies to.index hook p to.hook_at));
    }

  abbrev along_walk : List ℕ → Placement
  along_walk walk = record {
    positions = length walk;
    turn = λ p m. place_by walk (along_hook map rule (slice_index walk p) m) (place_of walk (along_hook map rule (slice_index walk p) m));
    dart_of = λ x p. 0;
  }

  walked : (d : ℕ) (others walk : List ℕ) → IsDart map d → IsWalk (along_hook map rule) (width rule) d walk → ArePositions map rule (along_walk walk) (d ∷ others) walk
  walked d others walk live is_walk = Walked d others walk live is_walk refl (λ p m b h. placed walk (along_hook map rule (slice_index walk p) m) (place_of walk (along_hook map rule (slice_index walk p) m)) (is_walk.closed p m (inl b) b h))

  no_hooks : (hooks : List ℕ) → 0 ≡ length hooks → hooks ≡ []
  no_hooks [] e = refl
  no_hooks (h ∷ hooks) e = absurd (omega arith)

  pub candidate_exists : (hooks : List ℕ) → length hooks ≡ length rule.hooks → ((d : ℕ) → Contains hooks d → IsDart map d) → (place : Placement) × IsCandidate map rule hooks place
  candidate_exists [] count darts =
      let base : Placement = record { positions = 1; turn = λ p m. 0; dart_of = λ x p. 0 } in
      let positions : ArePositions map rule base [] [] = Created (no_hooks rule.hooks count) refl in
      (placed_from base [] [] count positions, is_candidate base [] [] count positions)
  candidate_exists (d ∷ others) count darts = go (walk_exists (along_hook map rule) (width rule) d (IsDart map) live (λ e l h live. old.stays e (hook_label rule l) live (hook_label_up_to map.schema rule in_range l)) map.next is_map.below)
    where
      live : IsDart map d
      live = darts d (0, omega arith, refl)

      go : (walk : List ℕ) × IsWalk (along_hook map rule) (width rule) d walk → (place : Placement) × IsCandidate map rule (d ∷ others) place
      go (walk, is_walk) =
          let positions : ArePositions map rule (along_walk walk) (d ∷ others) walk = walked d others walk live is_walk in
          (placed_from (along_walk walk) (d ∷ others) walk count positions, is_candidate (along_walk walk) (d ∷ others) walk count positions)

-- a candidate has a position
pub some_position : (map : Map) (rule : Rule) (hooks : List ℕ) (place : Placement) → IsCandidate map rule hooks place → 0 < place.positions
some_position map rule hooks place candidate = some_position_walked map rule hooks candidate.walk place candidate.positions

-- whether a pair comes before another
pub decide_before : (x p y q : ℕ) → IsDecided (IsPairBefore x p y q)
decide_before x p y q = go (pair_order x p y q)
  where
    go : ((x ≡ y) × (p ≡ q)) ⊎ (IsPairBefore x p y q ⊎ IsPairBefore y q x p) → IsDecided (IsPairBefore x p y q)
    go (inr (inl before)) = inl before
    go (inl (e, f)) = inr neither
      where
        neither : IsPairBefore x p y q → ⊥
        neither (inl h) = omega arith
        neither (inr (g, h)) = omega arith
    go (inr (inr after)) = inr (both after)
      where
        both : IsPairBefore y q x p → IsPairBefore x p y q → ⊥
        both (inl h) (inl k) = omega arith
        both (inl h) (inr (e, k)) = omega arith
        both (inr (e, h)) (inl k) = omega arith
        both (inr (e, h)) (inr (f, k)) = omega arith

-- ---- over a placement

module _ (app : Application) where
  -- ---- a hook that names no dart

  abbrev pub IsDead : ℕ → Type 0
  IsDead k = (d : ℕ) × (slice_get app.hooks k ≡ Some d) × (IsDart app.map d → ⊥)

  live_hook : (k d : ℕ) → (IsDead k → ⊥) → slice_get app.hooks k ≡ Some d → IsDart app.map d
  live_hook k d none at = go (true_or_false (app.map.live d))
    where
      go : IsDart app.map d ⊎ (app.map.live d ≡ false) → IsDart app.map d
      go (inl live) = live
      go (inr dead) = absurd (none (d, at, λ live. not_both (app.map.live d) live dead))

  decide_dead : (k : ℕ) → IsDecided (IsDead k)
  decide_dead k = go (slice_get app.hooks k) refl
    where
      go : (o : Option ℕ) → slice_get app.hooks k ≡ o → IsDecided (IsDead k)
      go None e = inr (λ h. none_some h.0 (sym e ∙ h.1))
      go (Some d) e = side (true_or_false (app.map.live d))
        where
          side : IsDart app.map d ⊎ (app.map.live d ≡ false) → IsDecided (IsDead k)
          side (inl live) = inr (λ h. h.2 (subst (IsDart app.map) (some_same d h.0 (sym e ∙ h.1)) live))
          side (inr dead) = inl (d, e, λ live. not_both (app.map.live d) live dead)

  pub dead_or_live : ((k : ℕ) × (k < length app.hooks) × IsLeast IsDead k) ⊎ HasHookDarts app
  dead_or_live = go (least_below IsDead decide_dead (length app.hooks))
    where
      go : ((k : ℕ) × (k < length app.hooks) × IsLeast IsDead k) ⊎ ((k : ℕ) → k < length app.hooks → IsDead k → ⊥) → ((k : ℕ) × (k < length app.hooks) × IsLeast IsDead k) ⊎ HasHookDarts app
      go (inl dead) = inl dead
      go (inr none) = inr (λ d c. live_hook c.0 d (none c.0 c.1) (contained_at app.hooks d c))

  pub dead_refused : (k : ℕ) → IsLeast IsDead k → IsRefused app (NoDart k)
  dead_refused k ((d, at, dead), least) = NoHookDart k d at dead (λ j e h f. live_hook j e (least j h) f)

  module _ (place : Placement) where
    -- ---- a left step that isn't met

    decide_step : (x p i : ℕ) (s : Step) → IsDecided (IsStepMet app.map.alpha place x p i s)
    decide_step x p i Absent = inl tt
    decide_step x p i (Exp y) = go (cases_eq (app.map.alpha i (place.dart_of x p)) (place.dart_of y p)) (cases_eq (app.map.alpha i (place.dart_of y p)) (place.dart_of x p))
      where
        go : IsDecided (app.map.alpha i (place.dart_of x p) ≡ place.dart_of y p) → IsDecided (app.map.alpha i (place.dart_of y p) ≡ place.dart_of x p) → IsDecided (IsStepMet app.map.alpha place x p i (Exp y))
        go (inl e) (inl f) = inl (e, f)
        go (inr other) side = inr (λ h. other h.0)
        go (inl e) (inr other) = inr (λ h. other h.1)
    decide_step x p i (Imp m) = cases_eq (app.map.alpha i (place.dart_of x p)) (place.dart_of x (place.turn p m))

    abbrev IsBroken : ℕ → ℕ → ℕ → Type 0
    IsBroken x p i = IsMetAt app.map app.rule place x p i → ⊥

    decide_broken : (x p i : ℕ) → IsDecided (IsBroken x p i)
    decide_broken x p i = go (decide_step x p i (step app.rule Left x i))
      where
        go : IsDecided (IsMetAt app.map app.rule place x p i) → IsDecided (IsBroken x p i)
        go (inl met) = inr (λ none. none met)
        go (inr none) = inl none

    met : (x p i : ℕ) → (IsBroken x p i → ⊥) → IsMetAt app.map app.rule place x p i
    met x p i unbroken = go (decide_step x p i (step app.rule Left x i))
      where
        go : IsDecided (IsMetAt app.map app.rule place x p i) → IsMetAt app.map app.rule place x p i
        go (inl h) = h
        go (inr none) = absurd (unbroken none)

    -- the first label at which a step of the instance isn't met
    abbrev HasBroken : ℕ → ℕ → Type 0
    HasBroken x p = IsTrue (has_word app.rule Left x) × ((i : ℕ) × (i < dimension app.map + 1) × IsLeast (IsBroken x p) i)

    none_broken : (x p : ℕ) → IsTrue (has_word app.rule Left x) → (HasBroken x p → ⊥) → (i : ℕ) → i ≤ dimension app.map → IsBroken x p i → ⊥
    none_broken x p left none i b broken = go (least_below (IsBroken x p) (decide_broken x p) (dimension app.map + 1))
      where
        go : ((i : ℕ) × (i < dimension app.map + 1) × IsLeast (IsBroken x p) i) ⊎ ((i : ℕ) → i < dimension app.map + 1 → IsBroken x p i → ⊥) → ⊥
        go (inl found) = none (left, found)
        go (inr nowhere) = nowhere i (omega arith) broken

    decide_has_broken : (x p : ℕ) → IsDecided (HasBroken x p)
    decide_has_broken x p = go (true_or_false (has_word app.rule Left x)) (least_below (IsBroken x p) (decide_broken x p) (dimension app.map + 1))
      where
        go : IsTrue (has_word app.rule Left x) ⊎ (has_word app.rule Left x ≡ false) → ((i : ℕ) × (i < dimension app.map + 1) × IsLeast (IsBroken x p) i) ⊎ ((i : ℕ) → i < dimension app.map + 1 → IsBroken x p i → ⊥) → IsDecided (HasBroken x p)
        go (inr right) side = inr (λ h. not_both (has_word app.rule Left x) h.0 right)
        go (inl left) (inl found) = inl (left, found)
        go (inl left) (inr none) = inr (λ h. none h.1.0 h.1.1 h.1.2.0)

    pub broken_or_met : ((x : ℕ) × (p : ℕ) × (i : ℕ) × IsFirstBroken app place x p i) ⊎ MeetsSteps app place
    broken_or_met = go (first_pair HasBroken decide_has_broken place.positions (length app.rule.nodes))
      where
        go : ((x : ℕ) × (p : ℕ) × (x < length app.rule.nodes) × IsFirstPair HasBroken decide_has_broken place.positions x p) ⊎ ((x p : ℕ) → x < length app.rule.nodes → p < place.positions → HasBroken x p → ⊥) →
            ((x : ℕ) × (p : ℕ) × (i : ℕ) × IsFirstBroken app place x p i) ⊎ MeetsSteps app place
        go (inr none) = inr (λ x p i at h. met x p i (none_broken x p at.0 (none x p (word_below app.rule Left x at.0) at.1) i h))
        go (inl (x, p, b, first)) = inl (x, p, first.here.1.0, record { instance = (first.here.0, first.within); label = (let h : first.here.1.0 < dimension app.map + 1 = first.here.1.1 in omega arith); broken = first.here.1.2.0; before = before })
          where
            before : (y q j : ℕ) → IsStepBefore app place y q j x p first.here.1.0 → IsInstance app.rule place y q → j ≤ dimension app.map → IsMetAt app.map app.rule place y q j
            before y q j (inl earlier) at h = met y q j (none_broken y q at.0 (first.before y q earlier at.1) j h)
            before y q j (inr (e, f, h)) at k = met y q j (λ broken. first.here.1.2.1 j h (subst (λ z. IsBroken z p j) e (subst (λ s. IsBroken y s j) f broken)))

    -- ---- a dart that is taken twice

    decide_instance : (x p : ℕ) → IsDecided (IsInstance app.rule place x p)
    decide_instance x p = go (true_or_false (has_word app.rule Left x)) (cases_lt p place.positions)
      where
        go : IsTrue (has_word app.rule Left x) ⊎ (has_word app.rule Left x ≡ false) → (p < place.positions) ⊎ (place.positions ≤ p) → IsDecided (IsInstance app.rule place x p)
        go (inl left) (inl b) = inl (left, b)
        go (inr right) side = inr (λ h. not_both (has_word app.rule Left x) h.0 right)
        go (inl left) (inr b) = inr (λ h. omega (arith, h.1))

    decide_repeat : (y q x p : ℕ) → IsDecided (IsRepeat app place x p y q)
    decide_repeat y q x p = go (decide_instance x p) (decide_instance y q) (decide_before x p y q) (cases_eq (place.dart_of x p) (place.dart_of y q))
      where
        go : IsDecided (IsInstance app.rule place x p) → IsDecided (IsInstance app.rule place y q) → IsDecided (IsPairBefore x p y q) → (place.dart_of x p ≡ place.dart_of y q) ⊎ (place.dart_of x p ≡ place.dart_of y q → ⊥) → IsDecided (IsRepeat app place x p y q)
        go (inl a) (inl b) (inl c) (inl e) = inl (record { first = a; second = b; later = c; same = e })
        go (inr none) b c e = inr (λ r. none r.first)
        go (inl a) (inr none) c e = inr (λ r. none r.second)
        go (inl a) (inl b) (inr none) e = inr (λ r. none r.later)
        go (inl a) (inl b) (inl c) (inr none) = inr (λ r. none r.same)

    abbrev HasRepeat : ℕ → ℕ → Type 0
    HasRepeat y q = (x : ℕ) × (p : ℕ) × IsRepeat app place x p y q

    decide_has_repeat : (y q : ℕ) → IsDecided (HasRepeat y q)
    decide_has_repeat y q = go (decide_pair_below (λ x p. IsRepeat app place x p y q) (decide_repeat y q) place.positions (length app.rule.nodes))
      where
        go : ((x : ℕ) × (p : ℕ) × (x < length app.rule.nodes) × (p < place.positions) × IsRepeat app place x p y q) ⊎ ((x p : ℕ) → x < length app.rule.nodes → p < place.positions → IsRepeat app place x p y q → ⊥) → IsDecided (HasRepeat y q)
        go (inl (x, p, b, c, r)) = inl (x, p, r)
        go (inr none) = inr (λ h. none h.0 h.1 (word_below app.rule Left h.0 h.2.first.0) h.2.first.1 h.2)

    pub repeat_or_none : ((x : ℕ) × (p : ℕ) × (y : ℕ) × (q : ℕ) × IsFirstRepeat app place x p y q) ⊎ HasNoRepeat app place
    repeat_or_none = go (first_pair HasRepeat decide_has_repeat place.positions (length app.rule.nodes))
      where
        go : ((y : ℕ) × (q : ℕ) × (y < length app.rule.nodes) × IsFirstPair HasRepeat decide_has_repeat place.positions y q) ⊎ ((y q : ℕ) → y < length app.rule.nodes → q < place.positions → HasRepeat y q → ⊥) →
            ((x : ℕ) × (p : ℕ) × (y : ℕ) × (q : ℕ) × IsFirstRepeat app place x p y q) ⊎ HasNoRepeat app place
        go (inl (y, q, b, first)) = inl (first.here.0, first.here.1, y, q, record { here = first.here.2; before = λ x' p' y' q' earlier r. first.before y' q' earlier r.second.1 (x', p', r) })
        go (inr none) = inr (λ x p y q r. none y q (word_below app.rule Left y r.second.0) r.second.1 (x, p, r))
