-- What becomes of an application's candidate: it has one end, as any two candidates are like.
use Rattle.std.proofs.Common.{◌≡◌, ℕ, false, true, ◌+◌, ◌*◌, ◌<◌, ◌≤◌, ◌⊎◌, inl, inr, List, Option, Some, None, refl, sym, ap, ap₂, subst, ◌∙◌, arith}
use Rattle.std.proofs.lemmas.Bool.{cases_order}
use Rattle.std.proofs.lemmas.Option.{slice_get_within, get_or_from_slice_get}
use Rattle.std.specs.List.{slice_get}
use Rattle.gm_model.specs.declared.value.Value.{Value}
use Rattle.gm_model.specs.declared.value.Value.TheVariants as values
use Rattle.gm_model.specs.Applications.{Application, Cause, NoDart, Arc, Same, PreNoValue, PreFalse, FullDarts, FullNames, HasHookDarts, MeetsSteps, IsFirstBroken, IsFirstRepeat, MeetsPre, IsReady, IsStaying, IsDone, IsRefused, NoHookDart, BrokenStep, Repeated, ValuelessPre, FalsePre, NoRoom, NoNames, more, reading_at}
use Rattle.gm_model.specs.Applications as causes
use Rattle.gm_model.specs.Expressions.{HasValue, HasNoValue}
use Rattle.gm_model.specs.Limits.{most_darts, most_names}
use Rattle.gm_model.specs.Maps.{Map, IsDart, IsSchema, dimension}
use Rattle.gm_model.specs.Matches.{Placement, IsCandidate, IsInstance, IsMatch, IsMetAt}
use Rattle.gm_model.specs.Orbits.{HasCount, IsPairBefore}
use Rattle.gm_model.specs.Rules.{Rule}
use Rattle.gm_model.specs.Trees.{Tree}
use Rattle.gm_model.specs.Unfolding.{added_nodes}
use Rattle.gm_apply.proofs.LikeApplications.{here, there, staying_there, pre_value_there, pre_no_value_there, meets_pre_there, ready_there}
use Rattle.gm_apply.proofs.LikePlaces.{AreLikeAt, same_map}
use Rattle.gm_theory.specs.inner.OneMatch.{IsLike}
use Rattle.gm_theory.proofs.LikeCandidates.{instance_there, repeat_like, candidates_like, steps_like, found_like}
use Rattle.gm_theory.proofs.Agreement.{met_alike}
use Rattle.gm_theory.proofs.Found.{HasNoRepeat, IsFound, found_match, match_found}
use Rattle.gm_theory.proofs.Lists.{none_some, some_same}
use Rattle.gm_theory.proofs.ReadingsDecided.{not_both_truths}
use Rattle.gm_theory.proofs.Turns.{some_position_walked}
use Rattle.gm_theory.proofs.ValuesUnique.{one_count}
use Rattle.gm_theory.proofs.Walks.{pair_order}
use Rattle.gm_run.proofs.AlikeLemmas.{Suits}
use Rattle.gm_run.proofs.ReadyEnds.{IsReadyEnd, Lacks, HasAll, ready_end_there, one_ready_end, result_has_all}

-- ---- ends

-- With so many darts that stay, and so many new ones, the result has room, or it has none for this cause.
pub data IsRoom (next new live : ℕ) : Option Cause → Type 0 where
  OverDarts : most_darts < live + new → IsRoom next new live (Some (FullDarts live new))
  OverNames : live + new ≤ most_darts → most_names < next + new → IsRoom next new live (Some (FullNames next new))
  HasBoth : live + new ≤ most_darts → next + new ≤ most_names → IsRoom next new live None

-- The match is refused for this cause; without one its result is made.
pub data IsFoundEnd (app : Application) (place : Placement) : Option Cause → Type 0 where
  Valueless : (tree : Tree) → app.rule.pre ≡ Some tree → HasNoValue (reading_at app place 0) tree → IsFoundEnd app place (Some PreNoValue)
  Untrue : (tree : Tree) → app.rule.pre ≡ Some tree → HasValue (reading_at app place 0) tree (values.Bool false) → IsFoundEnd app place (Some PreFalse)
  Full : (live : ℕ) (cause : Cause) → MeetsPre app place → HasCount (IsStaying app place) live → IsRoom app.map.next (more app place) live (Some cause) → IsFoundEnd app place (Some cause)
  Readies : (told : Option Cause) → IsReady app place → IsReadyEnd app place told → IsFoundEnd app place told

-- The candidate is refused for this cause; without one its result is made.
pub data IsEnd (app : Application) (place : Placement) : Option Cause → Type 0 where
  Breaks : (x p i : ℕ) → IsFirstBroken app place x p i → IsEnd app place (Some (Arc x p i))
  Repeats : (x p y q : ℕ) → MeetsSteps app place → IsFirstRepeat app place x p y q → IsEnd app place (Some (Same x p y q))
  Fits : (told : Option Cause) → MeetsSteps app place → HasNoRepeat app place → IsFoundEnd app place told → IsEnd app place told

one_room : (next new live : ℕ) (told other : Option Cause) → IsRoom next new live told → IsRoom next new live other → told ≡ other
one_room next new live _ _ (OverDarts h) (OverDarts k) = refl
one_room next new live _ _ (OverDarts h) (OverNames k l) = absurd (omega (arith, h, k))
one_room next new live _ _ (OverDarts h) (HasBoth k l) = absurd (omega (arith, h, k))
one_room next new live _ _ (OverNames h k) (OverDarts l) = absurd (omega (arith, h, l))
one_room next new live _ _ (OverNames h k) (OverNames l m) = refl
one_room next new live _ _ (OverNames h k) (HasBoth l m) = absurd (omega (arith, k, m))
one_room next new live _ _ (HasBoth h k) (OverDarts l) = absurd (omega (arith, h, l))
one_room next new live _ _ (HasBoth h k) (OverNames l m) = absurd (omega (arith, k, m))
one_room next new live _ _ (HasBoth h k) (HasBoth l m) = refl

module _ (app : Application) (place : Placement) where
  -- one step is the first that isn't met
  one_broken : (x p i y q j : ℕ) → IsFirstBroken app place x p i → IsFirstBroken app place y q j → Arc x p i ≡ Arc y q j
  one_broken x p i y q j first second = go (pair_order x p y q)
    where
      ends : (x ≡ y) × (p ≡ q) → (i ≡ j) ⊎ ((i < j) ⊎ (j < i)) → Arc x p i ≡ Arc y q j
      ends e (inl f) = ap (λ z. Arc z p i) e.0 ∙ ap (λ z. Arc y z i) e.1 ∙ ap (λ z. Arc y q z) f
      ends e (inr (inl less)) = absurd (first.broken (second.before x p i (inr (e.0, e.1, less)) first.instance first.label))
      ends e (inr (inr more)) = absurd (second.broken (first.before y q j (inr (sym e.0, sym e.1, more)) second.instance second.label))

      go : ((x ≡ y) × (p ≡ q)) ⊎ (IsPairBefore x p y q ⊎ IsPairBefore y q x p) → Arc x p i ≡ Arc y q j
      go (inl e) = ends e (cases_order i j)
      go (inr (inl before)) = absurd (first.broken (second.before x p i (inl before) first.instance first.label))
      go (inr (inr before)) = absurd (second.broken (first.before y q j (inl before) second.instance second.label))

  -- one instance is the first that repeats a dart, and one has it before
  one_repeat : (x p y q x' p' y' q' : ℕ) → IsFirstRepeat app place x p y q → IsFirstRepeat app place x' p' y' q' → Same x p y q ≡ Same x' p' y' q'
  one_repeat x p y q x' p' y' q' first second = go (pair_order y q y' q')
    where
      -- where both begin, one would repeat the other
      firsts : (y ≡ y') × (q ≡ q') → ((x ≡ x') × (p ≡ p')) ⊎ (IsPairBefore x p x' p' ⊎ IsPairBefore x' p' x p) → Same x p y q ≡ Same x' p' y' q'
      firsts e (inl f) = ap (λ z. Same z p y q) f.0 ∙ ap (λ z. Same x' z y q) f.1 ∙ ap (λ z. Same x' p' z q) e.0 ∙ ap (λ z. Same x' p' y' z) e.1
      firsts e (inr (inl before)) =
          absurd (second.before x p x' p' second.here.later
          (record { first = first.here.first; second = second.here.first; later = before; same = first.here.same ∙ ap₂ place.dart_of e.0 e.1 ∙ sym second.here.same }))
      firsts e (inr (inr before)) =
          absurd (first.before x' p' x p first.here.later
          (record { first = second.here.first; second = first.here.first; later = before; same = second.here.same ∙ ap₂ place.dart_of (sym e.0) (sym e.1) ∙ sym first.here.same }))

      go : ((y ≡ y') × (q ≡ q')) ⊎ (IsPairBefore y q y' q' ⊎ IsPairBefore y' q' y q) → Same x p y q ≡ Same x' p' y' q'
      go (inl e) = firsts e (pair_order x p x' p')
      go (inr (inl before)) = absurd (second.before x p y q before first.here)
      go (inr (inr before)) = absurd (first.before x' p' y' q' before second.here)

  -- it isn't both met and refused
  met_or_valueless : (tree : Tree) → app.rule.pre ≡ Some tree → HasNoValue (reading_at app place 0) tree → MeetsPre app place → ⊥
  met_or_valueless tree is none pre = none (values.Bool true) (pre tree is)

  met_or_false : (tree : Tree) → app.rule.pre ≡ Some tree → HasValue (reading_at app place 0) tree (values.Bool false) → MeetsPre app place → ⊥
  met_or_false tree is false_there pre = not_both_truths (reading_at app place 0) tree (pre tree is) false_there

  valueless_or_false : (tree other : Tree) → app.rule.pre ≡ Some tree → app.rule.pre ≡ Some other → HasNoValue (reading_at app place 0) tree → HasValue (reading_at app place 0) other (values.Bool false) → ⊥
  valueless_or_false tree other is is' none false_there = none (values.Bool false) (subst (λ t. HasValue (reading_at app place 0) t (values.Bool false)) (some_same other tree (sym is' ∙ is)) false_there)

  full_or_ready : (live : ℕ) (cause : Cause) → HasCount (IsStaying app place) live → IsRoom app.map.next (more app place) live (Some cause) → IsReady app place → ⊥
  full_or_ready live cause counted room ready =
      let same : ready.live ≡ live = one_count (IsStaying app place) ready.live live ready.live_is counted in
      none_some cause (one_room app.map.next (more app place) live None (Some cause) (HasBoth (subst (λ n. n + more app place ≤ most_darts) same ready.darts_fit) ready.names_fit) room)

module _ (app : Application) (suits : Suits app.rule app.map) (place : Placement) where
  one_found_end : (told other : Option Cause) → IsFoundEnd app place told → IsFoundEnd app place other → told ≡ other
  one_found_end _ _ (Valueless tree is none) (Valueless tree' is' none') = refl
  one_found_end _ _ (Valueless tree is none) (Untrue tree' is' false_there) = absurd (valueless_or_false app place tree tree' is is' none false_there)
  one_found_end _ _ (Valueless tree is none) (Full live cause pre counted room) = absurd (met_or_valueless app place tree is none pre)
  one_found_end _ other (Valueless tree is none) (Readies _ ready end) = absurd (met_or_valueless app place tree is none ready.pre)
  one_found_end _ _ (Untrue tree is false_there) (Valueless tree' is' none) = absurd (valueless_or_false app place tree' tree is' is none false_there)
  one_found_end _ _ (Untrue tree is false_there) (Untrue tree' is' false_there') = refl
  one_found_end _ _ (Untrue tree is false_there) (Full live cause pre counted room) = absurd (met_or_false app place tree is false_there pre)
  one_found_end _ other (Untrue tree is false_there) (Readies _ ready end) = absurd (met_or_false app place tree is false_there ready.pre)
  one_found_end _ _ (Full live cause pre counted room) (Valueless tree is none) = absurd (met_or_valueless app place tree is none pre)
  one_found_end _ _ (Full live cause pre counted room) (Untrue tree is false_there) = absurd (met_or_false app place tree is false_there pre)
  one_found_end _ _ (Full live cause pre counted room) (Full live' cause' pre' counted' room') =
      let same : live' ≡ live = one_count (IsStaying app place) live' live counted' counted in
      one_room app.map.next (more app place) live (Some cause) (Some cause') room (subst (λ n. IsRoom app.map.next (more app place) n (Some cause')) same room')
  one_found_end _ other (Full live cause pre counted room) (Readies _ ready end) = absurd (full_or_ready app place live cause counted room ready)
  one_found_end told _ (Readies _ ready end) (Valueless tree is none) = absurd (met_or_valueless app place tree is none ready.pre)
  one_found_end told _ (Readies _ ready end) (Untrue tree is false_there) = absurd (met_or_false app place tree is false_there ready.pre)
  one_found_end told _ (Readies _ ready end) (Full live cause pre counted room) = absurd (full_or_ready app place live cause counted room ready)
  one_found_end told other (Readies _ ready end) (Readies _ ready' end') = one_ready_end app suits place ready.matched told other end end'

  one_end : (told other : Option Cause) → IsEnd app place told → IsEnd app place other → told ≡ other
  one_end _ _ (Breaks x p i first) (Breaks y q j second) = ap Some (one_broken app place x p i y q j first second)
  one_end _ _ (Breaks x p i first) (Repeats x' p' y' q' steps again) = absurd (first.broken (steps x p i first.instance first.label))
  one_end _ other (Breaks x p i first) (Fits _ steps distinct end) = absurd (first.broken (steps x p i first.instance first.label))
  one_end _ _ (Repeats x p y q steps first) (Breaks x' p' i broken) = absurd (broken.broken (steps x' p' i broken.instance broken.label))
  one_end _ _ (Repeats x p y q steps first) (Repeats x' p' y' q' steps' second) = ap Some (one_repeat app place x p y q x' p' y' q' first second)
  one_end _ other (Repeats x p y q steps first) (Fits _ steps' distinct end) = absurd (distinct x p y q first.here)
  one_end told _ (Fits _ steps distinct end) (Breaks x p i first) = absurd (first.broken (steps x p i first.instance first.label))
  one_end told _ (Fits _ steps distinct end) (Repeats x p y q steps' first) = absurd (distinct x p y q first.here)
  one_end told other (Fits _ steps distinct end) (Fits _ steps' distinct' end') = one_found_end told other end end'

-- ---- the same end over maps and places that are like

module _ (rule : Rule) (hooks : List ℕ) (params : List Value) (a b : Map) (place other : Placement) (like : AreLikeAt rule a b place other) (of_schema : IsSchema a.schema) (matched : IsMatch a rule hooks place) (matched_too : IsMatch b rule hooks other) where
  some : 0 < place.positions
  some = some_position_walked a rule hooks matched.walk place matched.positions

  pub found_end_there : (told : Option Cause) → IsFoundEnd (here rule hooks params a b place other like) place told → IsFoundEnd (there rule hooks params a b place other like) other told
  found_end_there _ (Valueless tree is none) = Valueless tree is (pre_no_value_there rule hooks params a b place other like some tree is none)
  found_end_there _ (Untrue tree is false_there) = Untrue tree is (pre_value_there rule hooks params a b place other like some tree (values.Bool false) is false_there)
  found_end_there _ (Full live cause pre counted room) =
      Full live cause (meets_pre_there rule hooks params a b place other like some pre) (staying_there rule hooks params a b place other like live counted)
      (subst (λ n. IsRoom b.next (n * added_nodes rule) live (Some cause)) like.like.positions (subst (λ n. IsRoom n (place.positions * added_nodes rule) live (Some cause)) like.next room))
  found_end_there told (Readies _ ready end) = Readies told (ready_there rule hooks params a b place other like ready matched_too) (ready_end_there rule hooks params a b place other like of_schema matched told end)

-- ---- candidates that are like have the same end

module _ (app : Application) (suits : Suits app.rule app.map) (place other : Placement) (ours : IsCandidate app.map app.rule app.hooks place) (darts : HasHookDarts app) (theirs : IsCandidate app.map app.rule app.hooks other) where
  like : IsLike app.rule place other
  like = candidates_like app suits.accepted.in_range suits.accepted.incidence place other ours theirs

  back : IsLike app.rule other place
  back = candidates_like app suits.accepted.in_range suits.accepted.incidence other place theirs ours

  met_there : (x p i : ℕ) → IsInstance app.rule other x p → i ≤ dimension app.map → IsMetAt app.map app.rule place x p i → IsMetAt app.map app.rule other x p i
  met_there = met_alike app.map app.rule app.hooks suits.accepted.in_range suits.accepted.incidence other place back

  met_back : (x p i : ℕ) → IsInstance app.rule place x p → i ≤ dimension app.map → IsMetAt app.map app.rule other x p i → IsMetAt app.map app.rule place x p i
  met_back = met_alike app.map app.rule app.hooks suits.accepted.in_range suits.accepted.incidence place other like

  broken_like : (x p i : ℕ) → IsFirstBroken app place x p i → IsFirstBroken app other x p i
  broken_like x p i first = record {
    instance = instance_there app place other like x p first.instance;
    label = first.label;
    broken = λ met. first.broken (met_back x p i first.instance first.label met);
    before = λ y q j earlier at h. met_there y q j at h (first.before y q j earlier (instance_there app other place back y q at) h);
  }

  first_repeat_like : (x p y q : ℕ) → IsFirstRepeat app place x p y q → IsFirstRepeat app other x p y q
  first_repeat_like x p y q first = record {
    here = repeat_like app place other like x p y q first.here;
    before = λ x' p' y' q' earlier r. first.before x' p' y' q' earlier (repeat_like app other place back x' p' y' q' r);
  }

  found_here : MeetsSteps app place → HasNoRepeat app place → IsFound app place
  found_here steps distinct = record { darts = darts; candidate = ours; steps = steps; distinct = distinct }

  both_places : IsMatch app.map app.rule app.hooks place → AreLikeAt app.rule app.map app.map place other
  both_places matched = same_map app.rule app.map place other suits.accepted suits.sound.is_map suits.sound.generalised like matched.embedded.live

  end_like : (told : Option Cause) → IsEnd app place told → IsEnd app other told
  end_like _ (Breaks x p i first) = Breaks x p i (broken_like x p i first)
  end_like _ (Repeats x p y q steps first) = Repeats x p y q (steps_like app suits.accepted.in_range suits.accepted.incidence place other like back steps) (first_repeat_like x p y q first)
  end_like told (Fits _ steps distinct end) =
      let found = found_here steps distinct in
      let there = found_like app suits.accepted.in_range suits.accepted.incidence place other theirs found in
      let matched = found_match app place suits.sound.generalised suits.accepted found in
      Fits told there.steps there.distinct (found_end_there app.rule app.hooks app.params app.map app.map place other (both_places matched) suits.of_schema matched (found_match app other suits.sound.generalised suits.accepted there) told end)

-- ---- the end of an application

-- each hook names a live dart, and the candidate has this end
pub record Ends (app : Application) (told : Option Cause) : Type 0 where
  pub place : Placement
  pub darts : HasHookDarts app
  pub candidate : IsCandidate app.map app.rule app.hooks place
  pub is_end : IsEnd app place told

-- the hook is the first that names no live dart
pub record IsDeadHook (app : Application) (index : ℕ) : Type 0 where
  pub dart : ℕ
  pub named : slice_get app.hooks index ≡ Some dart
  pub dead : IsDart app.map dart → ⊥
  pub before : (k e : ℕ) → k < index → slice_get app.hooks k ≡ Some e → IsDart app.map e

-- either it is refused for a hook, or its candidate is refused
abbrev pub IsRefusedBy : Application → Cause → Type 0
IsRefusedBy app cause = ((index : ℕ) × IsDeadHook app index × (cause ≡ NoDart index)) ⊎ Ends app (Some cause)

module _ (app : Application) (suits : Suits app.rule app.map) where
  found_ends : (told : Option Cause) (place : Placement) → IsMatch app.map app.rule app.hooks place → IsFoundEnd app place told → Ends app told
  found_ends told place matched end =
      let found = match_found app place suits.accepted matched in
      record { place = place; darts = found.darts; candidate = found.candidate; is_end = Fits told found.steps found.distinct end }

  pub refused_by : (cause : Cause) → IsRefused app cause → IsRefusedBy app cause
  refused_by _ (NoHookDart index d at dead before) = inl (index, record { dart = d; named = at; dead = dead; before = before }, refl)
  refused_by _ (BrokenStep place x p i darts candidate first) = inr (record { place = place; darts = darts; candidate = candidate; is_end = Breaks x p i first })
  refused_by _ (Repeated place x p y q darts candidate steps first) = inr (record { place = place; darts = darts; candidate = candidate; is_end = Repeats x p y q steps first })
  refused_by _ (ValuelessPre place tree found is none) = inr (found_ends _ place found (Valueless tree is none))
  refused_by _ (FalsePre place tree found is false_there) = inr (found_ends _ place found (Untrue tree is false_there))
  refused_by _ (NoRoom place live found pre counted full) = inr (found_ends _ place found (Full live _ pre counted (OverDarts full)))
  refused_by _ (NoNames place live found pre counted fits full) = inr (found_ends _ place found (Full live _ pre counted (OverNames fits full)))
  refused_by _ (causes.Valueless place live alpha decider ready unfolded first) =
      inr (found_ends _ place ready.matched (Readies _ ready (Lacks (record { live = live; alpha = alpha; next = app.map.next + more app place }) decider unfolded first)))

  pub done_ends : (after : Map) (added removed : ℕ) → IsDone app after added removed → Ends app None
  done_ends after added removed done =
      found_ends None done.place done.ready.matched
      (Readies None done.ready (HasAll (record { live = after.live; alpha = after.alpha; next = after.next }) done.result_is.unfolded (result_has_all app suits done.place done.ready.matched after done.result_is)))

  pub ends_once : (told other : Option Cause) → Ends app told → Ends app other → told ≡ other
  ends_once told other ours theirs =
      one_end app suits theirs.place told other
      (end_like app suits ours.place theirs.place ours.candidate ours.darts theirs.candidate told ours.is_end)
      theirs.is_end

  -- where a hook names no live dart, there is no candidate
  pub dead_or_ends : (index : ℕ) (told : Option Cause) → IsDeadHook app index → Ends app told → ⊥
  dead_or_ends index told hook ends = hook.dead (ends.darts hook.dart (index, slice_get_within app.hooks index hook.dart hook.named, get_or_from_slice_get app.hooks index hook.dart hook.dart hook.named))

  one_hook : (index other : ℕ) → IsDeadHook app index → IsDeadHook app other → index ≡ other
  one_hook index other first second = go (cases_order index other)
    where
      go : (index ≡ other) ⊎ ((index < other) ⊎ (other < index)) → index ≡ other
      go (inl e) = e
      go (inr (inl less)) = absurd (first.dead (second.before index first.dart less first.named))
      go (inr (inr more)) = absurd (second.dead (first.before other second.dart more second.named))

  pub one_cause : (cause other : Cause) → IsRefusedBy app cause → IsRefusedBy app other → cause ≡ other
  one_cause cause other (inl (index, hook, e)) (inl (index', hook', f)) = e ∙ ap NoDart (one_hook index index' hook hook') ∙ sym f
  one_cause cause other (inl (index, hook, e)) (inr ends) = absurd (dead_or_ends index (Some other) hook ends)
  one_cause cause other (inr ends) (inl (index, hook, e)) = absurd (dead_or_ends index (Some cause) hook ends)
  one_cause cause other (inr ends) (inr ends') = some_same cause other (ends_once (Some cause) (Some other) ends ends')

  -- an application that is done isn't refused
  pub done_or_refused : (cause : Cause) → Ends app None → IsRefusedBy app cause → ⊥
  done_or_refused cause done (inl (index, hook, e)) = dead_or_ends index None hook done
  done_or_refused cause done (inr ends) = none_some cause (ends_once None (Some cause) done ends)
