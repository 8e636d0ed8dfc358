-- How far a run has come, statement by statement, and what is known where it ends.
use Rattle.std.proofs.Common.{◌≡◌, ℕ, zero, suc, ◌+◌, ◌≤◌, Bool, true, false, List, [], ◌∷◌, ◌++◌, take, drop, length, Option, None, Some, refl, sym, ap, subst, ◌∙◌, arith}
use Rattle.std.specs.List.{AllByRecursion, count_by}
use Rattle.std.specs.Option.{option_map}
use Rattle.std.specs.Prelude.{is_some, slice_get}
use Rattle.std.proofs.lemmas.List.{take_all, take-append-drop}
use Rattle.gm_model.specs.Statements.{Stat}
use Rattle.gm_model.specs.Statements as statements
use Rattle.gm_model.specs.Budgets.{Bounds, Entries, HasStatBounds, IsRunWithin, no_entries, up_to}
use Rattle.gm_model.specs.Histories.{Group, History, changed, no_history}
use Rattle.gm_model.specs.Maps.{Map, IsSound}
use Rattle.gm_model.specs.Rules.{Rule}
use Rattle.gm_model.specs.Runs.{State, start_of, AreInOrder, IsRun, IsStatOutcome, IsDoneHere, IsRefusedHere, IsSkipped, GoesBack, HasNoPast, GoesForth, HasNoFuture, Begins, Ends, IsTakenBack, GoesOver, behind_each, is_done_turn}
use Rattle.gm_model.specs.Runs as runs
use Rattle.gm_arena.specs.inner.ArenaAsMap.{as_map}
use Rattle.gm_arena.specs.inner.ArenaMap.{ArenaMap}
use Rattle.gm_theory.specs.inner.Suited.{IsSuited}
use Rattle.gm_theory.proofs.RunsFound.{GoesOn, Stands, goes_on, stands_first}
use Rattle.gm_undo.specs.inner.Costs.{MayTake}
use Rattle.gm_undo.specs.inner.Standing.{StandsFor}
use Rattle.gm_run.specs.declared.outcome.Outcome.{Outcome}
use Rattle.gm_run.specs.declared.standing.Open.{Open}
use Rattle.gm_run.specs.declared.standing.Open.TheVariants as opens
use Rattle.gm_run.specs.declared.standing.Standing.{Standing}
use Rattle.gm_run.specs.inner.Alike.{AreAlike, AreAlikeStates}
use Rattle.gm_run.specs.inner.Lines.{Tells}
use Rattle.gm_run.specs.inner.Progress.{IsCutShort, IsLeft, BehindAll}
use Rattle.gm_run.specs.inner.Standing.{HasOpen, HasStep, IsAllowed, IsInGroup, IsStopped, StandsAt}
use Rattle.gm_run.proofs.AlikeStates.{states_alike_self}
use Rattle.gm_run.proofs.Courses.{IsCourse, course_on, run_of, split, together, within_of}
use Rattle.gm_run.proofs.OneRun.{one_bounds, one_run, one_within}
use Rattle.gm_run.proofs.Telling.{last_taken, tells_more, told_once}

-- ---- lists

all_more : {A : Type 0} (P : A → Type 0) (xs : List A) (x : A) → AllByRecursion P xs → P x → AllByRecursion P (xs ++ x ∷ [])
all_more P [] x all here = (here, tt)
all_more P (y ∷ xs) x all here = (all.0, all_more P xs x all.1 here)

-- ---- the first statements, so many of them, were run

pub record IsThrough (rules : List Rule) (before : Map) (stats : List Stat) (lines : List Outcome) (standing : Standing) (m : ArenaMap) (start steps : ℕ) : Type 0 where
  pub told : List runs.Outcome
  pub tells : Tells lines told
  pub state : State
  pub costs : Entries
  pub bounds : Bounds
  pub course : IsCourse rules (start_of before) no_entries stats told state costs bounds
  pub suited : AllByRecursion (IsSuited before.schema rules) stats
  -- the state is sound, and it is where the run stands
  pub sound : Stands before.schema state costs
  pub stands : StandsAt standing m state costs
  pub least : start + bounds.least ≤ steps
  pub most : steps ≤ start + bounds.most

-- in which a group is open
abbrev pub is_open : Open → Bool
is_open opens.Nothing = false
is_open opens.Whole = true
is_open opens.Broken = true

-- ---- the order of statements

pub open_as : (opened : Open) (state : State) → HasOpen opened state → is_open opened ≡ is_some state.history.group
open_as opens.Nothing state has = sym (ap is_some has.0)
open_as opens.Whole state has = sym (ap is_some has.1)
open_as opens.Broken state has = sym (ap is_some has.1)

pub still_open : (group : Option Group) → is_some group ≡ is_some (option_map changed group)
still_open None = refl
still_open (Some group) = refl

pub each_open : (state : State) (after : Map) (done : ℕ) → is_some state.history.group ≡ is_some (behind_each state done after).history.group
each_open state after zero = refl
each_open state after (suc done) = still_open state.history.group

-- behind a step the order goes on
order_behind : (rules : List Rule) (state : State) (stat : Stat) (outcome : runs.Outcome) (after : State) (rest : List Stat) → IsStatOutcome rules state stat outcome after → AreInOrder (is_some state.history.group) (stat ∷ rest) → AreInOrder (is_some after.history.group) rest
order_behind rules state _ _ _ rest (IsDoneHere line added removed after whole is) order = subst (λ o. AreInOrder o rest) (still_open state.history.group) order
order_behind rules state _ _ _ rest (IsRefusedHere line cause whole is) order = order
order_behind rules state _ _ _ rest (IsSkipped line broken) order = order
order_behind rules state _ _ _ rest (GoesBack before history is) order = subst (λ o. AreInOrder o rest) (order.0 ∙ sym (ap (λ (h : History). is_some h.group) is.after)) order.1
order_behind rules state _ _ _ rest (HasNoPast outside none) order = order.1
order_behind rules state _ _ _ rest (GoesForth after history is) order = subst (λ o. AreInOrder o rest) (order.0 ∙ sym (ap (λ (h : History). is_some h.group) is.after)) order.1
order_behind rules state _ _ _ rest (HasNoFuture outside none) order = order.1
order_behind rules state _ _ _ rest (Begins outside) order = order.1
order_behind rules state _ _ _ rest (Ends group is whole) order = order.1
order_behind rules state _ _ _ rest (IsTakenBack group is broken) order = order.1
order_behind rules state _ _ _ rest (GoesOver mask index params leads turns after outside are are_turns) order = subst (λ o. AreInOrder o rest) (each_open state after (count_by is_done_turn turns)) order.1

outside : (opened : Open) → is_open opened ≡ false → opened ≡ opens.Nothing
outside opens.Nothing e = refl
outside opens.Whole e = absurd cc
outside opens.Broken e = absurd cc

pub allowed : (opened : Open) (stat : Stat) (rest : List Stat) → AreInOrder (is_open opened) (stat ∷ rest) → IsAllowed opened stat
allowed opened (statements.Apply line) rest order = tt
allowed opened statements.End rest order = inside opened order.0
  where
    inside : (opened : Open) → is_open opened ≡ true → IsInGroup opened
    inside opens.Nothing e = absurd cc
    inside opens.Whole e = tt
    inside opens.Broken e = tt
allowed opened statements.Undo rest order = outside opened order.0
allowed opened statements.Redo rest order = outside opened order.0
allowed opened statements.Group rest order = outside opened order.0
allowed opened (statements.Each mask rule params) rest order = outside opened order.0

module _ (rules : List Rule) (before : Map) (sound : IsSound before) where
  pub none_through : (standing : Standing) (m : ArenaMap) (start : ℕ) → before ≡ as_map m → StandsFor standing.history m no_history → MayTake standing.history m.schema.dim no_entries → standing.group ≡ opens.Nothing → IsThrough rules before [] [] standing m start start
  none_through standing m start same history costs outside = record {
    told = [];
    tells = refl;
    state = start_of before;
    costs = no_entries;
    bounds = up_to 0;
    course = (refl, refl, refl);
    suited = tt;
    sound = stands_first before sound;
    stands = record {
      map = same;
      history = λ _. record { past = suc standing.keeps.reach; future = suc standing.keeps.reach; past_far = omega arith; future_far = omega arith; stands = history };
      costs = λ _. record { past = suc standing.keeps.reach; future = suc standing.keeps.reach; past_far = omega arith; future_far = omega arith; costs = costs };
      group = subst (λ o. HasOpen o (start_of before)) (sym outside) (refl, refl);
    };
    least = omega arith;
    most = omega arith;
  }

  -- less may be kept from here on
  pub through_as : (stats : List Stat) (lines : List Outcome) (old new : Standing) (m : ArenaMap) (start steps : ℕ) → ((state : State) (costs : Entries) → StandsAt old m state costs → StandsAt new m state costs) → IsThrough rules before stats lines old m start steps → IsThrough rules before stats lines new m start steps
  through_as stats lines old new m start steps settled through = record {
    told = through.told;
    tells = through.tells;
    state = through.state;
    costs = through.costs;
    bounds = through.bounds;
    course = through.course;
    suited = through.suited;
    sound = through.sound;
    stands = settled through.state through.costs through.stands;
    least = through.least;
    most = through.most;
  }

  -- ---- one statement more

  module _ (stats : List Stat) (k : ℕ) (lines : List Outcome) (old new : Standing) (m n : ArenaMap) (start middle steps : ℕ) (through : IsThrough rules before (take k stats) lines old m start middle)
      (stat : Stat) (here : slice_get stats k ≡ Some stat) (suited : IsSuited before.schema rules stat) where
    pub stat_through : (outcome : Outcome) → HasStep rules through.state through.costs stat outcome new n middle steps → IsThrough rules before (take (k + 1) stats) (lines ++ outcome ∷ []) new n start steps
    stat_through outcome has =
        let least = through.least in
        let most = through.most in
        let last_least = has.least in
        let last_most = has.most in
        let on : GoesOn before.schema rules through.state through.costs stat has.told has.after = goes_on before.schema rules through.state through.costs stat has.told has.after through.sound suited has.step in
        subst (λ ss. IsThrough rules before ss (lines ++ outcome ∷ []) new n start steps) (sym (last_taken stats k stat here)) (record {
          told = through.told ++ has.told ∷ [];
          tells = tells_more lines through.told through.tells outcome has.told has.tells;
          state = has.after;
          costs = has.behind;
          bounds = together through.bounds has.bounds;
          course = course_on rules (start_of before) through.state has.after no_entries through.costs has.behind (take k stats) through.told stat has.told through.bounds has.bounds through.course has.step has.has;
          suited = all_more (IsSuited before.schema rules) (take k stats) stat through.suited suited;
          sound = subst (Stands before.schema has.after) (same_behind has.told has.after has.bounds has.behind has.has on) on.stands;
          stands = has.stands;
          least = omega (arith, least, last_least);
          most = omega (arith, most, last_most);
        })
      where
        -- what the step costs is one
        same_behind : (told : runs.Outcome) (after : State) (bounds : Bounds) (behind : Entries) → HasStatBounds rules through.state through.costs stat told bounds behind → (on : GoesOn before.schema rules through.state through.costs stat told after) → on.behind ≡ behind
        same_behind told after bounds behind has on =
            (one_bounds before.schema rules through.state through.state through.costs stat told told on.bounds bounds on.behind behind through.sound.sound.map suited (states_alike_self through.state) refl on.has has).1

    pub order_on : (outcome : Outcome) (rest : List Stat) → HasStep rules through.state through.costs stat outcome new n middle steps → AreInOrder (is_open old.group) (stat ∷ rest) → AreInOrder (is_open new.group) rest
    order_on outcome rest has order =
        subst (λ o. AreInOrder o rest) (sym (open_as new.group has.after has.stands.group))
        (order_behind rules through.state stat has.told has.after rest has.step (subst (λ o. AreInOrder o (stat ∷ rest)) (open_as old.group through.state through.stands.group) order))

  -- ---- who is through

  module _ (stats : List Stat) (lines : List Outcome) (standing : Standing) (m : ArenaMap) (start steps : ℕ) (through : IsThrough rules before stats lines standing m start steps) where
    pub run_told : IsRun rules (start_of before) stats through.told through.state
    run_told = run_of rules (start_of before) through.state no_entries stats through.told through.bounds (within_of rules (start_of before) through.state no_entries through.costs stats through.told through.bounds through.course)

    pub run_within : IsRunWithin rules (start_of before) no_entries stats through.told through.state through.bounds
    run_within = within_of rules (start_of before) through.state no_entries through.costs stats through.told through.bounds through.course

    same_run : (outcomes : List runs.Outcome) (after : State) → IsRun rules (start_of before) stats outcomes after → (outcomes ≡ through.told) × AreAlikeStates after through.state
    same_run outcomes after is = one_run before.schema rules stats through.suited (start_of before) (start_of before) no_entries (stands_first before sound) (states_alike_self (start_of before)) outcomes through.told after through.state is run_told

    pub run_only : (outcomes : List runs.Outcome) (after : State) → IsRun rules (start_of before) stats outcomes after → Tells lines outcomes × AreAlike after.map (as_map m)
    run_only outcomes after is = let one = same_run outcomes after is in (subst (Tells lines) (sym one.0) through.tells, subst (AreAlike after.map) through.stands.map one.1.map)

    same_bounds : (outcomes : List runs.Outcome) (after : State) (bounds : Bounds) → IsRunWithin rules (start_of before) no_entries stats outcomes after bounds → bounds ≡ through.bounds
    same_bounds outcomes after bounds is =
        one_within before.schema rules stats through.suited (start_of before) (start_of before) no_entries no_entries (stands_first before sound) (states_alike_self (start_of before)) outcomes through.told after through.state bounds through.bounds is run_within

    pub run_most : (outcomes : List runs.Outcome) (after : State) (bounds : Bounds) → IsRunWithin rules (start_of before) no_entries stats outcomes after bounds → steps ≤ start + bounds.most
    run_most outcomes after bounds is = subst (λ (b : Bounds). steps ≤ start + b.most) (sym (same_bounds outcomes after bounds is)) through.most

    pub run_least : (outcomes : List runs.Outcome) (after : State) (bounds : Bounds) → IsRunWithin rules (start_of before) no_entries stats outcomes after bounds → start + bounds.least ≤ steps
    run_least outcomes after bounds is = subst (λ (b : Bounds). start + b.least ≤ steps) (sym (same_bounds outcomes after bounds is)) through.least

    pub run_bounds : (outcomes : List runs.Outcome) → Tells lines outcomes → (after : State) × (bounds : Bounds) × (after.map ≡ as_map m) × IsRunWithin rules (start_of before) no_entries stats outcomes after bounds
    run_bounds outcomes tells = (through.state, through.bounds, through.stands.map, subst (λ os. IsRunWithin rules (start_of before) no_entries stats os through.state through.bounds) (told_once lines through.told outcomes through.tells tells) run_within)

  -- ---- memory was wanting

  -- before the first statement
  pub cut_first : (stats : List Stat) (start : ℕ) → IsCutShort rules before stats before start start
  cut_first stats start = record { done = 0; outcomes = []; behind = start_of before; run = refl; left = BehindAll; most = λ os end bounds is. omega arith }

  -- where it was wanting at a statement, the steps are within the bounds of all
  pub record IsCut (stats : List Stat) (after : Map) (start steps : ℕ) : Type 0 where
    pub short : IsCutShort rules before stats after start steps
    pub most : (os : List runs.Outcome) (end : State) (bounds : Bounds) → IsRunWithin rules (start_of before) no_entries stats os end bounds → steps ≤ start + bounds.most

  module _ (stats : List Stat) (k : ℕ) (lines : List Outcome) (standing : Standing) (m : ArenaMap) (after : Map) (start middle steps : ℕ) (through : IsThrough rules before (take k stats) lines standing m start middle)
      (stat : Stat) (here : slice_get stats k ≡ Some stat) (stopped : IsStopped rules through.state stat after middle steps) where
    cut_most : (os : List runs.Outcome) (end : State) (bounds : Bounds) → IsRunWithin rules (start_of before) no_entries (take (k + 1) stats) os end bounds → steps ≤ start + bounds.most
    cut_most os end bounds run =
        let s = split rules (start_of before) end no_entries (take k stats) (stat ∷ []) os bounds (subst (λ ss. IsRunWithin rules (start_of before) no_entries ss os end bounds) (last_taken stats k stat here) run) in
        let front = within_of rules (start_of before) s.between no_entries s.costs (take k stats) s.firsts s.first_bounds s.first in
        let one = same_run (take k stats) lines standing m start middle through s.firsts s.between (run_of rules (start_of before) s.between no_entries (take k stats) s.firsts s.first_bounds front) in
        let same : s.first_bounds ≡ through.bounds = same_bounds (take k stats) lines standing m start middle through s.firsts s.between s.first_bounds front in
        let behind = last s.between s.costs s.lasts end s.last_bounds one.1 s.last in
        let sum : bounds.most ≡ s.first_bounds.most + s.last_bounds.most = ap (λ (b : Bounds). b.most) s.sum_is in
        let so_far = through.most in
        omega (arith, behind, sum, ap (λ (b : Bounds). b.most) same, so_far)
      where
        last : (other : State) (costs : Entries) (lasts : List runs.Outcome) (end : State) (bounds : Bounds) → AreAlikeStates other through.state → IsRunWithin rules other costs (stat ∷ []) lasts end bounds → steps ≤ middle + bounds.most
        last other costs [] end bounds alike h = absurd h
        last other costs (o ∷ p ∷ lasts) end bounds alike (n, x, first, rest, step, has, run, e) = absurd run
        last other costs (o ∷ []) end bounds alike (n, x, first, rest, step, has, run, e) =
            let one = stopped.most other n costs x o first alike step has in
            let sum : bounds.most ≡ first.most + rest.most = ap (λ (b : Bounds). b.most) e in
            omega (arith, one, sum)

    pub stat_cut : IsCut stats after start steps
    stat_cut = record {
      short = record {
        done = k;
        outcomes = through.told;
        behind = through.state;
        run = run_told (take k stats) lines standing m start middle through;
        left = subst (λ next. IsLeft rules through.state next after) (sym here) stopped.left;
        most = cut_most;
      };
      most = λ os end bounds run.
          let s = split rules (start_of before) end no_entries (take (k + 1) stats) (drop (k + 1) stats) os bounds (subst (λ ss. IsRunWithin rules (start_of before) no_entries ss os end bounds) (sym (take-append-drop (k + 1) stats)) run) in
          let first = cut_most s.firsts s.between s.first_bounds (within_of rules (start_of before) s.between no_entries s.costs (take (k + 1) stats) s.firsts s.first_bounds s.first) in
          let sum : bounds.most ≡ s.first_bounds.most + s.last_bounds.most = ap (λ (b : Bounds). b.most) s.sum_is in
          omega (arith, first, sum);
    }

  -- who is past the last statement has run all
  pub through_all : (stats : List Stat) (lines report : List Outcome) (k : ℕ) (standing : Standing) (m : ArenaMap) (start steps : ℕ) → length stats ≤ k → report ≡ lines → IsThrough rules before (take k stats) lines standing m start steps → IsThrough rules before stats report standing m start steps
  through_all stats lines report k standing m start steps past told through =
      subst (λ ls. IsThrough rules before stats ls standing m start steps) (sym told) (subst (λ ss. IsThrough rules before ss lines standing m start steps) (take_all k stats past) through)
