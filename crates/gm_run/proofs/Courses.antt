-- The course of a run: as a run within its bounds, with what it cost to come to each entry of the history that it leaves. So it can go on.
use Rattle.std.proofs.Common.{◌≡◌, ℕ, ◌+◌, List, [], ◌∷◌, ◌++◌, refl, sym, ap, ap₂, subst, ◌∙◌, arith}
use Rattle.gm_model.specs.Statements.{Stat}
use Rattle.gm_model.specs.Budgets.{Bounds, Entries, HasStatBounds, IsRunWithin, up_to}
use Rattle.gm_model.specs.Rules.{Rule}
use Rattle.gm_model.specs.Runs.{Outcome, State, IsStatOutcome, IsRun}

-- the sum of bounds
abbrev pub together : Bounds → Bounds → Bounds
together first rest = record { least = first.least + rest.least; most = first.most + rest.most }

module _ (rules : List Rule) where
  abbrev pub IsCourse : State → Entries → List Stat → List Outcome → State → Entries → Bounds → Type 0
  IsCourse before entries [] [] after behind bounds = (after ≡ before) × (behind ≡ entries) × (bounds ≡ up_to 0)
  IsCourse before entries (stat ∷ stats) (outcome ∷ outcomes) after behind bounds =
      (between : State) × (costs : Entries) × (first : Bounds) × (rest : Bounds) × IsStatOutcome rules before stat outcome between × HasStatBounds rules before entries stat outcome first costs
      × IsCourse between costs stats outcomes after behind rest × (bounds ≡ together first rest)
  IsCourse before entries _ _ after behind bounds = ⊥

  pub run_of : (before after : State) (entries : Entries) (stats : List Stat) (outcomes : List Outcome) (bounds : Bounds) → IsRunWithin rules before entries stats outcomes after bounds → IsRun rules before stats outcomes after
  run_of before after entries [] [] bounds (e, f) = e
  run_of before after entries [] (o ∷ outcomes) bounds h = absurd h
  run_of before after entries (stat ∷ stats) [] bounds h = absurd h
  run_of before after entries (stat ∷ stats) (o ∷ outcomes) bounds (m, costs, first, rest, step, has, run, e) = (m, step, run_of m after costs stats outcomes rest run)

  pub within_of : (before after : State) (entries behind : Entries) (stats : List Stat) (outcomes : List Outcome) (bounds : Bounds) → IsCourse before entries stats outcomes after behind bounds → IsRunWithin rules before entries stats outcomes after bounds
  within_of before after entries behind [] [] bounds (e, f, g) = (e, g)
  within_of before after entries behind [] (o ∷ outcomes) bounds h = absurd h
  within_of before after entries behind (stat ∷ stats) [] bounds h = absurd h
  within_of before after entries behind (stat ∷ stats) (o ∷ outcomes) bounds (m, costs, first, rest, step, has, course, e) = (m, costs, first, rest, step, has, within_of m after costs behind stats outcomes rest course, e)

  -- ---- one statement more

  sum_on : (first rest last : Bounds) → together (together first rest) last ≡ together first (together rest last)
  sum_on first rest last = ap₂ (λ (x y : ℕ). record { least = x; most = y }) (omega arith) (omega arith)

  pub course_on : (before between after : State) (entries costs behind : Entries) (stats : List Stat) (outcomes : List Outcome) (stat : Stat) (outcome : Outcome) (bounds last : Bounds) → IsCourse before entries stats outcomes between costs bounds
      → IsStatOutcome rules between stat outcome after → HasStatBounds rules between costs stat outcome last behind → IsCourse before entries (stats ++ stat ∷ []) (outcomes ++ outcome ∷ []) after behind (together bounds last)
  course_on before between after entries costs behind [] [] stat outcome bounds last (e, f, g) step has = (
    after,
    behind,
    last,
    up_to 0,
    subst (λ m. IsStatOutcome rules m stat outcome after) e step,
    subst (λ x. HasStatBounds rules before x stat outcome last behind) f (subst (λ m. HasStatBounds rules m costs stat outcome last behind) e has),
    (refl, refl, refl),
    ap (λ (b : Bounds). together b last) g ∙ ap₂ (λ (x y : ℕ). record { least = x; most = y }) (omega arith) (omega arith),
  )
  course_on before between after entries costs behind [] (o ∷ outcomes) stat outcome bounds last h step has = absurd h
  course_on before between after entries costs behind (s ∷ stats) [] stat outcome bounds last h step has = absurd h
  course_on before between after entries costs behind (s ∷ stats) (o ∷ outcomes) stat outcome bounds last (m, x, first, rest, is, of, course, e) step has = (
    m,
    x,
    first,
    together rest last,
    is,
    of,
    course_on m between after x costs behind stats outcomes stat outcome rest last course step has,
    ap (λ (b : Bounds). together b last) e ∙ sum_on first rest last,
  )

  -- ---- in two

  -- the run of the statements in front, and that of the statements behind, at the state between them
  pub record IsSplit (before : State) (entries : Entries) (front back : List Stat) (after : State) (bounds : Bounds) : Type 0 where
    pub between : State
    pub costs : Entries
    pub firsts : List Outcome
    pub lasts : List Outcome
    pub first_bounds : Bounds
    pub last_bounds : Bounds
    pub first : IsCourse before entries front firsts between costs first_bounds
    pub last : IsRunWithin rules between costs back lasts after last_bounds
    pub sum_is : bounds ≡ together first_bounds last_bounds

  pub split : (before after : State) (entries : Entries) (front back : List Stat) (outcomes : List Outcome) (bounds : Bounds) → IsRunWithin rules before entries (front ++ back) outcomes after bounds → IsSplit before entries front back after bounds
  split before after entries [] back outcomes bounds run = record {
    between = before;
    costs = entries;
    firsts = [];
    lasts = outcomes;
    first_bounds = up_to 0;
    last_bounds = bounds;
    first = (refl, refl, refl);
    last = run;
    sum_is = ap₂ (λ (x y : ℕ). record { least = x; most = y }) (omega arith) (omega arith);
  }
  split before after entries (stat ∷ front) back [] bounds h = absurd h
  split before after entries (stat ∷ front) back (o ∷ outcomes) bounds (m, costs, first, rest, step, has, run, e) =
      let further : IsSplit m costs front back after rest = split m after costs front back outcomes rest run in
      record {
        between = further.between;
        costs = further.costs;
        firsts = o ∷ further.firsts;
        lasts = further.lasts;
        first_bounds = together first further.first_bounds;
        last_bounds = further.last_bounds;
        first = (m, costs, first, further.first_bounds, step, has, further.first, refl);
        last = further.last;
        sum_is = e ∙ ap (together first) further.sum_is ∙ sym (sum_on first further.first_bounds further.last_bounds);
      }
