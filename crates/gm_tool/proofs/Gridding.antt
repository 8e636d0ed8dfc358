-- What the code makes of a grid is what the definition says of it, within its most and its least.
use Rattle.std.proofs.Common.{◌≡◌, ℕ, ◌+◌, ◌*◌, ◌≤◌, List, [], ◌∷◌, Result, Ok, Err, map, refl, sym, ap, subst, ◌∙◌, arith}
use Rattle.std.specs.Global.{Vec}
use Rattle.std.specs.Prelude.{false, All, IfOk}
use Rattle.std.specs.List.{AllByRecursion, count_by}
use Rattle.std.proofs.lemmas.List.Elements.{All-from_recursion}
use Rattle.std.proofs.lemmas.Option.{slice_get_within, get_or_from_slice_get}
use Rattle.gm_arena.specs.inner.ArenaAsMap.{as_map}
use Rattle.gm_arena.specs.inner.ArenaMap.{ArenaMap}
use Rattle.gm_cells.specs.Cells.{HasCells}
use Rattle.gm_grid.specs.GridBook.{triangulation, IsGridBook}
use Rattle.gm_grid.specs.GridMap.{IsGridMap, grid_schema}
use Rattle.gm_grid.proofs.GridSchema.{is_schema}
use Rattle.gm_lines.specs.Refusing.{TheBook}
use Rattle.gm_model.specs.declared.memory.OutOfMemory.{OutOfMemory}
use Rattle.gm_model.specs.declared.rule.Book.{Book}
use Rattle.gm_model.specs.declared.rule.RuleTable.{RuleTable}
use Rattle.gm_model.specs.declared.schema.Schema.{Schema}
use Rattle.gm_model.specs.Statements.{Stat}
use Rattle.gm_model.specs.Acceptance.{IsAccepted}
use Rattle.gm_model.specs.Budgets.{Bounds, no_entries, IsRunWithin}
use Rattle.gm_model.specs.Maps.{Map, IsDart}
use Rattle.gm_model.specs.Orbits.{HasCount}
use Rattle.gm_model.specs.Rules.{Rule, rule_of}
use Rattle.gm_model.specs.Runs.{Outcome, is_done, State, start_of, IsRun, AreInOrder}
use Rattle.gm_plan.specs.inner.Plans.{PlanOf, plan_of}
use Rattle.gm_theory.proofs.NoFault.{accepted_no_fault}
use Rattle.gm_run.specs.inner.Alike.{AreAlike}
use Rattle.gm_run.specs.declared.outcome.Outcome as answers
use Rattle.gm_run.specs.inner.Lines.{Tells}
use Rattle.gm_theory.specs.inner.Outcomes.{IsGoodStat}
use Rattle.gm_run.specs.inner.Progress.{IsPlanFor, ArePlansFor, rules_of}
use Rattle.gm_theory.proofs.ExamplesTriangulation.{accepted}
use Rattle.gm_theory.proofs.ValuesUnique.{one_count}
use Rattle.gm_walk.proofs.CountLemmas.{count_alike}
use Rattle.gm_tool.specs.inner.Books.{IsCheckable}
use Rattle.gm_tool.specs.GridAnswer.{AreGridPlans, Gridded, IsGridded, IsGridText, IsGridReply, grid_rules, grid_stats, grid_line}
use Rattle.gm_tool.specs.RunAnswer.{IsFirstRefused}
use Rattle.gm_tool.specs.StepBounds.{HasGridBounds, GridRunsWithin, GridRunsAtLeast, WithinGridMost, AtLeastOfGrid, IsGridMost, MostOfGrid, IsGridLeast, LeastOfGrid}
use Rattle.gm_tool.specs.inner.Stops.{IsBadFor, reply_of}
use Rattle.gm_tool.specs.declared.refusal.NoText.TheVariants as nothing
use Rattle.gm_tool.specs.declared.refusal.Stop.{Stop}
use Rattle.gm_tool.specs.declared.refusal.Stop.TheVariants as stops
use Rattle.gm_tool.proofs.GridMade.{grid_least, grid_most}
use Rattle.gm_tool.proofs.Grids.{rules_accepted, grid_stats_good, grid_in_order, one_gridding, grid_bounds, gridding_bounded, run_here}
use Rattle.gm_tool.proofs.Lines.{rules_planned}

-- ---- the plans of the book

module _ (book : Book) (is : IsGridBook book) where
  one_rule : (P : Rule → Type 0) → P triangulation → (tables : List RuleTable) → map rule_of tables ≡ grid_rules → AllByRecursion (λ (table : RuleTable). P (rule_of table)) tables
  one_rule P holds [] e = absurd cc
  one_rule P holds (table ∷ []) e = (subst P (let same : triangulation ≡ rule_of table = cc in same) holds, tt)
  one_rule P holds (table ∷ other ∷ tables) e = absurd cc

  checkable : IsCheckable grid_schema triangulation
  checkable = record {
    declared = is_schema;
    in_range = accepted.in_range;
    within = record { nodes = omega arith; left_links = omega arith; right_links = omega arith; params = omega arith };
    typed = accepted.typed;
  }

  pub rules_checkable : All (λ (table : RuleTable). IsCheckable book.schema (rule_of table)) book.rules
  rules_checkable = subst (λ s. All (λ (table : RuleTable). IsCheckable s (rule_of table)) book.rules) (sym is.schema_is)
      (All-from_recursion (λ (table : RuleTable). IsCheckable grid_schema (rule_of table)) book.rules (one_rule (IsCheckable grid_schema) checkable book.rules is.rules_are))

  pub plans_are : (plans : List PlanOf) → plans ≡ map (plan_of book.schema) book.rules → AreGridPlans plans
  plans_are plans e = record {
    fit = subst (ArePlansFor grid_schema) (sym e) (All-from_recursion (IsPlanFor grid_schema) (map (plan_of book.schema) book.rules) (each book.rules));
    rules = ap rules_of e ∙ (rules_planned book.schema book.rules ∙ is.rules_are);
  }
    where
      each : (tables : List RuleTable) → AllByRecursion (IsPlanFor grid_schema) (map (plan_of book.schema) tables)
      each [] = tt
      each (table ∷ tables) = (sym is.schema_is, each tables)

  none_refused : (why : List ℕ) → IsFirstRefused grid_schema grid_rules why → ⊥
  none_refused why first =
      let here : IsAccepted grid_schema first.rule = subst (IsAccepted grid_schema) (get_or_from_slice_get grid_rules first.place first.rule first.rule first.rule_at) (rules_accepted first.place first.rule (slice_get_within grid_rules first.place first.rule first.rule_at)) in
      accepted_no_fault grid_schema first.rule first.says.0 here first.says.1

  refused_why : (why : List ℕ) → IsFirstRefused book.schema (map rule_of book.rules) why → ⊥
  refused_why why first = none_refused why (subst (λ rules. IsFirstRefused grid_schema rules why) is.rules_are (subst (λ s. IsFirstRefused s (map rule_of book.rules) why) is.schema_is first))

  -- the book isn't refused, so memory was wanting
  pub stop_reply : (m : ℕ) (stop : Stop) → IsBadFor TheBook (IsFirstRefused book.schema (map rule_of book.rules)) stop → IsGridReply m (reply_of stop)
  stop_reply m (stops.Bad line) (why, first, e) = absurd (refused_why why first)
  stop_reply m (stops.NoText nothing.OutOfMemory) h = refl
  stop_reply m (stops.NoText (nothing.Refused why)) h = absurd h

  pub stop_makes_none : (P : Type 0) (stop : Stop) → IsBadFor TheBook (IsFirstRefused book.schema (map rule_of book.rules)) stop → IfOk (reply_of stop) (λ _. P)
  stop_makes_none P (stops.Bad line) (why, first, e) = absurd (refused_why why first)
  stop_makes_none P (stops.NoText none) h = tt

-- ---- the run

module _ (m : ℕ) (small : m ≤ 100) (arena : ArenaMap) (grid : IsGridMap m (as_map arena)) (plans : List PlanOf) (are : AreGridPlans plans) (stats : List Stat) (stats_are : stats ≡ grid_stats m) where
  pub plans_fit : ArePlansFor arena.schema plans
  plans_fit = subst (λ s. ArePlansFor s plans) (sym grid.schema_is) are.fit

  pub stats_fit : All (IsGoodStat (rules_of plans) arena.schema.dim) stats
  stats_fit = All-from_recursion (IsGoodStat (rules_of plans) arena.schema.dim) stats
      (subst (λ rules. AllByRecursion (IsGoodStat rules arena.schema.dim) stats) (sym are.rules) (subst (AllByRecursion (IsGoodStat grid_rules arena.schema.dim)) (sym stats_are) (grid_stats_good arena.schema.dim m)))

  pub stats_in_order : AreInOrder false stats
  stats_in_order = subst (AreInOrder false) (sym stats_are) (grid_in_order m)

  of_grid : (outcomes : List Outcome) (end : State) → IsRun (rules_of plans) (start_of (as_map arena)) stats outcomes end → IsRun grid_rules (start_of (as_map arena)) (grid_stats m) outcomes end
  of_grid outcomes end run =
      subst (λ rules. IsRun rules (start_of (as_map arena)) (grid_stats m) outcomes end) are.rules (subst (λ ss. IsRun (rules_of plans) (start_of (as_map arena)) ss outcomes end) stats_are run)

  within_grid : (outcomes : List Outcome) (end : State) (bounds : Bounds) → IsRunWithin grid_rules (start_of (as_map arena)) no_entries (grid_stats m) outcomes end bounds
      → IsRunWithin (rules_of plans) (start_of (as_map arena)) no_entries stats outcomes end bounds
  within_grid outcomes end bounds within =
      subst (λ rules. IsRunWithin rules (start_of (as_map arena)) no_entries stats outcomes end bounds) (sym are.rules)
      (subst (λ ss. IsRunWithin grid_rules (start_of (as_map arena)) no_entries ss outcomes end bounds) (sym stats_are) within)

  -- what holds of each pair of bounds of what is run
  abbrev pub Bounded : (Bounds → Type 0) → Type 0
  Bounded Holds = (outcomes : List Outcome) (end : State) (bounds : Bounds) → IsRunWithin (rules_of plans) (start_of (as_map arena)) no_entries stats outcomes end bounds → Holds bounds

  -- whatever grid the bounds are of, the statements have a run from this one with the same bounds
  stats_within : (Holds : Bounds → Type 0) → Bounded Holds → (made : Gridded) (bounds : Bounds) → IsGridded m made → HasGridBounds m made bounds → Holds bounds
  stats_within Holds holds made bounds is has =
      let found = run_here m small (as_map arena) grid in
      let here = gridding_bounded m small (as_map arena) grid found.outcomes found.after found.run in
      let same : bounds ≡ here.0 = grid_bounds m small made.grid (as_map arena) is.grid_is grid made.outcomes found.outcomes made.after found.after bounds here.0 has here.1 in
      subst Holds (sym same) (holds found.outcomes found.after here.0 (within_grid found.outcomes found.after here.0 here.1))

  pub cut_within : (start steps : ℕ) → Bounded (λ bounds. steps ≤ start + bounds.most) → GridRunsWithin m start steps
  cut_within start steps within made left bounds is has count = let first = stats_within (λ bounds. steps ≤ start + bounds.most) within made bounds is has in omega (arith, first)

  pub runs_least : (start middle steps : ℕ) → Bounded (λ bounds. start + bounds.least ≤ middle) → middle ≤ steps → GridRunsAtLeast m start steps
  runs_least start middle steps least more made bounds is has = let first = stats_within (λ bounds. start + bounds.least ≤ middle) least made bounds is has in omega (arith, first, more)

  module _ (after : ArenaMap) (outcomes : List Outcome) (behind : State) (behind_is : behind.map ≡ as_map after) (run : IsRun (rules_of plans) (start_of (as_map arena)) stats outcomes behind) (schema : after.schema ≡ arena.schema) (counted : HasCount (IsDart (as_map after)) after.count) where
    abbrev made_here : Gridded
    made_here = record { grid = as_map arena; outcomes = outcomes; after = behind }

    same_left : (made : Gridded) → IsGridded m made → AreAlike made.after.map (as_map after)
    same_left made is =
        subst (AreAlike made.after.map) behind_is (one_gridding m small made.grid (as_map arena) is.grid_is grid made.outcomes outcomes made.after behind is.run (of_grid outcomes behind run)).1.map

    left_is : (made : Gridded) (left : ℕ) → IsGridded m made → HasCount (IsDart made.after.map) left → left ≡ after.count
    left_is made left is count =
        let darts = (same_left made is).same.darts in
        one_count (IsDart (as_map after)) left after.count (count_alike (IsDart made.after.map) (IsDart (as_map after)) (λ d. (darts d).0) (λ d. (darts d).1) left count) counted

    pub counted_within : (start middle steps : ℕ) → Bounded (λ bounds. middle ≤ start + bounds.most)
        → steps ≤ middle + (after.schema.dim + 1) * (8 * (after.schema.dim + 1) * after.count) → GridRunsWithin m start steps
    counted_within start middle steps within cells made left bounds is has count =
        let first = stats_within (λ bounds. middle ≤ start + bounds.most) within made bounds is has in
        let dims : after.schema ≡ grid_schema = schema ∙ grid.schema_is in
        let last : steps ≤ middle + 3 * (24 * after.count) = subst (λ (s : Schema). steps ≤ middle + (s.dim + 1) * (8 * (s.dim + 1) * after.count)) dims cells in
        let darts = left_is made left is count in
        omega (arith, first, last, darts)

    text_is : (text cells : List ℕ) (darts next : ℕ) → HasCells (as_map after) cells → darts ≡ after.count → next ≡ after.next → text ≡ grid_line m (count_by is_done outcomes) darts next cells → IsGridText m text
    text_is text cells darts next has darts_are next_is is = (
      made_here,
      record { grid_is = grid; run = of_grid outcomes behind run },
      record {
        darts = after.count;
        darts_are = subst (λ x. HasCount (IsDart x) after.count) (sym behind_is) counted;
        cells = cells;
        cells_are = subst (λ x. HasCells x cells) (sym behind_is) has;
        is = is ∙ (λ k. grid_line m (count_by is_done outcomes) (darts_are k) (next_is k) cells) ∙ ap (λ (x : Map). grid_line m (count_by is_done outcomes) after.count x.next cells) (sym behind_is);
      },
    )

    -- the line is that of the grid
    pub line_made : (cells : List ℕ) (darts next : ℕ) (line : Result (Vec ℕ) OutOfMemory) → HasCells (as_map after) cells → darts ≡ after.count → next ≡ after.next
        → (lines : List answers.Outcome) → Tells lines outcomes → IfOk line (λ text. (told : List Outcome) → Tells lines told → text.items ≡ grid_line m (count_by is_done told) darts next cells) → IfOk line (λ text. IsGridText m text.items)
    line_made cells darts next (Ok text) has darts_are next_is lines tells is = text_is text.items cells darts next has darts_are next_is (is outcomes tells)
    line_made cells darts next (Err error) has darts_are next_is lines tells h = tt

-- a grid on which no statement is run
pub none_run : (m steps : ℕ) → GridRunsWithin m steps steps
none_run m steps made left bounds is has count = omega arith

-- ---- the whole

pub grid_made : (m : ℕ) → m ≤ 100 → (start middle steps : ℕ) → middle ≤ start + 4096 * (m * m) → GridRunsWithin m middle steps → WithinGridMost m start steps
grid_made m small start middle steps made runs = let found = grid_most m small in (found.0, found.1, each found.0 found.1)
  where
    each : (most : ℕ) → IsGridMost m most → steps ≤ start + most
    each _ (MostOfGrid gridded left bounds is has count) = let lines = runs gridded left bounds is has count in omega (arith, made, lines)

pub grid_reached : (m : ℕ) → m ≤ 100 → (start middle steps : ℕ) → start + 8 * (m * m) ≤ middle → GridRunsAtLeast m middle steps → AtLeastOfGrid m start steps
grid_reached m small start middle steps made runs = let found = grid_least m small in (found.0, found.1, each found.0 found.1)
  where
    each : (least : ℕ) → IsGridLeast m least → start + least ≤ steps
    each _ (LeastOfGrid gridded bounds is has) = let lines = runs gridded bounds is has in omega (arith, made, lines)
