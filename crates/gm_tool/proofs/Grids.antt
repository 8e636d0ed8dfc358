-- Maps that are the grid of one number are alike, and so are the runs of the grid's statements from them.
use Rattle.std.proofs.Common.{◌≡◌, ℕ, ◌*◌, ◌≤◌, List, [], ◌∷◌, map, refl, sym, ap, subst, ◌∙◌}
use Rattle.std.specs.Prelude.{All, false}
use Rattle.std.specs.List.{AllByRecursion, range_with_len}
use Rattle.std.proofs.lemmas.List.Elements.{All-from_recursion}
use Rattle.gm_grid.specs.GridBook.{triangulation, stat_at}
use Rattle.gm_grid.specs.GridMap.{grid_schema, IsGridMap}
use Rattle.gm_grid.proofs.GridSchema.{is_schema, only_positions}
use Rattle.gm_grid.proofs.GridSound.{by_square, is_sound}
use Rattle.gm_model.specs.declared.schema.Schema.{Schema}
use Rattle.gm_model.specs.Acceptance.{IsAccepted}
use Rattle.gm_model.specs.Budgets.{Bounds, no_entries, IsRunWithin}
use Rattle.gm_model.specs.Maps.{Map, IsEmbedAt, IsSchema}
use Rattle.gm_model.specs.Runs.{Outcome, State, start_of, IsRun, AreInOrder}
use Rattle.gm_run.specs.inner.Alike.{AreAlike, AreAlikeStates}
use Rattle.gm_run.proofs.OneRun.{one_run, one_within, run_has_bounds}
use Rattle.gm_theory.proofs.RunsFound.{Stands, stands_first, all_suited, scripts_have_runs}
use Rattle.gm_theory.specs.inner.Outcomes.{HasRun, IsGoodStat}
use Rattle.gm_theory.specs.inner.Suited.{IsSuited}
use Rattle.gm_theory.proofs.ExamplesTriangulation.{accepted}
use Rattle.gm_tool.specs.GridAnswer.{grid_rules, grid_stats}

-- ---- the rules and the statements

pub rules_accepted : All (IsAccepted grid_schema) grid_rules
rules_accepted = All-from_recursion (IsAccepted grid_schema) grid_rules (accepted, tt)

module _ (n : ℕ) where
  good_stat : (square : ℕ) → IsGoodStat grid_rules n (stat_at square)
  good_stat square = record { rule = triangulation; rule_is = refl; hooks = refl; params = tt }

  good_stats : (squares : List ℕ) → AllByRecursion (IsGoodStat grid_rules n) (map stat_at squares)
  good_stats [] = tt
  good_stats (square ∷ squares) = (good_stat square, good_stats squares)

pub grid_stats_good : (n m : ℕ) → AllByRecursion (IsGoodStat grid_rules n) (grid_stats m)
grid_stats_good n m = good_stats n (range_with_len 0 (m * m))

stats_suited : (m : ℕ) → AllByRecursion (IsSuited grid_schema grid_rules) (grid_stats m)
stats_suited m = all_suited grid_schema grid_rules is_schema rules_accepted (grid_stats m) (grid_stats_good grid_schema.dim m)

-- ---- two grids

module _ (m : ℕ) (small : m ≤ 100) (a b : Map) (one : IsGridMap m a) (other : IsGridMap m b) where
  pub grids_alike : AreAlike a b
  grids_alike = record {
    schema = one.schema_is ∙ sym other.schema_is;
    same = record {
      next = one.next_is ∙ sym other.next_is;
      darts = λ d. (λ live. (other.darts d).1 ((one.darts d).0 live), λ live. (one.darts d).1 ((other.darts d).0 live));
      arcs = λ d i live low.
          let label : i ≤ 2 = subst (λ n. i ≤ n) (ap (λ s. s.dim) one.schema_is) low in
          by_square m small a one (λ d. a.alpha i d ≡ b.alpha i d) (λ row column k row_low column_low number_low. one.neighbours row column k i row_low column_low number_low label ∙ sym (other.neighbours row column k i row_low column_low number_low label)) d live;
    };
    values = λ e d embed at live.
        only_positions (λ e embed. a.value e d ≡ b.value e d)
        (by_square m small a one (λ d. a.value 0 d ≡ b.value 0 d) (λ row column k row_low column_low number_low. one.points row column k row_low column_low number_low ∙ sym (other.points row column k row_low column_low number_low)) d live)
        e embed (subst (λ s. IsEmbedAt s e embed) one.schema_is at);
  }

  starts_alike : AreAlikeStates (start_of a) (start_of b)
  starts_alike = record { map = grids_alike; past = tt; future = tt; group = tt; broken = refl }

  stands_other : Stands grid_schema (start_of b) no_entries
  stands_other = subst (λ (schema : Schema). Stands schema (start_of b) no_entries) other.schema_is (stands_first b (is_sound m small b other))

  -- their runs have the same outcomes, and leave states that are alike
  pub one_gridding : (outcomes others : List Outcome) (after end : State) → IsRun grid_rules (start_of a) (grid_stats m) outcomes after → IsRun grid_rules (start_of b) (grid_stats m) others end → (outcomes ≡ others) × AreAlikeStates after end
  one_gridding outcomes others after end first second =
      one_run grid_schema grid_rules (grid_stats m) (stats_suited m) (start_of a) (start_of b) no_entries stands_other starts_alike outcomes others after end first second

  -- and the same bounds
  pub grid_bounds : (outcomes others : List Outcome) (after end : State) (bounds other_bounds : Bounds) → IsRunWithin grid_rules (start_of a) no_entries (grid_stats m) outcomes after bounds
      → IsRunWithin grid_rules (start_of b) no_entries (grid_stats m) others end other_bounds → bounds ≡ other_bounds
  grid_bounds outcomes others after end bounds other_bounds first second =
      one_within grid_schema grid_rules (grid_stats m) (stats_suited m) (start_of a) (start_of b) no_entries no_entries stands_other starts_alike outcomes others after end bounds other_bounds first second

-- a run of the grid's statements has bounds
pub gridding_bounded : (m : ℕ) → m ≤ 100 → (a : Map) → IsGridMap m a → (outcomes : List Outcome) (after : State) → IsRun grid_rules (start_of a) (grid_stats m) outcomes after
    → (bounds : Bounds) × IsRunWithin grid_rules (start_of a) no_entries (grid_stats m) outcomes after bounds
gridding_bounded m small a is outcomes after run =
    run_has_bounds grid_schema grid_rules (grid_stats m) (stats_suited m) (start_of a) no_entries (subst (λ (schema : Schema). Stands schema (start_of a) no_entries) is.schema_is (stands_first a (is_sound m small a is))) outcomes after run

-- the statements are applications, which stand in any order
in_order : (squares : List ℕ) → AreInOrder false (map stat_at squares)
in_order [] = refl
in_order (square ∷ squares) = in_order squares

pub grid_in_order : (m : ℕ) → AreInOrder false (grid_stats m)
grid_in_order m = in_order (range_with_len 0 (m * m))

-- and from each grid they have a run
pub run_here : (m : ℕ) → m ≤ 100 → (a : Map) → IsGridMap m a → HasRun grid_rules a.schema (start_of a) no_entries (grid_stats m)
run_here m small a is =
    scripts_have_runs grid_rules a (grid_stats m) (subst IsSchema (sym is.schema_is) is_schema) (is_sound m small a is) (subst (λ s. All (IsAccepted s) grid_rules) (sym is.schema_is) rules_accepted)
    (grid_stats_good a.schema.dim m) (grid_in_order m)
