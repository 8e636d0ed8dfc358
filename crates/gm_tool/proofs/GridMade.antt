-- For each number of rows up to 100 `grid` has an answer, and what bounds its steps is one number.
use Rattle.std.proofs.Common.{◌≡◌, ◌⊎◌, ℕ, zero, suc, ◌+◌, ◌*◌, ◌%◌, ◌^◌, ◌≤◌, false, List, length, Some, slice_get, slice_index, bit_or, inl, inr, refl, sym, ap, subst, ◌∙◌, arith}
use Rattle.std.specs.List.{count_by}
use Rattle.std.proofs.lemmas.Bool.{cases_eq}
use Rattle.std.proofs.lemmas.Option.{slice_get-get_or}
use Rattle.gm_cells.specs.Cells.{HasCells, HasCellsOf}
use Rattle.gm_cells.proofs.LabelLemmas.{but_within, cells_counted}
use Rattle.gm_cells.proofs.MaskLemmas.{AreSet, has_others, none_more, none_set, one_set}
use Rattle.gm_grid.specs.GridMap.{dart_count, grid_schema, IsGridMap}
use Rattle.gm_grid.proofs.GridFound.{grid_found}
use Rattle.gm_model.specs.declared.schema.Schema.{Schema}
use Rattle.gm_model.specs.declared.word.Mask.{Mask}
use Rattle.gm_model.specs.Budgets.{Bounds, no_entries}
use Rattle.gm_model.specs.Maps.{Map, IsDart, IsSound, dimension}
use Rattle.gm_model.specs.Orbits.{HasCount}
use Rattle.gm_model.specs.Runs.{AreLeads, is_done, start_of}
use Rattle.gm_run.specs.inner.Alike.{AreAlikeStates}
use Rattle.gm_theory.proofs.LeadsFound.{leads_exist}
use Rattle.gm_theory.proofs.ListsGathered.{tabulated}
use Rattle.gm_theory.proofs.OrbitsListed.{list_all_of}
use Rattle.gm_theory.proofs.Tests.{not_both, true_or_false}
use Rattle.gm_theory.proofs.ValuesReach.{IsDecided}
use Rattle.gm_theory.proofs.ValuesUnique.{one_count}
use Rattle.gm_theory.specs.inner.Outcomes.{HasRun}
use Rattle.gm_walk.proofs.CountLemmas.{count_alike}
use Rattle.gm_tool.specs.Answer.{Answer, answers}
use Rattle.gm_tool.specs.GridAnswer.{Gridded, IsGridded, IsGridAnswer, grid_line, grid_rules, grid_stats}
use Rattle.gm_tool.specs.StepBounds.{HasGridBounds, IsGridMost, MostOfGrid, IsGridLeast, LeastOfGrid, handling}
use Rattle.gm_tool.proofs.Grids.{grid_bounds, one_gridding, run_here}

-- ---- the cells of a sound map

-- the bits of all labels below the next but one
bits_but : (label next : ℕ) → next ≤ 8 → (bits : ℕ) × AreSet label next bits
bits_but label zero few = (0, none_set label)
bits_but label (suc next) few = go (bits_but label next (omega (arith, few))) (cases_eq next label)
  where
    go : (bits : ℕ) × AreSet label next bits → (next ≡ label) ⊎ (next ≡ label → ⊥) → (bits : ℕ) × AreSet label (suc next) bits
    go (bits, set) side = let more : next + 1 ≡ suc next = omega arith in at side more
      where
        at : (next ≡ label) ⊎ (next ≡ label → ⊥) → next + 1 ≡ suc next → (bits : ℕ) × AreSet label (suc next) bits
        at (inl same) more = (bits, subst (λ n. AreSet label n bits) more (none_more label next bits same set))
        at (inr apart) more = (bit_or bits (1 * 2 ^ next % 256), subst (λ n. AreSet label n (bit_or bits (1 * 2 ^ next % 256))) more (one_set label next bits (omega (arith, few)) apart set))

module _ (map : Map) (sound : IsSound map) (low : dimension map ≤ 7) where
  cells_of : (label : ℕ) → (count : ℕ) × HasCellsOf map label count
  cells_of label = go (bits_but label (dimension map + 1) (omega (arith, low)))
    where
      go : (bits : ℕ) × AreSet label (dimension map + 1) bits → (count : ℕ) × HasCellsOf map label count
      go (bits, set) =
          let mask : Mask = record { bits = bits } in
          let found : (leads : List ℕ) × AreLeads map mask leads = leads_exist map sound mask (λ i h. but_within (dimension map) label i (sym (has_others (dimension map) label bits set i) ∙ h)) in
          (length found.0, cells_counted map mask (dimension map) label refl (has_others (dimension map) label bits set) (length found.0) (found.0, found.1.same, refl))

  pub cells_exist : (cells : List ℕ) × HasCells map cells
  cells_exist = go (tabulated (HasCellsOf map) 0 (dimension map + 1) (λ label within. cells_of label))
    where
      go : (cells : List ℕ) × (length cells ≡ dimension map + 1) × ((k count : ℕ) → slice_get cells k ≡ Some count → HasCellsOf map (0 + k) count) → (cells : List ℕ) × HasCells map cells
      go (cells, long, each) = (
        cells,
        record {
          one_each = long;
          each = λ i within. let same : 0 + i ≡ i = omega arith in subst (λ k. HasCellsOf map k (slice_index cells i)) same (each i (slice_index cells i) (slice_get-get_or cells i 0 (omega (arith, long, within))));
        },
      )

  decide_dart : (d : ℕ) → IsDecided (IsDart map d)
  decide_dart d = go (true_or_false (map.live d))
    where
      go : IsDart map d ⊎ (map.live d ≡ false) → IsDecided (IsDart map d)
      go (inl live) = inl live
      go (inr dead) = inr (λ live. not_both (map.live d) live dead)

  pub darts_counted : (count : ℕ) × HasCount (IsDart map) count
  darts_counted = let found = list_all_of (IsDart map) decide_dart map.next sound.is_map.below in (length found.0, (found.0, found.1, refl))

-- ---- a grid

module _ (m : ℕ) (small : m ≤ 100) where
  record IsMade (made : Gridded) : Type 0 where
    is : IsGridded m made
    sound : IsSound made.after.map
    low : dimension made.after.map ≤ 7
    bounds : Bounds
    within : HasGridBounds m made bounds

  a_grid : (made : Gridded) × IsMade made
  a_grid = go (grid_found m)
    where
      go : (map : Map) × IsGridMap m map → (made : Gridded) × IsMade made
      go (grid, is) =
          let found : HasRun grid_rules grid.schema (start_of grid) no_entries (grid_stats m) = run_here m small grid is in
          let same : grid_schema ≡ found.after.map.schema = sym (found.sound.map.schema_is ∙ is.schema_is) in (
            record { grid = grid; outcomes = found.outcomes; after = found.after },
            record {
              is = record { grid_is = is; run = found.run };
              sound = found.sound.map.sound;
              low = subst (λ (s : Schema). s.dim ≤ 7) same (omega arith);
              bounds = found.bounds;
              within = found.within;
            },
          )

  pub grid_answered : (answer : Answer) × IsGridAnswer m answer
  grid_answered =
      let made : Gridded = a_grid.0 in
      let is : IsMade made = a_grid.1 in
      let darts = darts_counted made.after.map is.sound is.low in
      let cells = cells_exist made.after.map is.sound is.low in
      let text : List ℕ = grid_line m (count_by is_done made.outcomes) darts.0 made.after.map.next cells.0 in
      (answers 0 text, (text, (made, is.is, record { darts = darts.0; darts_are = darts.1; cells = cells.0; cells_are = cells.1; is = refl }), refl))

  -- ---- its bounds

  pub grid_most : (most : ℕ) × IsGridMost m most
  grid_most =
      let is : IsMade a_grid.0 = a_grid.1 in
      let left = darts_counted a_grid.0.after.map is.sound is.low in
      (is.bounds.most + handling 2 (dart_count m) left.0, MostOfGrid a_grid.0 left.0 is.bounds is.is is.within left.1)

  pub grid_least : (least : ℕ) × IsGridLeast m least
  grid_least = let is : IsMade a_grid.0 = a_grid.1 in (is.bounds.least + dart_count m, LeastOfGrid a_grid.0 is.bounds is.is is.within)

  one_bounds : (a b : Gridded) (bounds other : Bounds) → IsGridded m a → IsGridded m b → HasGridBounds m a bounds → HasGridBounds m b other → bounds ≡ other
  one_bounds a b bounds other is is' within within' = grid_bounds m small a.grid b.grid is.grid_is is'.grid_is a.outcomes b.outcomes a.after b.after bounds other within within'

  pub one_grid_most : (most other : ℕ) → IsGridMost m most → IsGridMost m other → most ≡ other
  one_grid_most _ _ (MostOfGrid a left bounds is within counted) (MostOfGrid b left' bounds' is' within' counted') =
      let alike : AreAlikeStates a.after b.after = (one_gridding m small a.grid b.grid is.grid_is is'.grid_is a.outcomes b.outcomes a.after b.after is.run is'.run).1 in
      let lefts : left ≡ left' = one_count (IsDart b.after.map) left left' (count_alike (IsDart a.after.map) (IsDart b.after.map) (λ d. (alike.map.same.darts d).0) (λ d. (alike.map.same.darts d).1) left counted) counted' in
      ap (λ (x : Bounds). x.most + handling 2 (dart_count m) left) (one_bounds a b bounds bounds' is is' within within') ∙ ap (λ k. bounds'.most + handling 2 (dart_count m) k) lefts

  pub one_grid_least : (least other : ℕ) → IsGridLeast m least → IsGridLeast m other → least ≡ other
  one_grid_least _ _ (LeastOfGrid a bounds is within) (LeastOfGrid b bounds' is' within') = ap (λ (x : Bounds). x.least + dart_count m) (one_bounds a b bounds bounds' is is' within within')
