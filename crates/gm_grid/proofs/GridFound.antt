-- There is a grid of each number of rows: its darts go by name, and so do their neighbours and points.
use Rattle.std.proofs.Common.{◌≡◌, ℕ, ◌<◌, true, refl, sym, arith}
use Rattle.std.specs.Prelude.{nat_lt}
use Rattle.std.proofs.lemmas.Bool.Decides.{nat_tests}
use Rattle.gm_model.specs.Maps.{Map}
use Rattle.gm_grid.specs.inner.Building.{neighbour_of, point_of}
use Rattle.gm_grid.specs.GridMap.{dart_count, grid_schema, IsGridMap}
use Rattle.gm_grid.proofs.Finished.{neighbour_is, point_named}
use Rattle.gm_grid.proofs.GridSound.{below_from}

abbrev grid_of : ℕ → Map
grid_of m = record { schema = grid_schema; live = λ d. nat_lt d (dart_count m); alpha = neighbour_of m; value = λ e d. point_of m d; next = dart_count m }

below_to : (a b : ℕ) → a < b → nat_lt a b ≡ true
below_to a b is = grind (arith, nat_tests, is)

pub grid_found : (m : ℕ) → (map : Map) × IsGridMap m map
grid_found m = (
  grid_of m,
  record {
    schema_is = refl;
    darts = λ d. (below_from d (dart_count m), λ low. below_to d (dart_count m) low);
    neighbours = λ row column k i row_low column_low k_low label. sym (neighbour_is m row column k row_low column_low k_low i);
    points = λ row column k row_low column_low k_low. sym (point_named m row column k row_low column_low k_low);
    next_is = refl;
  },
)
