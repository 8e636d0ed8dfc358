use Rattle.std.proofs.Common.{◌≡◌, ◌+◌, List, ◌++◌}
use Rattle.std.specs.Slice.Iter.{chunks_exact_rest, chunks_exact_size}
use Rattle.gm_model.specs.GMap.{Row}
use Rattle.gm_mapfile.specs.inner.Rows.{rows_in}
use Rattle.gm_mapfile.specs.inner.Building.{IsNotBelow}
use Rattle.gm_mapfile.proofs.building.least_not_below.Given as goal

abbrev pub invariant-loop-line : goal.invariant-loop-line
invariant-loop-line l = record {
  front : List Row;
  size : chunks_exact_size l.line-iterator ≡ l.arena.schema.dim + 2;
  split : front ++ rows_in l.arena.schema.dim (chunks_exact_rest l.line-iterator) ≡ rows_in l.arena.schema.dim l.numbers;
  least : IsNotBelow front l.next l.least;
}
