use Rattle.std.proofs.Common.{◌≡◌, ◌+◌, ◌≤◌, List, ◌++◌}
use Rattle.std.specs.Slice.Iter.{chunks_exact_rest, chunks_exact_size}
use Rattle.gm_model.specs.GMap.{Row}
use Rattle.gm_model.specs.Limits.{most_names}
use Rattle.gm_mapfile.specs.MapFaults.{AreBelow}
use Rattle.gm_mapfile.specs.inner.Rows.{rows_in}
use Rattle.gm_mapfile.proofs.ordering.ascending_end.Given as goal

abbrev pub invariant-loop-line : goal.invariant-loop-line
invariant-loop-line l = record {
  front : List Row;
  size : chunks_exact_size l.line-iterator ≡ l.top + 2;
  split : front ++ rows_in l.top (chunks_exact_rest l.line-iterator) ≡ rows_in l.top l.numbers;
  below : AreBelow front l.end;
  names : l.end ≤ most_names;
}
