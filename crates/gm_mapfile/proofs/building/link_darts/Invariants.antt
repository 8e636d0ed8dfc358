use Rattle.std.proofs.Common.{◌≡◌, ◌+◌, ◌*◌, ◌≤◌, List, ◌++◌, length}
use Rattle.std.specs.Slice.Iter.{chunks_exact_rest, chunks_exact_size}
use Rattle.gm_model.specs.GMap.{Row}
use Rattle.gm_mapfile.specs.inner.Rows.{rows_in}
use Rattle.gm_mapfile.specs.inner.Building.{IsRelinked, AreLinkedUnless}
use Rattle.gm_mapfile.proofs.building.link_darts.Given as goal

abbrev pub invariant-loop-line : goal.invariant-loop-line
invariant-loop-line g l = record {
  front : List Row;
  size : chunks_exact_size l.line-iterator ≡ l.fn.arena.schema.dim + 2;
  split : front ++ rows_in l.fn.arena.schema.dim (chunks_exact_rest l.line-iterator) ≡ rows_in l.fn.arena.schema.dim l.fn.numbers;
  relinked : IsRelinked l.fn.arena.schema.dim l.fn.arena l.arena;
  linked : AreLinkedUnless l.fn.arena.schema.dim l.fn.arena l.arena front l.missing;
  most : l.steps ≤ l.fn.steps + (2 * l.fn.arena.schema.dim + 3) * length front;
  least : l.fn.steps ≤ l.steps;
}
