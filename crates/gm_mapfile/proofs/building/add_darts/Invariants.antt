use Rattle.std.proofs.Common.{◌≡◌, ◌+◌, ◌*◌, ◌/◌, ◌≤◌, List, ◌++◌, length}
use Rattle.std.specs.List.{AllByRecursion}
use Rattle.std.specs.Slice.Iter.{chunks_exact_rest, chunks_exact_size}
use Rattle.gm_arena.specs.inner.Lawful.{AreGoodValues}
use Rattle.gm_mapfile.specs.MapText.{DartRow}
use Rattle.gm_mapfile.specs.inner.Rows.{darts_in}
use Rattle.gm_mapfile.proofs.AddedDarts.{HasDarts}
use Rattle.gm_mapfile.proofs.building.add_darts.Given as goal

abbrev pub invariant-loop-line : goal.invariant-loop-line
invariant-loop-line g l = record {
  front : List DartRow;
  size : chunks_exact_size l.line-iterator ≡ l.fn.arena.schema.dim + 2;
  split : front ++ darts_in l.fn.arena.schema (chunks_exact_rest l.line-iterator) l.rest ≡ darts_in l.fn.arena.schema l.fn.numbers l.fn.values;
  schema : l.arena.schema ≡ l.fn.arena.schema;
  room : length (chunks_exact_rest l.line-iterator) / (l.fn.arena.schema.dim + 2) ≤ l.arena.spare;
  reserved : l.arena.reserved ≡ l.fn.arena.reserved;
  long : length l.rest ≡ length (chunks_exact_rest l.line-iterator) / (l.fn.arena.schema.dim + 2) * length l.fn.arena.schema.embeds;
  good : AllByRecursion (λ (dart : DartRow). AreGoodValues l.fn.arena.schema dart.values) (darts_in l.fn.arena.schema (chunks_exact_rest l.line-iterator) l.rest);
  has : HasDarts l.fn.arena.schema.dim front l.arena l.twice;
  most : l.steps ≤ l.fn.steps + 2 * length front;
  least : l.fn.steps + length front ≤ l.steps;
}
