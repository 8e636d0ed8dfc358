use Rattle.std.proofs.Common.{◌≡◌, ◌+◌, ◌*◌, ◌/◌, ◌≤◌, ◌++◌, length, vec_capacity}
use Rattle.std.specs.Slice.Iter.{chunks_exact_rest, chunks_exact_size}
use Rattle.gm_arena.specs.inner.Inside.{links_in}
use Rattle.gm_arena.proofs.arena.put_each_line.Given as goal

-- with the lines that are left it comes to the same, and their room is still there
abbrev pub invariant-loop-line : goal.invariant-loop-line
invariant-loop-line l = record {
  size : chunks_exact_size l.line-iterator ≡ l.labels + 1;
  items : l.neighbours.items ++ links_in l.labels (length (chunks_exact_rest l.line-iterator) / (l.labels + 1)) (chunks_exact_rest l.line-iterator)
      ≡ l.fn.neighbours.items ++ links_in l.labels (length l.lines / (l.labels + 1)) l.lines;
  room : length l.neighbours.items + length (chunks_exact_rest l.line-iterator) / (l.labels + 1) * l.labels ≤ vec_capacity l.neighbours;
  capacity : vec_capacity l.fn.neighbours ≤ vec_capacity l.neighbours;
}
