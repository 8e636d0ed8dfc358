use Rattle.std.specs.Prelude.{slice_index}
use Rattle.gm_walk.specs.inner.Walks.{AreLive, names_of}
use Rattle.gm_match.proofs.Column.{IsColumnSoFar}
use Rattle.gm_match.proofs.columns.lay_walk.Given as goal

abbrev pub invariant-loop-position : goal.invariant-loop-position
invariant-loop-position l = record {
  so_far : IsColumnSoFar l.arena l.nodes l.node (slice_index (names_of l.arena l.walk)) l.fn.slots l.position l.slots;
  live : AreLive l.arena l.slots;
}
