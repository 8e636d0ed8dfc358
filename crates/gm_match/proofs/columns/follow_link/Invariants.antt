use Rattle.std.proofs.Common.{◌≡◌, ◌+◌}
use Rattle.gm_arena.specs.inner.ArenaMap.{alpha}
use Rattle.gm_walk.specs.inner.Walks.{AreLive}
use Rattle.gm_match.specs.inner.Layout.{dart_at}
use Rattle.gm_match.proofs.Column.{IsColumnSoFar}
use Rattle.gm_match.proofs.columns.follow_link.Given as goal

abbrev pub invariant-loop-position : goal.invariant-loop-position
invariant-loop-position g l = record {
  so_far : IsColumnSoFar l.arena l.nodes l.link.to (λ p. alpha l.arena l.link.label (dart_at l.arena l.nodes l.fn.slots l.link.from p)) l.fn.slots l.position l.slots;
  live : AreLive l.arena l.slots;
  cost : l.steps ≡ l.fn.steps + l.position;
}
