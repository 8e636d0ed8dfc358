use Rattle.std.proofs.Common.{◌≡◌, ◌+◌, ◌-◌, ◌≤◌, ℕ, List, length}
use Rattle.std.specs.List.{Contains}
use Rattle.gm_arena.specs.inner.ArenaMap.{IsLiveSlot, name_at}
use Rattle.gm_walk.specs.inner.Seen.{HasSeen, seen_count}
use Rattle.gm_walk.proofs.RingLemmas.{IsFollowing}
use Rattle.gm_walk.proofs.orbit_count.follow.Given as goal

abbrev pub invariant-loop-seen : goal.invariant-loop-seen
invariant-loop-seen g l = record {
  next : IsLiveSlot l.arena l.next.at;
  label : l.label ≤ l.arena.schema.dim;
  other : l.other ≤ l.arena.schema.dim;
  long : length l.seen ≡ length l.fn.seen;
  following : (before : List ℕ) → HasSeen l.arena l.fn.seen before → Contains before (name_at l.arena l.fn.from.at)
      → (after : List ℕ) × HasSeen l.arena l.seen after × IsFollowing l.arena l.fn.first l.fn.second (name_at l.arena l.fn.from.at) before after (name_at l.arena l.next.at) l.other l.label;
  more : seen_count l.fn.seen ≤ seen_count l.seen;
  cost : l.steps + seen_count l.fn.seen ≡ l.fn.steps + 1 + seen_count l.seen;
}

abbrev pub decreases-loop-seen : goal.decreases-loop-seen
decreases-loop-seen g l = length l.seen - seen_count l.seen
