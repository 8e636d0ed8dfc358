use Rattle.std.proofs.Common.{◌≡◌, ◌+◌, ◌*◌, ◌<◌, ◌≤◌, ℕ, List, length}
use Rattle.std.specs.List.{Contains}
use Rattle.gm_arena.specs.inner.ArenaMap.{name_at}
use Rattle.gm_model.specs.Labels.{has}
use Rattle.gm_walk.specs.inner.Seen.{HasMet, HasSeen, seen_count}
use Rattle.gm_walk.proofs.orbit_count.count_slots.Given as goal

abbrev pub invariant-loop-at : goal.invariant-loop-at
invariant-loop-at g l = record {
  few : l.orbits ≤ l.at;
  long : length l.seen ≡ l.arena.bound;
  seen : (darts : List ℕ) × HasSeen l.arena l.seen darts × HasMet l.arena (has l.fn.mask) l.word darts l.orbits × ((slot : ℕ) → slot < l.at → Contains darts (name_at l.arena slot));
  room : l.scratch.bound ≡ l.fn.scratch.bound;
  cost : l.steps ≤ l.fn.steps + 4 * (l.arena.schema.dim + 1) * seen_count l.seen;
  least : l.fn.steps ≤ l.steps;
}
