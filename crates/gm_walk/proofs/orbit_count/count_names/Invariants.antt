use Rattle.std.proofs.Common.{◌≡◌, ◌+◌, ◌*◌, ◌<◌, ◌≤◌, ℕ, List, length, get_or}
use Rattle.std.specs.List.{Contains}
use Rattle.gm_model.specs.Labels.{has}
use Rattle.gm_walk.specs.inner.Seen.{HasMet, HasSeen, seen_count}
use Rattle.gm_walk.proofs.orbit_count.count_names.Given as goal

abbrev pub invariant-loop-name : goal.invariant-loop-name
invariant-loop-name g l = record {
  few : l.orbits ≤ l.name-index;
  long : length l.seen ≡ l.arena.bound;
  seen : (darts : List ℕ) × HasSeen l.arena l.seen darts × HasMet l.arena (has l.fn.mask) l.word darts l.orbits × ((p : ℕ) → p < l.name-index → Contains darts (get_or l.names p 0));
  room : l.scratch.bound ≡ l.fn.scratch.bound;
  cost : l.steps ≤ l.fn.steps + l.name-index + 4 * (l.arena.schema.dim + 1) * seen_count l.seen;
  least : l.fn.steps ≤ l.steps;
}
