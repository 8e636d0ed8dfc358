use Rattle.std.proofs.Common.{◌≡◌, ◌+◌, ◌*◌, ◌≤◌, ℕ, List, length}
use Rattle.gm_model.specs.Labels.{has}
use Rattle.gm_walk.specs.inner.Seen.{HasSeen, seen_count}
use Rattle.gm_each.proofs.LeastLemmas.{HasListed}
use Rattle.gm_each.proofs.listing.leads_among.Given as goal

abbrev pub invariant-loop-name : goal.invariant-loop-name
invariant-loop-name g l = record {
  long : length l.seen ≡ l.arena.bound;
  listed : (darts : List ℕ) × HasSeen l.arena l.seen darts × HasListed l.arena (has l.fn.mask) l.word l.names l.name-index darts l.leads.items;
  room : l.scratch.bound ≡ l.fn.scratch.bound;
  cost : l.steps ≤ l.fn.steps + l.name-index + 4 * (l.arena.schema.dim + 1) * seen_count l.seen;
  least : l.fn.steps ≤ l.steps;
}
