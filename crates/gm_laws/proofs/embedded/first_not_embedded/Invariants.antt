use Rattle.std.proofs.Common.{ℕ, ◌+◌, ◌*◌, ◌<◌, ◌≤◌, length}
use Rattle.gm_model.specs.declared.schema.Embed.{Embed}
use Rattle.gm_model.specs.Maps.{IsEmbedAt}
use Rattle.gm_laws.specs.inner.Darts.{AreAlike}
use Rattle.gm_laws.proofs.embedded.first_not_embedded.Given as goal

abbrev pub invariant-loop-embed : goal.invariant-loop-embed
invariant-loop-embed g l = record {
  alike : (e : ℕ) (embed : Embed) → e < l.embed → IsEmbedAt l.arena.schema e embed → AreAlike l.arena e embed.mask;
  cost : l.steps ≤ l.fn.steps + l.embed * ((2 * (l.arena.schema.dim + 1) + 2) * length l.names + 2);
  least : l.fn.steps ≤ l.steps;
}
