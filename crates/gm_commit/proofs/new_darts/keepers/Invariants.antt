use Rattle.std.proofs.Common.{◌≡◌, ℕ, ◌<◌, length, None, get_or}
use Rattle.gm_pending.specs.inner.ValueSources.{IsKeeperFor}
use Rattle.gm_commit.proofs.new_darts.keepers.Given as goal

abbrev pub invariant-loop-embed : goal.invariant-loop-embed
invariant-loop-embed l = record {
  long : length l.keepers ≡ 8;
  found : (e : ℕ) → e < l.embed → IsKeeperFor l.pending e l.node (get_or l.keepers e None);
}
