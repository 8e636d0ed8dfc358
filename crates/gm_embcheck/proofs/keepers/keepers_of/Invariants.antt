use Rattle.std.proofs.Common.{◌≡◌, ℕ, ◌<◌, length}
use Rattle.gm_embcheck.specs.inner.Keepers.{keeper_in}
use Rattle.gm_embcheck.specs.inner.Leaders.{leader_in}
use Rattle.gm_embcheck.proofs.keepers.keepers_of.Given as goal

abbrev pub invariant-loop-node : goal.invariant-loop-node
invariant-loop-node l = record {
  len : length l.keepers ≡ 32;
  done : (x : ℕ) → x < l.node → keeper_in l.keepers x ≡ keeper_in l.first (leader_in l.leaders x);
}
