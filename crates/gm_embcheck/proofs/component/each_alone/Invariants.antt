use Rattle.std.proofs.Common.{◌≡◌, ℕ, ◌<◌, length}
use Rattle.gm_embcheck.specs.inner.Leaders.{leader_in}
use Rattle.gm_embcheck.proofs.component.each_alone.Given as goal

abbrev pub invariant-loop-node : goal.invariant-loop-node
invariant-loop-node l = record {
  len : length l.leaders ≡ 32;
  done : (x : ℕ) → x < l.node → leader_in l.leaders x ≡ x;
}
