use Rattle.std.proofs.Common.{◌≡◌, ℕ, ◌<◌, ◌≤◌, length}
use Rattle.gm_embcheck.specs.inner.Leaders.{leader_in, replaced}
use Rattle.gm_embcheck.proofs.component.replace.Given as goal

abbrev pub invariant-loop-node : goal.invariant-loop-node
invariant-loop-node l = record {
  len : length l.leaders ≡ 32;
  done : (x : ℕ) → x < l.node → leader_in l.leaders x ≡ replaced l.old l.new (leader_in l.fn.leaders x);
  kept : (x : ℕ) → l.node ≤ x → leader_in l.leaders x ≡ leader_in l.fn.leaders x;
}
