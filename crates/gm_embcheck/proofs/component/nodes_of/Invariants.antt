use Rattle.std.proofs.Common.{◌≡◌, ℕ, ◌<◌, eqb, length}
use Rattle.gm_embcheck.specs.inner.Leaders.{leader_in}
use Rattle.gm_embcheck.specs.inner.NodeSets.{is_in}
use Rattle.gm_embcheck.proofs.component.nodes_of.Given as goal

abbrev pub invariant-loop-other : goal.invariant-loop-other
invariant-loop-other l = record {
  len : length l.nodes ≡ 32;
  done : (x : ℕ) → x < l.other → is_in l.nodes x ≡ eqb (leader_in l.leaders x) l.leader;
}
