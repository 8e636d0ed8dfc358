use Rattle.std.proofs.Common.{◌≡◌, length}
use Rattle.gm_model.specs.Rules.{rule_of}
use Rattle.gm_embcheck.specs.inner.Keepers.{AreFirstPreserved}
use Rattle.gm_embcheck.proofs.keepers.first_preserved.Given as goal

abbrev pub invariant-loop-node : goal.invariant-loop-node
invariant-loop-node l = record {
  len : length l.first ≡ 32;
  done : AreFirstPreserved (rule_of l.rule) l.leaders l.node l.first;
}
