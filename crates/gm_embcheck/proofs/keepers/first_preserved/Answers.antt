use Rattle.std.proofs.Common.{refl}
use Rattle.gm_model.specs.Rules.{rule_of}
use Rattle.gm_embcheck.proofs.Kept.{none_yet}
use Rattle.gm_embcheck.proofs.keepers.first_preserved.Goals as goal

pub loop-node-init : goal.loop-node-init
loop-node-init c = record { len = refl; done = none_yet (rule_of c.args.rule.now) c.args.leaders.now }
