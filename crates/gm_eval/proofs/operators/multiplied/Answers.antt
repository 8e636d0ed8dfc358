use Rattle.gm_eval.proofs.Operated.{no_product}
use Rattle.gm_eval.proofs.operators.multiplied.Goals as goal

pub unreachable-requires : goal.unreachable-requires
unreachable-requires c = no_product c.args.left c.args.right c.in_default.not-Int-0 c.in_default.not-Int-1 c.requires.kind
