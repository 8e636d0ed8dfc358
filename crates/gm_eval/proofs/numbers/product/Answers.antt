use Rattle.gm_eval.proofs.Casts.{product_is}
use Rattle.gm_eval.proofs.numbers.product.Goals as goal

pub returns : goal.returns
returns c = product_is c.args.left c.args.right c.ranges.left c.ranges.right
