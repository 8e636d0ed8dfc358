use Rattle.gm_tree.proofs.OneExpr.{one_expr}
use Rattle.gm_tree.proofs.laws.one_tree_at_most.Goals as goal

pub returns : goal.returns
returns c = one_expr
