use Rattle.std.proofs.Common.{◌+◌, ◌*◌}
use Rattle.gm_model.specs.Trees.{tree_of}
use Rattle.gm_expr.proofs.Sizes.{size}
use Rattle.gm_expr.proofs.kinds.+kind.Given as goal

abbrev pub decreases-type_expr : goal.decreases-type_expr
decreases-type_expr l = 2 * size (tree_of l.expr.now)

abbrev pub decreases-type_unary : goal.decreases-type_unary
decreases-type_unary l = 2 * size (tree_of l.part.now) + 1

abbrev pub decreases-type_binary : goal.decreases-type_binary
decreases-type_binary l = 2 * (size (tree_of l.left.now) + size (tree_of l.right.now)) + 1

abbrev pub decreases-type_choice : goal.decreases-type_choice
decreases-type_choice l = 2 * (size (tree_of l.condition.now) + size (tree_of l.then.now) + size (tree_of l.other.now)) + 1

abbrev pub decreases-type_pair : goal.decreases-type_pair
decreases-type_pair l = 2 * (size (tree_of l.x.now) + size (tree_of l.y.now)) + 1

abbrev pub decreases-type_triple : goal.decreases-type_triple
decreases-type_triple l = 2 * (size (tree_of l.first.now) + size (tree_of l.second.now) + size (tree_of l.third.now)) + 1
