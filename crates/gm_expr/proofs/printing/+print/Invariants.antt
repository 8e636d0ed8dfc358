use Rattle.std.proofs.Common.{◌+◌, ◌*◌}
use Rattle.gm_model.specs.Trees.{tree_of}
use Rattle.gm_expr.proofs.Sizes.{size}
use Rattle.gm_expr.proofs.printing.+print.Given as goal

abbrev pub decreases-print_expr : goal.decreases-print_expr
decreases-print_expr l = 4 * size (tree_of l.expr.now)

abbrev pub decreases-print_behind : goal.decreases-print_behind
decreases-print_behind l = 4 * size (tree_of l.expr.now) + 1

abbrev pub decreases-print_part : goal.decreases-print_part
decreases-print_part l = 4 * size (tree_of l.part.now) + 2

abbrev pub decreases-print_unary : goal.decreases-print_unary
decreases-print_unary l = 4 * size (tree_of l.part.now) + 3

abbrev pub decreases-print_binary : goal.decreases-print_binary
decreases-print_binary l = 4 * (size (tree_of l.left.now) + size (tree_of l.right.now)) + 3

abbrev pub decreases-print_if : goal.decreases-print_if
decreases-print_if l = 4 * (size (tree_of l.condition.now) + size (tree_of l.then.now) + size (tree_of l.other.now)) + 3

abbrev pub decreases-print_pair : goal.decreases-print_pair
decreases-print_pair l = 4 * (size (tree_of l.x.now) + size (tree_of l.y.now)) + 3

abbrev pub decreases-print_triple : goal.decreases-print_triple
decreases-print_triple l = 4 * (size (tree_of l.first.now) + size (tree_of l.second.now) + size (tree_of l.third.now)) + 3
