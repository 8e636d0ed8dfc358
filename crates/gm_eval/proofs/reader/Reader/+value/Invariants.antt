use Rattle.std.proofs.Common.{◌+◌, ◌*◌, max}
use Rattle.gm_model.proofs.expr.Expr.TheLaws.{the_size}
use Rattle.gm_eval.proofs.reader.Reader.+value.Given as goal

abbrev pub decreases-value : goal.decreases-value
decreases-value g l = 4 * the_size l.expr.now + 1

abbrev pub decreases-composed : goal.decreases-composed
decreases-composed g l = 4 * the_size l.expr.now

abbrev pub decreases-unary : goal.decreases-unary
decreases-unary g l = 4 * the_size l.part.now + 2

abbrev pub decreases-binary : goal.decreases-binary
decreases-binary g l = 4 * max (the_size l.left.now) (the_size l.right.now) + 3

abbrev pub decreases-first_part : goal.decreases-first_part
decreases-first_part g l = 4 * the_size l.expr.now + 2

abbrev pub decreases-nested : goal.decreases-nested
decreases-nested g l = 4 * max (the_size l.left.now) (the_size l.right.now) + 3

abbrev pub decreases-quick : goal.decreases-quick
decreases-quick g l = 4 * max (the_size l.left.now) (the_size l.right.now) + 3

abbrev pub decreases-parts : goal.decreases-parts
decreases-parts g l = 4 * max (the_size l.first.now) (the_size l.second.now) + 2

abbrev pub decreases-choice : goal.decreases-choice
decreases-choice g l = 4 * max (the_size l.condition.now) (max (the_size l.chosen.now) (the_size l.other.now)) + 2

abbrev pub decreases-pair : goal.decreases-pair
decreases-pair g l = 4 * max (the_size l.x.now) (the_size l.y.now) + 2

abbrev pub decreases-numbers : goal.decreases-numbers
decreases-numbers g l = 4 * max (the_size l.x.now) (max (the_size l.y.now) (the_size l.z.now)) + 2
