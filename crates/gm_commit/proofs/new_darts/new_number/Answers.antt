use Rattle.std.proofs.Common.{arith}
use Rattle.gm_commit.proofs.on_new_darts.NodesInTurn.{added_after_left, new_dart_below}
use Rattle.gm_commit.proofs.new_darts.new_number.Goals as goal

pub overflow_sub-result : goal.overflow_sub-result
overflow_sub-result c = omega (arith, c.left_nodes.ensures.left, added_after_left c.args.pending.now c.positions-positions.ensures.prepared c.args.node c.requires.added)

pub returns-clause-most : goal.returns-clause-most
returns-clause-most c = rw (c.left_nodes.ensures.left, c.positions-positions.ensures.positions) (new_dart_below c.args.pending.now c.positions-positions.ensures.prepared c.args.node c.args.position c.requires.added c.requires.position)
