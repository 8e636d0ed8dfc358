use Rattle.std.proofs.Common.{arith}
use Rattle.gm_plan.specs.inner.Searches.{rank_at, row_step}
use Rattle.gm_plan.proofs.Search.{other_rank, no_end, end_with_rank, new_end}
use Rattle.gm_plan.proofs.paths.Search.new_end.Goals as goal

pub bounds-self-node : goal.bounds-self-node
bounds-self-node c = omega (arith, c.requires.node, c.requires.rows)

pub returns-then-ne : goal.returns-then-ne
returns-then-ne c = other_rank (rank_at c.args.self.now.ranks) (row_step c.args.rows.now c.args.node c.args.label) (rank_at c.args.self.now.ranks c.args.node) c.args.rank c.if-ne.ensures

pub returns-in_default : goal.returns-in_default
returns-in_default c = no_end (rank_at c.args.self.now.ranks) (row_step c.args.rows.now c.args.node c.args.label) (rank_at c.args.self.now.ranks c.args.node) c.args.rank c.in_default.not-Exp

pub bounds-self-to : goal.bounds-self-to
bounds-self-to c = let low = c.requires.ends c.args.node c.args.label c.in-Exp.to c.in-Exp.is in omega (arith, low, c.requires.rows)

pub returns-then-is_some : goal.returns-then-is_some
returns-then-is_some c = end_with_rank (rank_at c.args.self.now.ranks) (row_step c.args.rows.now c.args.node c.args.label) (rank_at c.args.self.now.ranks c.args.node) c.args.rank c.in-Exp.to c.in-Exp.is c.if-is_some.ensures

pub returns : goal.returns
returns c = new_end (rank_at c.args.self.now.ranks) (row_step c.args.rows.now c.args.node c.args.label) (rank_at c.args.self.now.ranks c.args.node) c.args.rank c.if-ne.ensures c.in-Exp.to c.in-Exp.is c.if-is_some.ensures
