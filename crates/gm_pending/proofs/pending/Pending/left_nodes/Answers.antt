use Rattle.std.proofs.Common.{subst}
use Rattle.gm_plan.specs.inner.Plans.{IsLeftCount}
use Rattle.gm_pending.specs.inner.Results.{PendingOf, rule_in}
use Rattle.gm_pending.proofs.on_pending.ResultDarts.{one_left_count}
use Rattle.gm_pending.proofs.pending.Pending.left_nodes.Goals as goal

pub returns-clause-left : goal.returns-clause-left
returns-clause-left c =
    one_left_count (rule_in c.args.self.now) c.left_nodes.result c.args.self.now.placed.nodes
    (subst (λ (a : PendingOf). IsLeftCount (rule_in a) c.left_nodes.result) c.self.view_is c.left_nodes.ensures.left)
    (subst (λ (a : PendingOf). IsLeftCount (rule_in a) a.placed.nodes) c.self.view_is c.self.invariant.0.matched.nodes)
