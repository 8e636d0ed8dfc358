use Rattle.std.proofs.Common.{◌≡◌, length, subst, ap, arith}
use Rattle.gm_model.specs.Rules.{rule_of}
use Rattle.gm_plan.specs.inner.Plans.{IsLeftCount}
use Rattle.gm_pending.proofs.on_pending.CreationMatch.{created}
use Rattle.gm_tests.proofs.pending.expect_result.Goals as goal

pub expect_alphas-requires-clause-matched : goal.expect_alphas-requires-clause-matched
expect_alphas-requires-clause-matched g c =
    let rule = rule_of c.args.plan.now.table in
    let none : c.left_nodes.result ≡ 0 = omega arith in
    let left : IsLeftCount rule 0 = subst (IsLeftCount rule) none c.left_nodes.ensures.left in
    let found = c.new-found.ensures in
    created c.args.arena.now rule c.new-found.result left (omega (arith, c.hooks.ensures)) (omega (arith, found.nodes, ap length c.new.ensures.items)) found.positions found.places
