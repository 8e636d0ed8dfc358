use Rattle.std.proofs.Common.{arith}
use Rattle.std.proofs.lemmas.Result.{err_from_is_err_and}
use Rattle.gm_tool.proofs.BookPlans.{plans_with, accepted_with, all_accepted, first_refused}
use Rattle.gm_tool.proofs.book.plans_of.Goals as goal

pub returns-in_err-plan_for-clause-stop : goal.returns-in_err-plan_for-clause-stop
returns-in_err-plan_for-clause-stop c =
    let p = err_from_is_err_and c.from_residual.result c.from_residual.ensures.1 in
    rw (p.1, p.2)
    (first_refused c.args.book.now.schema c.args.book.now.rules c.loop-rule.rule-index c.rule-item.result c.in_err-plan_for.field-0.0 (rw c.as_slice-rule-items.ensures at c.loop-rule-test.true)
    (rw c.as_slice-rule-items.ensures at c.rule-item.is) c.loop-rule.invariant.1 c.in_err-plan_for.ensures.stop)

pub loop-rule-preserved : goal.loop-rule-preserved
loop-rule-preserved c = (
  plans_with c.args.book.now.schema c.args.book.now.rules c.loop-rule.rule-index c.rule-item.result c.loop-rule.plans.items c.push.new.self.items (rw c.as_slice-rule-items.ensures at c.loop-rule-test.true)
      (rw c.as_slice-rule-items.ensures at c.rule-item.is) c.loop-rule.invariant.0 (rw c.in_ok-plan_for.ensures.plan at c.in_ok-push.ensures.items),
  accepted_with c.args.book.now.schema c.args.book.now.rules c.loop-rule.rule-index c.rule-item.result (rw c.as_slice-rule-items.ensures at c.loop-rule-test.true)
      (rw c.as_slice-rule-items.ensures at c.rule-item.is) c.loop-rule.invariant.1 c.in_ok-plan_for.ensures.accepted,
)

pub returns-clause-accepted : goal.returns-clause-accepted
returns-clause-accepted c =
    all_accepted c.args.book.now.schema c.args.book.now.rules c.loop-rule.rule-index (let past = rw c.as_slice-rule-items.ensures at c.loop-rule-test.false in omega (arith, past)) c.loop-rule.invariant.1
