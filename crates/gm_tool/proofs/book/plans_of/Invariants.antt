use Rattle.std.proofs.Common.{◌≡◌, take, map}
use Rattle.gm_plan.specs.inner.Plans.{plan_of}
use Rattle.gm_tool.proofs.BookPlans.{AreAccepted}
use Rattle.gm_tool.proofs.book.plans_of.Given as goal

abbrev pub invariant-loop-rule : goal.invariant-loop-rule
invariant-loop-rule l =
    (l.plans.items ≡ map (plan_of l.fn.book.schema) (take l.rule-index l.fn.book.rules)) × AreAccepted l.fn.book.schema l.fn.book.rules l.rule-index
