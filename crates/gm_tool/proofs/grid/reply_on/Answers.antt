use Rattle.gm_tool.proofs.Gridding.{rules_checkable, plans_are, stop_reply, stop_makes_none, none_run}
use Rattle.gm_tool.proofs.grid.reply_on.Goals as goal

pub plans_of-requires : goal.plans_of-requires
plans_of-requires g c = rules_checkable c.args.book.now c.requires.book

pub returns-in-Err-clause-reply : goal.returns-in-Err-clause-reply
returns-in-Err-clause-reply g c = rw c.stopped.ensures (stop_reply c.args.book.now c.requires.book c.args.size c.in-Err.stop c.in-Err.ensures.stop)

pub returns-in-Err-clause-most : goal.returns-in-Err-clause-most
returns-in-Err-clause-most g c = none_run c.args.size _

pub returns-in-Err-clause-least : goal.returns-in-Err-clause-least
returns-in-Err-clause-least g c = rw c.stopped.ensures (stop_makes_none c.args.book.now c.requires.book _ c.in-Err.stop c.in-Err.ensures.stop)

pub triangulated-requires-clause-plans : goal.triangulated-requires-clause-plans
triangulated-requires-clause-plans g c = rw c.as_slice.ensures.value (plans_are c.args.book.now c.requires.book c.in-Ok.plans.items c.in-Ok.ensures.plans)
