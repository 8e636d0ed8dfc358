use Rattle.std.proofs.Common.{refl, arith}
use Rattle.std.proofs.lemmas.Result.{IfOk-from_err}
use Rattle.gm_grid.proofs.book.rule.Goals as goal

pub name-requires : goal.name-requires
name-requires c = (omega arith, (refl, refl))

pub returns-in_err-nodes : goal.returns-in_err-nodes
returns-in_err-nodes c = IfOk-from_err c.from_residual.result _ c.from_residual.ensures.0

pub returns-in_err-right_links : goal.returns-in_err-right_links
returns-in_err-right_links c = IfOk-from_err c.from_residual-in_err-right_links.result _ c.from_residual-in_err-right_links.ensures.0

pub returns-in_err-push : goal.returns-in_err-push
returns-in_err-push c = IfOk-from_err c.from_residual-in_err-push.result _ c.from_residual-in_err-push.ensures.0

pub returns : goal.returns
returns c = rw (c.name.ensures, c.new-2.ensures, c.new.ensures.items, c.in_ok-nodes.ensures, c.new-4.ensures, c.new-3.ensures.items, c.in_ok-right_links.ensures, c.new-5.ensures, c.in_ok-push.ensures.items, c.new-hooks.ensures.items) refl
