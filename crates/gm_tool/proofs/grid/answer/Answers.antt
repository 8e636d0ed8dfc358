use Rattle.gm_tool.proofs.Gridding.{grid_made, grid_reached, none_run}
use Rattle.gm_tool.proofs.StepBounds.{if_done}
use Rattle.gm_tool.proofs.grid.answer.Goals as goal

pub returns-clause-most : goal.returns-clause-most
returns-clause-most g c = grid_made c.args.size c.requires.greatest _ _ _ c.make_grid.ensures.most c.reply_on.ensures.most

pub returns-clause-least : goal.returns-clause-least
returns-clause-least g c = if_done (grid_reached c.args.size c.requires.greatest _ _ _ c.in_ok-grid.ensures.least) c.reply_on.result c.reply_on.ensures.least

pub returns-in_err-grid-clause-most : goal.returns-in_err-grid-clause-most
returns-in_err-grid-clause-most g c = grid_made c.args.size c.requires.greatest _ _ _ c.make_grid.ensures.most (none_run c.args.size _)
