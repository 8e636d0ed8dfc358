use Rattle.gm_tool.proofs.GridMade.{grid_answered, grid_least, grid_most, one_grid_least, one_grid_most}
use Rattle.gm_tool.proofs.existence.grids_have_answers.Goals as goal

pub returns-clause-answer : goal.returns-clause-answer
returns-clause-answer c = grid_answered

pub returns-clause-most : goal.returns-clause-most
returns-clause-most c = grid_most

pub returns-clause-least : goal.returns-clause-least
returns-clause-least c = grid_least

pub returns-clause-one_most : goal.returns-clause-one_most
returns-clause-one_most c m most other small = one_grid_most m small most other

pub returns-clause-one_least : goal.returns-clause-one_least
returns-clause-one_least c m least other small = one_grid_least m small least other
