use Rattle.gm_tool.proofs.RunsMade.{least_made, most_made, one_least, one_most}
use Rattle.gm_tool.proofs.existence.runs_have_bounds.Goals as goal

pub returns-clause-most : goal.returns-clause-most
returns-clause-most c = most_made

pub returns-clause-least : goal.returns-clause-least
returns-clause-least c = least_made

pub returns-clause-one_most : goal.returns-clause-one_most
returns-clause-one_most c = one_most

pub returns-clause-one_least : goal.returns-clause-one_least
returns-clause-one_least c = one_least
