use Rattle.gm_eval.proofs.evaluation.eval.Goals as goal

pub eval_keeping-requires-clause-position : goal.eval_keeping-requires-clause-position
eval_keeping-requires-clause-position g c = c.requires.position

pub eval_keeping-requires-clause-live : goal.eval_keeping-requires-clause-live
eval_keeping-requires-clause-live g c = c.requires.live

pub eval_keeping-requires-clause-typed : goal.eval_keeping-requires-clause-typed
eval_keeping-requires-clause-typed g c = c.requires.typed

pub eval_keeping-requires-clause-fits : goal.eval_keeping-requires-clause-fits
eval_keeping-requires-clause-fits g c = c.requires.fits

pub returns-clause-value : goal.returns-clause-value
returns-clause-value g c = c.eval_keeping.ensures.value

pub returns-clause-cost : goal.returns-clause-cost
returns-clause-cost g c = c.eval_keeping.ensures.cost

pub returns-clause-least : goal.returns-clause-least
returns-clause-least g c = c.eval_keeping.ensures.least

pub returns-clause-room : goal.returns-clause-room
returns-clause-room g c = c.eval_keeping.ensures.room
