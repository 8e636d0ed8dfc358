use Rattle.std.proofs.Common.{sym, ◌∙◌}
use Rattle.gm_script.proofs.Indices.{index_is}
use Rattle.gm_script.proofs.rules.first_named.Goals as goal

pub returns-in-Some : goal.returns-in-Some
returns-in-Some c = sym c.in-Some.is ∙ c.place_named.ensures.place ∙ sym (index_is c.args.rules.now c.args.name.now)

pub returns-in-None : goal.returns-in-None
returns-in-None c = sym c.in-None.is ∙ c.place_named.ensures.place ∙ sym (index_is c.args.rules.now c.args.name.now)
