use Rattle.std.proofs.Common.{◌∙◌}
use Rattle.gm_script.proofs.Indices.{within}
use Rattle.gm_script.proofs.rules.RulesByName.index_of.Goals as goal

pub returns-then-self-gt-FEW_RULES-clause-within : goal.returns-then-self-gt-FEW_RULES-clause-within
returns-then-self-gt-FEW_RULES-clause-within c =
    rw (← c.self.view_is) (within c.self.inside.rules.now c.args.name.now c.copied.result (c.copied.ensures ∙ c.get.ensures.value ∙ c.self.invariant c.if-self-gt-FEW_RULES.true c.args.name.now))

pub returns-else-self-gt-FEW_RULES-clause-within : goal.returns-else-self-gt-FEW_RULES-clause-within
returns-else-self-gt-FEW_RULES-clause-within c =
    rw (← c.self.view_is) (within c.self.inside.rules.now c.args.name.now c.first_named.result c.first_named.ensures)
