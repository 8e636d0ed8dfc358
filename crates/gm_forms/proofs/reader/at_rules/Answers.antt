use Rattle.std.proofs.Common.{sym, ◌∙◌}
use Rattle.gm_forms.proofs.OneToken.{no_rule, rule}
use Rattle.gm_forms.proofs.reader.at_rules.Goals as goal

pub returns-then-not-reads-clause-leads : goal.returns-then-not-reads-clause-leads
returns-then-not-reads-clause-leads c = no_rule c.args.lexer.now.text c.args.token c.args.heading (sym c.reads.ensures ∙ c.if-not-reads.true)

pub returns-then-not-reads-clause-within : goal.returns-then-not-reads-clause-within
returns-then-not-reads-clause-within c state_in = tt

pub returns-clause-leads : goal.returns-clause-leads
returns-clause-leads c = rw c.one.ensures (rule c.args.lexer.now.text c.args.token c.args.heading (sym c.reads.ensures ∙ c.if-not-reads.false))

pub returns-clause-within : goal.returns-clause-within
returns-clause-within c state_in = tt
