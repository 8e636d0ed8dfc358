use Rattle.std.proofs.Common.{sym, ◌∙◌}
use Rattle.gm_forms.proofs.OneToken.{no_equal, equal}
use Rattle.gm_forms.proofs.exprs.at_equal.Goals as goal

pub returns-then-not-reads-clause-leads : goal.returns-then-not-reads-clause-leads
returns-then-not-reads-clause-leads c = no_equal c.args.lexer.now.text c.args.token c.args.spot c.args.embed (sym c.reads.ensures ∙ c.if-not-reads.true)

pub returns-then-not-reads-clause-within : goal.returns-then-not-reads-clause-within
returns-then-not-reads-clause-within c state_in = tt

pub returns-clause-leads : goal.returns-clause-leads
returns-clause-leads c = equal c.args.lexer.now.text c.args.token c.args.spot c.args.embed (sym c.reads.ensures ∙ c.if-not-reads.false)

pub returns-clause-within : goal.returns-clause-within
returns-clause-within c state_in = state_in
