use Rattle.std.proofs.Common.{sym, ◌∙◌}
use Rattle.gm_forms.proofs.OneToken.{comma, close, no_close}
use Rattle.gm_forms.proofs.params.at_comma.Goals as goal

pub returns-then-reads-clause-leads : goal.returns-then-reads-clause-leads
returns-then-reads-clause-leads c = comma c.args.lexer.now.text c.args.token c.args.heading c.args.rules c.args.count (sym c.reads.ensures ∙ c.if-reads.true)

pub returns-then-reads-clause-within : goal.returns-then-reads-clause-within
returns-then-reads-clause-within c state_in = tt

pub returns-then-not-reads-clause-leads : goal.returns-then-not-reads-clause-leads
returns-then-not-reads-clause-leads c = no_close c.args.lexer.now.text c.args.token c.args.heading c.args.rules c.args.count (sym c.reads.ensures ∙ c.if-reads.false) (sym c.reads-2.ensures ∙ c.if-not-reads.true)

pub returns-then-not-reads-clause-within : goal.returns-then-not-reads-clause-within
returns-then-not-reads-clause-within c state_in = tt

pub returns-clause-leads : goal.returns-clause-leads
returns-clause-leads c = close c.args.lexer.now.text c.args.token c.args.heading c.args.rules c.args.count (sym c.reads.ensures ∙ c.if-reads.false) (sym c.reads-2.ensures ∙ c.if-not-reads.false)

pub returns-clause-within : goal.returns-clause-within
returns-clause-within c state_in = tt
