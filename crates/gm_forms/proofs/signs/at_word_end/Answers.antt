use Rattle.std.proofs.Common.{sym, ◌∙◌}
use Rattle.gm_forms.proofs.OneToken.{no_word_end, word_end}
use Rattle.gm_forms.proofs.signs.at_word_end.Goals as goal

pub returns-then-not-reads-clause-leads : goal.returns-then-not-reads-clause-leads
returns-then-not-reads-clause-leads c = no_word_end c.args.lexer.now.text c.args.token c.args.spot c.args.name c.args.word (sym c.reads.ensures ∙ c.if-not-reads.true)

pub returns-then-not-reads-clause-within : goal.returns-then-not-reads-clause-within
returns-then-not-reads-clause-within c state_in = tt

pub returns-clause-leads : goal.returns-clause-leads
returns-clause-leads c = word_end c.args.lexer.now.text c.args.token c.args.spot c.args.name c.args.word (sym c.reads.ensures ∙ c.if-not-reads.false)

pub returns-clause-within : goal.returns-clause-within
returns-clause-within c state_in = state_in
