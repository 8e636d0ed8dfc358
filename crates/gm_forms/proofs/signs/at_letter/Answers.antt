use Rattle.std.proofs.Common.{◌∙◌}
use Rattle.gm_forms.proofs.OneToken.{high_letter, letter_more, letter_long}
use Rattle.gm_forms.proofs.signs.at_letter.Goals as goal

pub returns-then-value-from-clause-leads : goal.returns-then-value-from-clause-leads
returns-then-value-from-clause-leads c = high_letter c.args.lexer.now.text c.args.token c.args.spot c.args.name c.value-value.result c.from.result c.value-value.ensures (c.from.ensures ∙ c.top.ensures.value) c.args.word c.if-value-from.true

pub returns-then-value-from-clause-within : goal.returns-then-value-from-clause-within
returns-then-value-from-clause-within c state_in = tt

pub returns-in-Some-clause-leads : goal.returns-in-Some-clause-leads
returns-in-Some-clause-leads c = letter_more c.args.lexer.now.text c.args.token c.args.spot c.args.name c.value-value.result c.from.result c.value-value.ensures (c.from.ensures ∙ c.top.ensures.value) c.top.ensures.greatest c.if-value-from.false c.args.word c.in-Some.longer c.in-Some.ensures

pub returns-in-Some-clause-within : goal.returns-in-Some-clause-within
returns-in-Some-clause-within c state_in = state_in

pub returns-in-None-clause-leads : goal.returns-in-None-clause-leads
returns-in-None-clause-leads c = letter_long c.args.lexer.now.text c.args.token c.args.spot c.args.name c.value-value.result c.from.result c.value-value.ensures (c.from.ensures ∙ c.top.ensures.value) c.top.ensures.greatest c.if-value-from.false c.args.word c.in-None.ensures

pub returns-in-None-clause-within : goal.returns-in-None-clause-within
returns-in-None-clause-within c state_in = tt
