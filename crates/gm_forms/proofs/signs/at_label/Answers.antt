use Rattle.std.proofs.Common.{◌∙◌}
use Rattle.gm_forms.proofs.OneToken.{high_label, low_label}
use Rattle.gm_forms.proofs.signs.at_label.Goals as goal

pub returns-then-label-from-clause-leads : goal.returns-then-label-from-clause-leads
returns-then-label-from-clause-leads c = high_label c.args.lexer.now.text c.args.token c.args.spot c.args.from c.value-label.result c.from.result c.value-label.ensures (c.from.ensures ∙ c.top.ensures.value) c.if-label-from.true

pub returns-then-label-from-clause-within : goal.returns-then-label-from-clause-within
returns-then-label-from-clause-within c state_in = tt

pub returns-clause-leads : goal.returns-clause-leads
returns-clause-leads c = low_label c.args.lexer.now.text c.args.token c.args.spot c.args.from c.value-label.result c.from.result c.value-label.ensures (c.from.ensures ∙ c.top.ensures.value) c.top.ensures.greatest c.if-label-from.false

pub returns-clause-within : goal.returns-clause-within
returns-clause-within c state_in = state_in
