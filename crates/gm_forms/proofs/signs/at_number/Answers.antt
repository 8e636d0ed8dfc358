use Rattle.gm_forms.specs.inner.Standing.{number_mark}
use Rattle.gm_forms.proofs.Behind.{leads_at, stays_in_at}
use Rattle.gm_forms.proofs.signs.at_number.Goals as goal

pub returns-in-Letter-clause-leads : goal.returns-in-Letter-clause-leads
returns-in-Letter-clause-leads c = leads_at c.args.lexer.now.text (number_mark c.args.lexer.now.text c.args.token) c.at_letter.result c.in-Letter.is c.at_letter.ensures.leads

pub returns-in-Letter-clause-within : goal.returns-in-Letter-clause-within
returns-in-Letter-clause-within c = stays_in_at c.args.lexer.now.text c.at_letter.result c.in-Letter.is c.at_letter.ensures.within

pub returns-in-Label-clause-leads : goal.returns-in-Label-clause-leads
returns-in-Label-clause-leads c = leads_at c.args.lexer.now.text (number_mark c.args.lexer.now.text c.args.token) c.at_label.result c.in-Label.is c.at_label.ensures.leads

pub returns-in-Label-clause-within : goal.returns-in-Label-clause-within
returns-in-Label-clause-within c = stays_in_at c.args.lexer.now.text c.at_label.result c.in-Label.is c.at_label.ensures.within
