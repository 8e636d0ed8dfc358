use Rattle.gm_model.specs.Symbols.{Gone}
use Rattle.gm_forms.proofs.Behind.{leads_at, stays_in_at}
use Rattle.gm_forms.proofs.signs.gone.Goals as goal

pub returns-in-Letter-clause-leads : goal.returns-in-Letter-clause-leads
returns-in-Letter-clause-leads c text = leads_at text (record { symbol = Gone; place = c.args.place }) c.at_gone.result c.in-Letter.is (c.at_gone.ensures.leads text)

pub returns-in-Letter-clause-within : goal.returns-in-Letter-clause-within
returns-in-Letter-clause-within c text = stays_in_at text c.at_gone.result c.in-Letter.is (c.at_gone.ensures.within text)
