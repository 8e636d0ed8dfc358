use Rattle.gm_forms.proofs.OneToken.{gone_more, gone_long}
use Rattle.gm_forms.proofs.signs.at_gone.Goals as goal

pub returns-in-Some-clause-leads : goal.returns-in-Some-clause-leads
returns-in-Some-clause-leads c text = gone_more text c.args.spot c.args.name c.args.word c.args.place c.in-Some.longer c.in-Some.ensures

pub returns-in-Some-clause-within : goal.returns-in-Some-clause-within
returns-in-Some-clause-within c text state_in = state_in

pub returns-in-None-clause-leads : goal.returns-in-None-clause-leads
returns-in-None-clause-leads c text = gone_long text c.args.spot c.args.name c.args.word c.args.place c.in-None.ensures

pub returns-in-None-clause-within : goal.returns-in-None-clause-within
returns-in-None-clause-within c text state_in = tt
