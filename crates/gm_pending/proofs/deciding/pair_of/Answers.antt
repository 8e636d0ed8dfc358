use Rattle.gm_pending.proofs.on_deciding.TwoLabelOrbits.{pair_found}
use Rattle.gm_pending.proofs.deciding.pair_of.Goals as goal

pub returns-in-None : goal.returns-in-None
returns-in-None c = pair_found c.args.labels c.without-rest.result c.without.result c.in_ok-one.one c.in_ok-other.other c.in_ok-other.ensures.0 c.in_ok-one.ensures.1 c.in_ok-other.ensures.1
    c.without-rest.ensures.among c.without-rest.ensures.others c.without-rest.ensures.gone c.without.ensures.others c.in-None.ensures
