use Rattle.gm_theory.proofs.LeadsFound.{leads_exist}
use Rattle.gm_each.proofs.existence.maps_have_leads.Goals as goal

pub returns : goal.returns
returns c = λ map mask sound. leads_exist map sound mask
