use Rattle.gm_mapfile.proofs.OneFault.{one_fault, no_map_at_fault}
use Rattle.gm_mapfile.proofs.laws.one_first_fault_at_most.Goals as goal

pub returns-clause-one : goal.returns-clause-one
returns-clause-one c = one_fault

pub returns-clause-no_map : goal.returns-clause-no_map
returns-clause-no_map c = no_map_at_fault
