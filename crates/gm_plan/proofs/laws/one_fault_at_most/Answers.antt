use Rattle.gm_plan.proofs.OneFault.{one_fault}
use Rattle.gm_plan.proofs.laws.one_fault_at_most.Goals as goal
use Rattle.gm_theory.proofs.NoFault.{accepted_no_fault}

pub returns-clause-one : goal.returns-clause-one
returns-clause-one c = one_fault

pub returns-clause-none : goal.returns-clause-none
returns-clause-none c = accepted_no_fault
