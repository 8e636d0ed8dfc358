use Rattle.gm_plan.proofs.laws.no_fault_of_a_condition_that_is_met.Goals as goal
use Rattle.gm_theory.proofs.NoFault.{incidence_no_fault, squares_no_fault, sources_no_fault}

pub returns-clause-incidence : goal.returns-clause-incidence
returns-clause-incidence c = incidence_no_fault

pub returns-clause-squares : goal.returns-clause-squares
returns-clause-squares c = squares_no_fault

pub returns-clause-sources : goal.returns-clause-sources
returns-clause-sources c = sources_no_fault
