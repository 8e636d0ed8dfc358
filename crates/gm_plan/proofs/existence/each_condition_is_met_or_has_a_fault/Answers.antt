use Rattle.gm_plan.proofs.IncidenceFound.{incidence_or_fault}
use Rattle.gm_plan.proofs.SourcesFound.{sources_or_fault}
use Rattle.gm_plan.proofs.SquaresFound.{squares_or_fault}
use Rattle.gm_plan.proofs.existence.each_condition_is_met_or_has_a_fault.Goals as goal

pub returns-clause-incidence : goal.returns-clause-incidence
returns-clause-incidence c = λ n rule. incidence_or_fault rule n

pub returns-clause-squares : goal.returns-clause-squares
returns-clause-squares c = λ n rule. squares_or_fault rule n

pub returns-clause-sources : goal.returns-clause-sources
returns-clause-sources c = λ schema rule. sources_or_fault rule schema
