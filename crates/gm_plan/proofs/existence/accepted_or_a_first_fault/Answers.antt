use Rattle.gm_plan.proofs.FaultFound.{accepted_or_fault}
use Rattle.gm_plan.proofs.existence.accepted_or_a_first_fault.Goals as goal

pub returns : goal.returns
returns c = accepted_or_fault
