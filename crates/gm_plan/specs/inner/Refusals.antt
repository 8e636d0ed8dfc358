-- Why a rule has no plan.
use Rattle.gm_model.specs.declared.rule.RuleFault.{RuleFault}
use Rattle.gm_model.specs.declared.schema.Schema.{Schema}
use Rattle.gm_model.specs.Acceptance.{IsFault}
use Rattle.gm_model.specs.Rules.{Rule}
use Rattle.gm_plan.specs.declared.compiler.PlanFault.{PlanFault}
use Rattle.gm_plan.specs.declared.compiler.PlanFault.TheVariants as faults
use Rattle.gm_plan.specs.inner.Plans.{IsPlanned}

-- the rule has a fault, and this is its first; or memory ran out for the plan of a rule that has one
pub data IsRefusal (schema : Schema) (rule : Rule) : PlanFault → Type 0 where
  Faulty : (fault : RuleFault) → IsFault schema rule fault → IsRefusal schema rule (faults.Rule fault)
  NoMemory : IsPlanned schema rule → IsRefusal schema rule faults.OutOfMemory
