-- What the checks need of a rule that was read, and why it has no plan.
use Rattle.gm_model.specs.declared.schema.Schema.{Schema}
use Rattle.gm_model.specs.Kinds.{IsTyped}
use Rattle.gm_model.specs.Maps.{IsSchema}
use Rattle.gm_model.specs.Rules.{Rule}
use Rattle.gm_model.specs.Structure.{IsInRange, IsWithinLimits}
use Rattle.gm_lines.specs.Refusing.{TheBook}
use Rattle.gm_tool.specs.RunAnswer.{IsRuleWhy}
use Rattle.gm_tool.specs.inner.Stops.{IsBadFor}
use Rattle.gm_tool.specs.declared.refusal.Stop.{Stop}

pub record IsCheckable (schema : Schema) (rule : Rule) : Type 0 where
  pub declared : IsSchema schema
  pub in_range : IsInRange schema rule
  pub within : IsWithinLimits rule
  pub typed : IsTyped schema rule

-- ---- plans

abbrev pub IsRuleStop : Schema → Rule → Stop → Type 0
IsRuleStop schema rule stop = IsBadFor TheBook (IsRuleWhy schema rule) stop
