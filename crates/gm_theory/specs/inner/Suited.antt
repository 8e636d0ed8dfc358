-- What is owed of a statement, apart from the others, so that it has an outcome: its rule is accepted.
use Rattle.std.specs.Prelude.{◌≡◌, ℕ, List, Some, slice_get}
use Rattle.gm_model.specs.declared.schema.Schema.{Schema}
use Rattle.gm_model.specs.Statements.{Stat}
use Rattle.gm_model.specs.Statements as statements
use Rattle.gm_model.specs.Acceptance.{IsAccepted}
use Rattle.gm_model.specs.Maps.{IsSchema}
use Rattle.gm_model.specs.Rules.{Rule}
use Rattle.gm_theory.specs.inner.Outcomes.{IsGoodEach, IsGoodLine}

-- the rule of this number is accepted for maps of the schema
pub record IsRuleOf (schema : Schema) (rules : List Rule) (index : ℕ) : Type 0 where
  pub of_schema : IsSchema schema
  pub accepted : (rule : Rule) → slice_get rules index ≡ Some rule → IsAccepted schema rule

-- the statement is good, and so is its rule
abbrev pub IsSuited : Schema → List Rule → Stat → Type 0
IsSuited schema rules (statements.Apply line) = IsGoodLine rules line × IsRuleOf schema rules line.rule
IsSuited schema rules (statements.Each mask index params) = IsGoodEach rules schema.dim mask index params × IsRuleOf schema rules index
IsSuited schema rules _ = Unit {0}
