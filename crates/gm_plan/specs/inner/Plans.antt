-- What contracts see of a plan, what it keeps of its rule, and what its tables have.
use Rattle.std.specs.Prelude.{◌≡◌, ℕ, ◌<◌, ◌≤◌, ◌↔◌, List, length, Some, IsTrue, slice_get}
use Rattle.std.specs.Option.{option_and_then}
use Rattle.gm_model.specs.declared.rule.Link.{Link}
use Rattle.gm_model.specs.declared.rule.RuleTable.{RuleTable}
use Rattle.gm_model.specs.declared.rule.Side.{Side}
use Rattle.gm_model.specs.declared.rule.Side.TheVariants.{Left, Right}
use Rattle.gm_model.specs.declared.schema.Schema.{Schema}
use Rattle.gm_model.specs.declared.step.Step.{Step}
use Rattle.gm_model.specs.declared.word.Mask.{Mask}
use Rattle.gm_model.specs.Acceptance.{IsAccepted}
use Rattle.gm_model.specs.Rules.{Rule, has_word, step}
use Rattle.gm_model.specs.Structure.{IsWithinLimits}
use Rattle.gm_model.specs.Unfolding.{added_nodes}
use Rattle.gm_plan.specs.declared.sources.Sources.{Sources}
use Rattle.gm_plan.specs.inner.Changes.{freed_step, made_step, AreMadeLabels, AreRemovedNodes}
use Rattle.gm_plan.specs.inner.Counts.{removed_nodes}
use Rattle.gm_plan.specs.inner.Paths.{ArePaths}
use Rattle.gm_plan.specs.inner.Sources.{AreSources}
use Rattle.gm_plan.specs.declared.tested.Test.{Test}
use Rattle.gm_plan.specs.inner.Tested.{AreTests, tested_step}

-- a plan is that of a rule over a schema
pub record PlanOf : Type 0 where
  pub schema : Schema
  pub table : RuleTable

abbrev pub plan_of : Schema → RuleTable → PlanOf
plan_of schema table = record { schema = schema; table = table }

-- the rule is accepted, and rule and schema are within the limits on their parts
pub record IsPlanned (schema : Schema) (rule : Rule) : Type 0 where
  pub embeds : length schema.embeds ≤ 8
  pub accepted : IsAccepted schema rule
  pub within : IsWithinLimits rule

-- ---- the tables

-- the rows have what `f` gives the first nodes at the labels 0 to 7
pub record AreRows (f : ℕ → ℕ → Step) (count : ℕ) (rows : List (List Step)) : Type 0 where
  pub long : length rows ≡ count
  pub row_long : (x : ℕ) (row : List Step) → slice_get rows x ≡ Some row → length row ≡ 8
  pub here : (x i : ℕ) → x < count → i < 8 → option_and_then (λ row. slice_get row i) (slice_get rows x) ≡ Some (f x i)

-- the rows have the steps of the first nodes on the side
abbrev pub AreSteps : Rule → Side → ℕ → List (List Step) → Type 0
AreSteps rule side = AreRows (step rule side)

-- the nodes below the count are the left nodes
abbrev pub IsLeftCount : Rule → ℕ → Type 0
IsLeftCount rule count = (x : ℕ) → IsTrue (has_word rule Left x) ↔ (x < count)

pub record AreCounts (rule : Rule) (left added removed : ℕ) : Type 0 where
  pub left_is : IsLeftCount rule left
  pub added_is : added ≡ added_nodes rule
  pub removed_is : removed ≡ removed_nodes rule

pub record IsCompiled (schema : Schema) (rule : Rule) (left right made freed tested : List (List Step)) (tests : List Test) (paths : List Link) (sources : List Sources) (left_nodes added removed goes : ℕ) (made_labels : Mask) : Type 0 where
  pub planned : IsPlanned schema rule
  pub left_steps : AreSteps rule Left (length rule.nodes) left
  pub right_steps : AreSteps rule Right (length rule.nodes) right
  pub made_steps : AreRows (made_step rule) (length rule.nodes) made
  pub freed_steps : AreRows (freed_step rule) (length rule.nodes) freed
  pub tested_steps : AreRows (tested_step rule paths) (length rule.nodes) tested
  pub are_tests : AreTests schema.dim rule tests
  pub are_paths : ArePaths rule paths
  pub are_sources : AreSources schema rule sources
  pub are_counts : AreCounts rule left_nodes added removed
  pub are_removed : AreRemovedNodes rule goes
  pub are_made : AreMadeLabels rule made_labels
