-- What the tables of a plan have for each embedding: which nodes assign it, from which they take values over, whose letters are its labels, and whether an expression of it collects.
use Rattle.std.specs.Prelude.{◌≡◌, ℕ, false, ◌<◌, ◌≤◌, ◌↔◌, List, length, Some, slice_get, IsTrue}
use Rattle.gm_model.specs.declared.rule.Side.TheVariants.{Right}
use Rattle.gm_model.specs.declared.schema.Embed.{Embed}
use Rattle.gm_model.specs.declared.schema.Schema.{Schema}
use Rattle.gm_model.specs.declared.step.Step.TheVariants.{Imp}
use Rattle.gm_model.specs.Components.{IsAssigned, HasLetterIn}
use Rattle.gm_model.specs.Maps.{IsEmbedAt, type_of}
use Rattle.gm_model.specs.Orbits.{Labels}
use Rattle.gm_model.specs.Rules.{Rule, has_word, letters, step}
use Rattle.gm_embcheck.specs.inner.Keepers.{AreKeepers}
use Rattle.gm_embcheck.specs.inner.NodeSets.{IsIn}
use Rattle.gm_plan.specs.declared.sources.Sources.{Sources}
use Rattle.gm_plan.specs.inner.Collecting.{Collects, CollectsNothing}

-- the letters of right node x are the labels up to n that the type has
pub record HasExactLetters (n : ℕ) (rule : Rule) (o : Labels) (x : ℕ) : Type 0 where
  pub right : IsTrue (has_word rule Right x)
  pub among : (m : ℕ) → m < length (letters rule Right x) → HasLetterIn rule Right o x m
  pub each : (i : ℕ) → i ≤ n → IsTrue (o i) → (m : ℕ) × (step rule Right x i ≡ Imp m)

-- the tables of one embedding, of this number and type
pub record IsSources (n : ℕ) (rule : Rule) (e : ℕ) (o : Labels) (sources : Sources) : Type 0 where
  pub keepers : AreKeepers rule o sources.keepers
  pub assigned : (x : ℕ) → x < length rule.nodes → IsIn sources.assigned x ↔ IsAssigned rule e x
  pub exact : (x : ℕ) → x < length rule.nodes → IsIn sources.exact x → HasExactLetters n rule o x
  pub nothing : sources.collects ≡ false → CollectsNothing rule e
  pub something : IsTrue sources.collects → Collects rule e

-- those of each embedding
pub record AreSources (schema : Schema) (rule : Rule) (sources : List Sources) : Type 0 where
  pub long : length sources ≡ length schema.embeds
  pub here : (e : ℕ) (s : Sources) → slice_get sources e ≡ Some s → (embed : Embed) × IsEmbedAt schema e embed × IsSources schema.dim rule e (type_of embed) s
