-- That conditions read off a rule alone make each of its applications keep one value on each orbit.
use Rattle.std.specs.Prelude.{◌≡◌, ℕ}
use Rattle.gm_model.specs.declared.schema.Embed.{Embed}
use Rattle.gm_model.specs.declared.value.Value.{Value}
use Rattle.gm_model.specs.Acceptance.{IsAccepted}
use Rattle.gm_model.specs.Applications.{Application, GivesValue, IsResult, IsDone}
use Rattle.gm_model.specs.Kinds.{AreGoodParams}
use Rattle.gm_model.specs.Maps.{Map, IsDart, IsEmbedAt, IsGeneralised, IsMap, IsSchema, IsSound, IsWellEmbedded, type_of}
use Rattle.gm_model.specs.Matches.{Placement, IsMatch}
use Rattle.gm_model.specs.NewValues.{IsDeciding}
use Rattle.gm_theory.specs.inner.Theorem.{Unfolded, Unfolds}

-- the unfolding, with values of its darts
abbrev pub with_values : Map → Unfolded → (ℕ → ℕ → Value) → Map
with_values map result value = record { schema = map.schema; live = result.live; alpha = result.alpha; value = value; next = result.next }

-- each deciding instance has a value
abbrev pub HaveValues : Application → Placement → (ℕ → ℕ → ℕ) → Type 0
HaveValues app place alpha = (e x p : ℕ) (embed : Embed) → IsEmbedAt app.map.schema e embed → IsDeciding app.map app.rule place alpha e (type_of embed) x p → (v : Value) × GivesValue app place e x p v

-- two results have the same values
abbrev pub HaveSameValues : Map → Map → Type 0
HaveSameValues a b = (e d : ℕ) (embed : Embed) → IsEmbedAt a.schema e embed → IsDart a d → a.value e d ≡ b.value e d

pub record KeepsWellEmbedded (app : Application) (place : Placement) : Type 0 where
  -- where each deciding instance has a value, an unfolding has new values
  pub exists : (result : Unfolded) → Unfolds app.map app.rule place result → HaveValues app place result.alpha → (value : ℕ → ℕ → Value) × IsResult app place (with_values app.map result value)
  -- no others are the new values
  pub determined : (a b : Map) → IsResult app place a → IsResult app place b → HaveSameValues a b
  -- and they are the same over each orbit
  pub well_embedded : (result : Map) → IsResult app place result → IsWellEmbedded result

-- For every generalised and well embedded map, every accepted rule, and every match of the rule in the map.
abbrev pub RulesKeepWellEmbeddedMaps : Type 0
RulesKeepWellEmbeddedMaps = (app : Application) (place : Placement) → IsSchema app.map.schema → IsMap app.map → IsGeneralised app.map → IsWellEmbedded app.map → IsAccepted app.map.schema app.rule → IsMatch app.map app.rule app.hooks place → KeepsWellEmbedded app place

-- ---- applications that are done

-- An application of an accepted rule to a sound map, with a value of its kind for each parameter, leaves a sound map
-- where it is done. So what is asked of a map holds again after each line of a script.
abbrev pub ApplicationsKeepSoundMaps : Type 0
ApplicationsKeepSoundMaps = (app : Application) (result : Map) (added removed : ℕ) → IsSchema app.map.schema → IsSound app.map → IsAccepted app.map.schema app.rule → AreGoodParams app.rule app.params → IsDone app result added removed → IsSound result
