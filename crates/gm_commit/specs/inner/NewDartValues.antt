-- How the values of new darts are gathered. No public clause cites this module.
use Rattle.std.specs.Prelude.{◌≡◌, ℕ, ◌+◌, ◌-◌, ◌*◌, ◌<◌, ◌≤◌, List, length, Some, slice_get}
use Rattle.gm_model.specs.declared.schema.Embed.{Embed}
use Rattle.gm_model.specs.Maps.{IsEmbedAt}
use Rattle.gm_model.specs.declared.value.Value.{Value}
use Rattle.gm_model.specs.Unfolding.{added_nodes}
use Rattle.gm_walk.specs.declared.at.At.TheVariants.{New}
use Rattle.gm_walk.specs.declared.mark.Mark.{Mark}
use Rattle.gm_commit.specs.inner.EditLists.{added_value}
use Rattle.gm_pending.specs.inner.Results.{PendingOf, IsResultDart, IsValueIn, name_of, rule_in}
use Rattle.gm_pending.specs.inner.ValueSources.{IsSourceValue}

module _ (app : PendingOf) where
  -- the number of an added node's new dart at a position
  abbrev pub new_number : ℕ → ℕ → ℕ
  new_number x p = (x - app.placed.nodes) * app.placed.positions + p

  -- it is the value of the new dart of this number in an orbit without a deciding instance
  abbrev pub IsKeptValue : ℕ → Embed → ℕ → Value → Type 0
  IsKeptValue e embed number v = (x : ℕ) × (p : ℕ) × IsResultDart app (New x p) × (new_number x p ≡ number) × IsSourceValue app e embed (New x p) v

  -- each of this many new darts has such a value of each embedding
  pub record AreKeptValues (added : ℕ) (values : List Value) : Type 0 where
    pub long : length values ≡ added * length app.map.schema.embeds
    pub kept : (number e : ℕ) (embed : Embed) → number < added → IsEmbedAt app.map.schema e embed → IsKeptValue e embed number (added_value app.map.schema values number e)

  -- the new darts of the result have their values of the first embeddings, and kept values of the others
  pub record AreDecidedBelow (count : ℕ) (values : List Value) : Type 0 where
    pub long : length values ≡ app.placed.positions * added_nodes (rule_in app) * length app.map.schema.embeds
    pub decided : (number e : ℕ) (embed : Embed) → number < app.placed.positions * added_nodes (rule_in app) → e < count → IsEmbedAt app.map.schema e embed → IsValueIn app e embed (app.map.next + number) (added_value app.map.schema values number e)
    pub kept : (number e : ℕ) (embed : Embed) → number < app.placed.positions * added_nodes (rule_in app) → count ≤ e → IsEmbedAt app.map.schema e embed → IsKeptValue e embed number (added_value app.map.schema values number e)

  -- the dart of this name is among the first of the reached ones
  abbrev pub IsAmongFirst : List Mark → ℕ → ℕ → Type 0
  IsAmongFirst reached count d = (k : ℕ) × (entry : Mark) × (k < count) × (slice_get reached k ≡ Some entry) × (name_of app entry.at ≡ d)

  -- the new darts among them have their values of the embedding, and all other values are as they were
  pub record AreDecidedFrom (e : ℕ) (reached : List Mark) (count : ℕ) (old new : List Value) : Type 0 where
    pub long : length new ≡ length old
    pub decided : (number : ℕ) (embed : Embed) → IsAmongFirst reached count (app.map.next + number) → IsEmbedAt app.map.schema e embed → IsValueIn app e embed (app.map.next + number) (added_value app.map.schema new number e)
    pub same : (number f : ℕ) → f < length app.map.schema.embeds → (f ≡ e → IsAmongFirst reached count (app.map.next + number) → ⊥) → added_value app.map.schema new number f ≡ added_value app.map.schema old number f
