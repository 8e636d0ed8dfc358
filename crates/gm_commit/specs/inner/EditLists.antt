-- Which changes of an arena make the result of an application of it.
use Rattle.std.specs.Prelude.{◌≡◌, ◌≢◌, ℕ, ◌+◌, ◌*◌, ◌<◌, ◌≤◌, List, [], ◌∷◌, length, sum, Some, IsTrue, slice_get, slice_index_or, pos}
use Rattle.std.specs.List.{Contains}
use Rattle.gm_model.specs.declared.schema.Embed.{Embed}
use Rattle.gm_model.specs.declared.schema.Schema.{Schema}
use Rattle.gm_model.specs.declared.value.Value.{Value}
use Rattle.gm_model.specs.declared.value.Value.TheVariants.{Int}
use Rattle.gm_model.specs.Maps.{IsDart, IsEmbedAt}
use Rattle.gm_model.specs.Orbits.{HasCount}
use Rattle.gm_model.specs.Unfolding.{IsGone, IsCutAt, IsMadeArc, IsUnfolding, added_nodes}
use Rattle.gm_arena.specs.declared.slot.Slot.{Slot}
use Rattle.gm_arena.specs.inner.ArenaAsMap.{as_map}
use Rattle.gm_arena.specs.inner.ArenaMap.{ArenaMap, IsLiveSlot, name_at, alpha}
use Rattle.gm_plan.specs.inner.Counts.{removed_nodes}
use Rattle.gm_commit.specs.inner.Arcs.{Arc}
use Rattle.gm_commit.specs.inner.Arcs.{End}
use Rattle.gm_commit.specs.inner.Arcs.End.{Old, New}
use Rattle.gm_commit.specs.declared.changes.ValueAt.{ValueAt}
use Rattle.gm_pending.specs.inner.Results.{PendingOf, IsPrepared, IsReachedIn, IsUnfoldedIn, IsValueIn, rule_in, scene_in}
use Rattle.gm_theory.specs.inner.Theorem.{Unfolded}

-- what contracts see of edits
pub record EditLists : Type 0 where
  -- the slots of the darts that are matched
  pub matched : List Slot
  -- the arcs that are freed of darts that go: each leads back to its own dart
  pub freed : List Arc
  -- the slots of the darts that are removed
  pub removed : List Slot
  -- how many darts are added
  pub added : ℕ
  -- their values: those of one dart after those of another, one for each embedding
  pub added_values : List Value
  -- the arcs that are made; those that are there already may be left out
  pub arcs : List Arc
  -- the values that are set at darts that stay
  pub values : List ValueAt

abbrev pub edit_lists : List Slot → List Arc → List Slot → ℕ → List Value → List Arc → List ValueAt → EditLists
edit_lists matched freed removed added added_values arcs values = record { matched = matched; freed = freed; removed = removed; added = added; added_values = added_values; arcs = arcs; values = values }

-- the steps that a commit takes
abbrev pub cost_of : EditLists → ℕ
cost_of edits = length edits.freed + length edits.removed + edits.added + length edits.arcs + length edits.values

-- the value of the added dart of this number, of an embedding
abbrev pub added_value : Schema → List Value → ℕ → ℕ → Value
added_value schema values number e = slice_index_or values (number * length schema.embeds + e) (Int (pos 0))

-- no slot comes twice
abbrev pub AreDistinct : List Slot → Type 0
AreDistinct [] = Unit {0}
AreDistinct (slot ∷ slots) = ((other : Slot) → Contains slots other → other.at ≢ slot.at) × AreDistinct slots

-- a dart at the slot may get another row, or go
pub data IsTouchedBy (edits : EditLists) (slot : Slot) : Type 0 where
  Matched : Contains edits.matched slot → IsTouchedBy edits slot
  Valued : (at : ValueAt) → Contains edits.values at → at.slot ≡ slot → IsTouchedBy edits slot

-- no slot of this dart is touched
abbrev pub IsUntouched : ArenaMap → EditLists → ℕ → Type 0
IsUntouched m edits d = (slot : Slot) → IsTouchedBy edits slot → name_at m slot.at ≢ d

module _ (app : PendingOf) where
  -- the name of an end in the result
  abbrev pub end_name : End → ℕ
  end_name (Old slot) = name_at app.map slot.at
  end_name (New number) = app.map.next + number

  -- a dart of the old map
  abbrev pub IsOldEnd : End → Type 0
  IsOldEnd (Old slot) = IsLiveSlot app.map slot.at
  IsOldEnd (New number) = ⊥

  -- a dart of the result
  abbrev pub IsResultEnd : End → Type 0
  IsResultEnd (Old slot) = IsLiveSlot app.map slot.at × (IsGone (scene_in app) (name_at app.map slot.at) → ⊥)
  IsResultEnd (New number) = number < app.placed.positions * added_nodes (rule_in app)

  -- the list has such arcs alone, and each of them that is needed
  pub record AreArcs (IsEnd : End → Type 0) (IsGood IsNeeded : ℕ → ℕ → ℕ → Type 0) (arcs : List Arc) : Type 0 where
    pub ends : (arc : Arc) → Contains arcs arc → IsEnd arc.from × IsEnd arc.to
    pub labels : (arc : Arc) → Contains arcs arc → arc.label ≤ app.map.schema.dim
    pub good : (arc : Arc) → Contains arcs arc → IsGood (end_name arc.from) arc.label (end_name arc.to)
    pub needed : (d i e : ℕ) → IsNeeded d i e → (arc : Arc) × Contains arcs arc × (end_name arc.from ≡ d) × (arc.label ≡ i)

  -- an arc that is cut and led to a dart that goes: it leads back to its own dart
  pub record IsFreed (d i e : ℕ) : Type 0 where
    pub cut : IsCutAt (scene_in app) d i
    pub gone : IsGone (scene_in app) (alpha app.map i d)
    pub label : i ≤ app.map.schema.dim
    pub back : e ≡ d

  -- an arc of the old map
  abbrev pub IsThere : ℕ → ℕ → ℕ → Type 0
  IsThere d i e = IsTrue ((scene_in app).live d) × (alpha app.map i d ≡ e)

  -- an arc of a right step that the old map doesn't have
  abbrev pub IsNewArc : ℕ → ℕ → ℕ → Type 0
  IsNewArc d i e = IsMadeArc (scene_in app) d i e × (IsThere d i e → ⊥)

  -- the slots are those of the darts that go, each once
  pub record AreRemoved (slots : List Slot) : Type 0 where
    pub live : (slot : Slot) → Contains slots slot → IsLiveSlot app.map slot.at
    pub gone : (slot : Slot) → Contains slots slot → IsGone (scene_in app) (name_at app.map slot.at)
    pub all : (d : ℕ) → IsGone (scene_in app) d → (slot : Slot) × Contains slots slot × (name_at app.map slot.at ≡ d)
    pub distinct : AreDistinct slots

  -- the matched darts are live, few, and all that arcs are freed or made of and that are removed
  pub record AreMatchedIn (edits : EditLists) : Type 0 where
    pub live : (slot : Slot) → Contains edits.matched slot → IsLiveSlot app.map slot.at
    pub few : length edits.matched ≤ length (rule_in app).nodes * app.placed.positions
    pub freed : (arc : Arc) (slot : Slot) → Contains edits.freed arc → arc.from ≡ Old slot → Contains edits.matched slot
    pub removed : (slot : Slot) → Contains edits.removed slot → Contains edits.matched slot
    pub made : (arc : Arc) (slot : Slot) → Contains edits.arcs arc → arc.from ≡ Old slot → Contains edits.matched slot

  -- ---- values

  -- Over the embeddings, this many darts in all are in orbits with an assigned instance.
  pub record IsReachedSumIn (count : ℕ) : Type 0 where
    pub result : Unfolded
    pub unfolded : IsUnfoldedIn app result
    pub counts : List ℕ
    pub each : length counts ≡ length app.map.schema.embeds
    pub counts_are : (e c : ℕ) (embed : Embed) → slice_get counts e ≡ Some c → IsEmbedAt app.map.schema e embed → HasCount (IsReachedIn app result e embed) c
    pub sum_is : count ≡ sum counts

  -- each of this many added darts has its value of each embedding
  pub record AreAddedValues (added : ℕ) (values : List Value) : Type 0 where
    pub long : length values ≡ added * length app.map.schema.embeds
    pub given : (number e : ℕ) (embed : Embed) → number < added → IsEmbedAt app.map.schema e embed → IsValueIn app e embed (app.map.next + number) (added_value app.map.schema values number e)

  -- it is the value of a dart that stays, in an orbit with an assigned instance
  pub record IsNewValue (at : ValueAt) : Type 0 where
    pub embed : Embed
    pub embed_at : IsEmbedAt app.map.schema at.embed embed
    pub stays : IsResultEnd (Old at.slot)
    pub reached : (result : Unfolded) → IsUnfoldedIn app result → IsReachedIn app result at.embed embed (name_at app.map at.slot.at)
    pub value : IsValueIn app at.embed embed (name_at app.map at.slot.at) at.value

  abbrev pub IsValueOfDart : ValueAt → ℕ → ℕ → Type 0
  IsValueOfDart at e d = (at.embed ≡ e) × (name_at app.map at.slot.at ≡ d)

  -- the list has a value for each old dart that stays, in such an orbit, and no other
  pub record AreNewValues (values : List ValueAt) : Type 0 where
    pub new : (at : ValueAt) → Contains values at → IsNewValue at
    pub all : (result : Unfolded) → IsUnfoldedIn app result → (e d : ℕ) (embed : Embed) → IsEmbedAt app.map.schema e embed → IsDart (as_map app.map) d → IsReachedIn app result e embed d → (at : ValueAt) × Contains values at × IsValueOfDart at e d
    pub few : (count : ℕ) → IsReachedSumIn count → length values ≤ count

  -- the edits make the result of the application of its map, in few steps
  pub record AreEditsOf (edits : EditLists) : Type 0 where
    pub prepared : IsPrepared app
    pub matched : AreMatchedIn edits
    pub freed : AreArcs IsOldEnd IsFreed IsFreed edits.freed
    pub removed : AreRemoved edits.removed
    pub arcs : AreArcs IsResultEnd (IsMadeArc (scene_in app)) IsNewArc edits.arcs
    pub added_values : AreAddedValues edits.added edits.added_values
    pub values : AreNewValues edits.values
    pub added_is : edits.added ≡ app.placed.positions * added_nodes (rule_in app)
    pub removed_is : length edits.removed ≡ app.placed.positions * removed_nodes (rule_in app)
    pub few : length edits.freed + length edits.removed + edits.added + length edits.arcs ≤ 4 * ((app.map.schema.dim + 1) * (length (rule_in app).nodes * app.placed.positions))

-- the arena has the rows and the next name of the other; its room may be another
abbrev pub HasSameRows : ArenaMap → ArenaMap → Type 0
HasSameRows m n = n ≡ record m { spare = n.spare; reserved = n.reserved }

-- the arena has the darts and arcs of the result of the application, and their values
pub record IsResultOf (app : PendingOf) (m : ArenaMap) : Type 0 where
  pub schema : m.schema ≡ app.map.schema
  pub unfolded : IsUnfolding (scene_in app) (IsDart (as_map m)) (as_map m).alpha m.next
  pub values : (e d : ℕ) (embed : Embed) → IsEmbedAt app.map.schema e embed → IsDart (as_map m) d → IsValueIn app e embed d ((as_map m).value e d)

-- the edits are those of an application of this arena's map
abbrev pub AreEditsHere : ArenaMap → EditLists → Type 0
AreEditsHere m edits = (app : PendingOf) × HasSameRows app.map m × AreEditsOf app edits
