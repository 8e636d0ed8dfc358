-- What the result of an application is, before anything is written.
use Rattle.std.specs.Prelude.{◌≡◌, ℕ, zero, suc, ◌+◌, ◌*◌, ◌<◌, ◌≤◌, List, [], ◌∷◌, length, replicate, slice_get, slice_set, slice_index_or, Option, Some, None, IsSome, IsTrue, unwrap_or}
use Rattle.std.specs.List.{Contains}
use Rattle.gm_model.specs.declared.rule.RuleTable.{RuleTable}
use Rattle.gm_model.specs.declared.schema.Embed.{Embed}
use Rattle.gm_model.specs.declared.value.Value.{Value}
use Rattle.gm_model.specs.Maps.{IsEmbedAt, IsSound, type_of}
use Rattle.gm_model.specs.Matches.{Placement}
use Rattle.gm_model.specs.NewValues.{IsDecidedBy, IsDeciding, IsReached, IsValueAfter}
use Rattle.gm_model.specs.Orbits.{IsPairBefore, HasCount}
use Rattle.gm_model.specs.declared.rule.Side.TheVariants.{Right}
use Rattle.gm_model.specs.Rules.{Rule, rule_of, has_word, is_added}
use Rattle.gm_model.specs.Unfolding.{Scene, IsGone, scene_of, name_in}
use Rattle.gm_model.specs.Values.{IsValueOf}
use Rattle.gm_theory.specs.inner.Theorem.{Unfolded, Unfolds, IsDartOf}
use Rattle.gm_arena.specs.inner.ArenaAsMap.{as_map}
use Rattle.gm_arena.specs.inner.ArenaMap.{ArenaMap, IsLiveSlot, name_at}
use Rattle.gm_arena.specs.inner.Lawful.{IsLawful}
use Rattle.gm_plan.specs.inner.InArena.{AreMatched, placement_in}
use Rattle.gm_plan.specs.inner.Placed.{Placed}
use Rattle.gm_plan.specs.inner.Plans.{IsPlanned}
use Rattle.gm_walk.specs.declared.at.At.{At}
use Rattle.gm_walk.specs.declared.at.At.TheVariants.{Old, New}
use Rattle.gm_pending.specs.declared.deciding_instance.DecidingInstance.{DecidingInstance}

-- what is pending: the application of a rule to a map, at these instances, and what was asked of it
pub record PendingOf : Type 0 where
  pub map : ArenaMap
  pub table : RuleTable
  pub placed : Placed
  -- the deciding instances of each embedding, where they were asked for
  pub asked : List (Option (List DecidingInstance))

-- nothing was asked
abbrev pub pending_of : ArenaMap → RuleTable → Placed → PendingOf
pending_of map table placed = record { map = map; table = table; placed = placed; asked = replicate (length map.schema.embeds) None }

abbrev pub rule_in : PendingOf → Rule
rule_in app = rule_of app.table

abbrev pub place_in : PendingOf → Placement
place_in app = placement_in app.map app.placed

-- what its unfolding speaks of
abbrev pub scene_in : PendingOf → Scene
scene_in app = scene_of (as_map app.map) (rule_in app) (place_in app)

-- the darts and arcs of the result
abbrev pub IsUnfoldedIn : PendingOf → Unfolded → Type 0
IsUnfoldedIn app result = Unfolds (as_map app.map) (rule_in app) (place_in app) result

-- ---- darts

-- the name in the result
abbrev pub name_of : PendingOf → At → ℕ
name_of app (Old slot) = name_at app.map slot.at
name_of app (New x p) = name_in (as_map app.map) (rule_in app) (place_in app) x p

-- it names a dart of the result: one that stays, or a new one
abbrev pub IsResultDart : PendingOf → At → Type 0
IsResultDart app (Old slot) = IsLiveSlot app.map slot.at × (IsGone (scene_in app) (name_at app.map slot.at) → ⊥)
IsResultDart app (New x p) = IsTrue (is_added (rule_in app) x) × (p < app.placed.positions)

-- a right node and a position
abbrev pub IsRightInstance : PendingOf → ℕ → ℕ → Type 0
IsRightInstance app x p = IsTrue (has_word (rule_in app) Right x) × (p < app.placed.positions)

-- ---- values

module _ (app : PendingOf) where
  -- the deciding instances of the embedding, as far as they were asked for
  abbrev pub deciding_of : ℕ → Option (List DecidingInstance)
  deciding_of e = slice_index_or app.asked e None

  abbrev pub instances_of : ℕ → List DecidingInstance
  instances_of e = unwrap_or (deciding_of e) []

  abbrev pub IsAsked : ℕ → Type 0
  IsAsked e = IsSome (deciding_of e)

  -- the instance decides, and has this value
  abbrev pub IsGivenIn : ℕ → ℕ → ℕ → Value → Type 0
  IsGivenIn e x p v = Contains (instances_of e) (record { node = x; position = p; given = Some v })

  -- the deciding instances were asked for, and each has a value
  abbrev pub AreAllGiven : ℕ → Type 0
  AreAllGiven e = IsAsked e × ((instance : DecidingInstance) → Contains (instances_of e) instance → IsSome instance.given)

  -- each embedding was asked for, and each of its deciding instances has a value: all that a commit is made of
  abbrev pub AllGiven : Type 0
  AllGiven = (e : ℕ) → e < length app.map.schema.embeds → AreAllGiven e

  -- the instance decides the orbit of the dart d
  abbrev pub IsDecidedIn : Unfolded → ℕ → Embed → ℕ → ℕ → ℕ → Type 0
  IsDecidedIn result e embed d x p = IsDecidedBy (as_map app.map) (rule_in app) (place_in app) result.alpha e (type_of embed) d x p

  abbrev pub IsDecidingIn : Unfolded → ℕ → Embed → ℕ → ℕ → Type 0
  IsDecidingIn result e embed x p = IsDeciding (as_map app.map) (rule_in app) (place_in app) result.alpha e (type_of embed) x p

  -- d is a dart of the result, in an orbit with an assigned instance
  abbrev pub IsReachedIn : Unfolded → ℕ → Embed → ℕ → Type 0
  IsReachedIn result e embed d = IsDartOf result d × IsReached (as_map app.map) (rule_in app) (place_in app) result.alpha e (type_of embed) d

  -- not more steps than twice the labels of the darts that are reached
  abbrev pub IsWithinReach : ℕ → Embed → ℕ → ℕ → Type 0
  IsWithinReach e embed old new = (result : Unfolded) (count : ℕ) → IsUnfoldedIn app result → HasCount (IsReachedIn result e embed) count → new ≤ old + 2 * (app.map.schema.dim + 1) * count

  -- the deciding instances of the embedding, by node and then by position
  pub record AreDecidingInstances (e : ℕ) (embed : Embed) (instances : List DecidingInstance) : Type 0 where
    pub ascending : (k l : ℕ) (a b : DecidingInstance) → k < l → slice_get instances k ≡ Some a → slice_get instances l ≡ Some b → IsPairBefore a.node a.position b.node b.position
    pub decide : (result : Unfolded) → IsUnfoldedIn app result → (instance : DecidingInstance) → Contains instances instance → IsDecidingIn result e embed instance.node instance.position
    pub all : (result : Unfolded) → IsUnfoldedIn app result → (x p : ℕ) → IsDecidingIn result e embed x p → (instance : DecidingInstance) × Contains instances instance × (instance.node ≡ x) × (instance.position ≡ p)

  -- the value that the dart d of the result has, where the deciding instances have those that were given
  abbrev pub IsValueIn : ℕ → Embed → ℕ → Value → Type 0
  IsValueIn e embed d v = (result : Unfolded) → IsUnfoldedIn app result → IsValueAfter (as_map app.map) (rule_in app) (place_in app) result.alpha e (type_of embed) (IsGivenIn e) d v

-- the embedding was asked for, and these are its deciding instances
abbrev pub with_instances : PendingOf → ℕ → List DecidingInstance → PendingOf
with_instances app e instances = record { map = app.map; table = app.table; placed = app.placed; asked = slice_set app.asked e (Some instances) }

-- with this value given to the deciding instance of the index
abbrev pub given_at : List DecidingInstance → ℕ → Value → List DecidingInstance
given_at [] k v = []
given_at (instance ∷ instances) zero v = record { node = instance.node; position = instance.position; given = Some v } ∷ instances
given_at (instance ∷ instances) (suc k) v = instance ∷ given_at instances k v

-- where it lies
abbrev pub place_of : DecidingInstance → ℕ × ℕ
place_of instance = (instance.node, instance.position)

-- The map is sound, the rule is accepted for it, and the instances are those of a match. What was answered are the
-- deciding instances, and what was given are values of their embedding's kind.
pub record IsPrepared (app : PendingOf) : Type 0 where
  pub lawful : IsLawful app.map
  pub planned : IsPlanned app.map.schema (rule_in app)
  pub sound : IsSound (as_map app.map)
  pub hooks : List ℕ
  pub matched : AreMatched app.map (rule_in app) hooks app.placed
  pub each : length app.asked ≡ length app.map.schema.embeds
  pub instances : (e : ℕ) (embed : Embed) (instances : List DecidingInstance) → IsEmbedAt app.map.schema e embed → deciding_of app e ≡ Some instances → AreDecidingInstances app e embed instances
  pub values : (e x p : ℕ) (embed : Embed) (v : Value) → IsEmbedAt app.map.schema e embed → IsGivenIn app e x p v → IsValueOf embed.kind v
