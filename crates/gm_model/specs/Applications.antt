-- What one application of a rule does: its outcome, with the refusals in their order, and the steps that it may take.
use Rattle.std.specs.Prelude.{◌≡◌, ℕ, ◌+◌, ◌*◌, ◌<◌, ◌≤◌, ◌⊎◌, ◌↔◌, Bool, true, false, List, length, sum, Some, None, slice_get, IsTrue}
use Rattle.std.specs.List.{Contains, AllZip}
use Rattle.gm_model.specs.declared.schema.Embed.{Embed}
use Rattle.gm_model.specs.declared.value.Value.{Value}
use Rattle.gm_model.specs.declared.value.Value.TheVariants as values
use Rattle.gm_model.specs.Expressions.{Reading, HasValue, HasNoValue, HasUnits}
use Rattle.gm_model.specs.Limits.{most_darts, most_names}
use Rattle.gm_model.specs.Maps.{Map, IsDart, IsEmbedAt, dimension, type_of}
use Rattle.gm_model.specs.Matches.{Placement, IsCandidate, IsInstance, IsMatch, IsMetAt}
use Rattle.gm_model.specs.NewValues.{IsDeciding, IsReached, IsValueAfter}
use Rattle.gm_model.specs.Orbits.{IsPairBefore, HasCount}
use Rattle.gm_model.specs.Rules.{Rule, Assigns}
use Rattle.gm_model.specs.Trees.{Tree}
use Rattle.gm_model.specs.Unfolding.{scene_of, IsGone, IsUnfolding, added_nodes}

-- why an application is refused
pub data Cause : Type 0 where
  NoDart : ℕ → Cause
  Arc : ℕ → ℕ → ℕ → Cause
  Same : ℕ → ℕ → ℕ → ℕ → Cause
  PreNoValue : Cause
  PreFalse : Cause
  FullDarts : ℕ → ℕ → Cause
  FullNames : ℕ → ℕ → Cause
  NoValue : ℕ → ℕ → Cause

-- ---- one application

-- what is applied to what: the map as it is before, the rule, a dart's name for each hook, and a value for each parameter
pub record Application : Type 0 where
  pub map : Map
  pub rule : Rule
  pub hooks : List ℕ
  pub params : List Value

-- a deciding instance: its embedding, node and position
pub record Decider : Type 0 where
  pub embed : ℕ
  pub node : ℕ
  pub position : ℕ

-- by embedding, node and position
abbrev pub IsDeciderBefore : Decider → Decider → Type 0
IsDeciderBefore a b = (a.embed < b.embed) ⊎ ((a.embed ≡ b.embed) × IsPairBefore a.node a.position b.node b.position)

module _ (app : Application) where
  -- each hook names a live dart
  abbrev pub HasHookDarts : Type 0
  HasHookDarts = (d : ℕ) → Contains app.hooks d → IsDart app.map d

  module _ (place : Placement) where
    -- ---- matching

    -- (x, p, i) comes before (y, q, j)
    abbrev pub IsStepBefore : ℕ → ℕ → ℕ → ℕ → ℕ → ℕ → Type 0
    IsStepBefore x p i y q j = IsPairBefore x p y q ⊎ ((x ≡ y) × (p ≡ q) × (i < j))

    -- the first left step that the candidate doesn't meet
    pub record IsFirstBroken (x p i : ℕ) : Type 0 where
      pub instance : IsInstance app.rule place x p
      pub label : i ≤ dimension app.map
      pub broken : IsMetAt app.map app.rule place x p i → ⊥
      pub before : (y q j : ℕ) → IsStepBefore y q j x p i → IsInstance app.rule place y q → j ≤ dimension app.map → IsMetAt app.map app.rule place y q j

    abbrev pub MeetsSteps : Type 0
    MeetsSteps = (x p i : ℕ) → IsInstance app.rule place x p → i ≤ dimension app.map → IsMetAt app.map app.rule place x p i

    -- (y, q) comes after (x, p), and has its dart
    pub record IsRepeat (x p y q : ℕ) : Type 0 where
      pub first : IsInstance app.rule place x p
      pub second : IsInstance app.rule place y q
      pub later : IsPairBefore x p y q
      pub same : place.dart_of x p ≡ place.dart_of y q

    -- (y, q) is the least instance whose dart an earlier one has
    pub record IsFirstRepeat (x p y q : ℕ) : Type 0 where
      pub here : IsRepeat x p y q
      pub before : (x' p' y' q' : ℕ) → IsPairBefore y' q' y q → IsRepeat x' p' y' q' → ⊥

    -- ---- the precondition, and room

    abbrev pub reading_at : ℕ → Reading
    reading_at p = record { map = app.map; place = place; position = p; params = app.params }

    -- there is no precondition, or it is true
    abbrev pub MeetsPre : Type 0
    MeetsPre = (tree : Tree) → app.rule.pre ≡ Some tree → HasValue (reading_at 0) tree (values.Bool true)

    -- a dart that stays
    abbrev pub IsStaying : ℕ → Type 0
    IsStaying d = IsDart app.map d × (IsGone (scene_of app.map app.rule place) d → ⊥)

    abbrev pub more : ℕ
    more = place.positions * added_nodes app.rule

    -- a match of the rule at the hook darts
    abbrev pub IsMatched : Type 0
    IsMatched = IsMatch app.map app.rule app.hooks place

    -- there is a match, the precondition is true, and the result has room
    pub record IsReady : Type 0 where
      pub matched : IsMatched
      pub pre : MeetsPre
      pub live : ℕ
      pub live_is : HasCount IsStaying live
      pub darts_fit : live + more ≤ most_darts
      pub names_fit : app.map.next + more ≤ most_names

    -- ---- values

    -- an instance with an assignment to an embedding
    abbrev pub IsExpressionAt : ℕ → ℕ → ℕ → Tree → Type 0
    IsExpressionAt e x p tree = Assigns app.rule x e tree × (p < place.positions)

    -- its expression has this value, read in the old map at its position
    abbrev pub GivesValue : ℕ → ℕ → ℕ → Value → Type 0
    GivesValue e x p v = (tree : Tree) × IsExpressionAt e x p tree × HasValue (reading_at p) tree v

    -- Over the neighbours of the unfolded map:
    module _ (IsLive : ℕ → Type 0) (alpha : ℕ → ℕ → ℕ) where
      abbrev pub IsUnfolded : Type 0
      IsUnfolded = IsUnfolding (scene_of app.map app.rule place) IsLive alpha (app.map.next + more)

      -- the instance decides an orbit of the embedding
      pub record IsDecider (decider : Decider) : Type 0 where
        pub embed : Embed
        pub embed_at : IsEmbedAt app.map.schema decider.embed embed
        pub deciding : IsDeciding app.map app.rule place alpha decider.embed (type_of embed) decider.node decider.position

      -- each deciding instance before it has a value
      abbrev pub IsValuedBefore : Decider → Type 0
      IsValuedBefore decider = (other : Decider) → IsDeciderBefore other decider → IsDecider other → (v : Value) × GivesValue other.embed other.node other.position v

      -- the first deciding instance without a value
      pub record IsFirstValueless (decider : Decider) : Type 0 where
        pub here : IsDecider decider
        pub none : (v : Value) → GivesValue decider.embed decider.node decider.position v → ⊥
        pub before : IsValuedBefore decider

      -- an instance whose expression is read: a deciding one, up to the first without a value, that one included
      abbrev pub IsRead : Decider → Type 0
      IsRead decider = IsDecider decider × IsValuedBefore decider

      -- the darts of the embedding's orbits that hold an assigned instance
      abbrev pub IsReachedAt : ℕ → Embed → ℕ → Type 0
      IsReachedAt e embed d = IsLive d × IsReached app.map app.rule place alpha e (type_of embed) d

  -- ---- the outcome

  -- The map has the darts and arcs of the unfolding, and on each dart the values that the application gives it: each
  -- deciding instance has a value, and it is the value of its orbit.
  pub record IsResult (place : Placement) (result : Map) : Type 0 where
    pub schema : result.schema ≡ app.map.schema
    pub unfolded : IsUnfolding (scene_of app.map app.rule place) (IsDart result) result.alpha result.next
    pub values : (e d : ℕ) (embed : Embed) → IsEmbedAt app.map.schema e embed → IsDart result d → IsValueAfter app.map app.rule place result.alpha e (type_of embed) (GivesValue place e) d (result.value e d)

  -- done, with this map as the result, `added` darts added and `removed` ones removed
  pub record IsDone (result : Map) (added removed : ℕ) : Type 0 where
    pub place : Placement
    pub ready : IsReady place
    pub result_is : IsResult place result
    pub added_is : added ≡ more place
    pub removed_is : HasCount (IsGone (scene_of app.map app.rule place)) removed

  -- Refused, and the map is left as it is. The first of these that holds is the outcome.
  pub data IsRefused : Cause → Type 0 where
    NoHookDart : (index d : ℕ) → slice_get app.hooks index ≡ Some d → (IsDart app.map d → ⊥) → ((k e : ℕ) → k < index → slice_get app.hooks k ≡ Some e → IsDart app.map e) → IsRefused (NoDart index)
    BrokenStep : (place : Placement) (x p i : ℕ) → HasHookDarts → IsCandidate app.map app.rule app.hooks place → IsFirstBroken place x p i → IsRefused (Arc x p i)
    Repeated : (place : Placement) (x p y q : ℕ) → HasHookDarts → IsCandidate app.map app.rule app.hooks place → MeetsSteps place → IsFirstRepeat place x p y q → IsRefused (Same x p y q)
    ValuelessPre : (place : Placement) (tree : Tree) → IsMatched place → app.rule.pre ≡ Some tree → HasNoValue (reading_at place 0) tree → IsRefused PreNoValue
    FalsePre : (place : Placement) (tree : Tree) → IsMatched place → app.rule.pre ≡ Some tree → HasValue (reading_at place 0) tree (values.Bool false) → IsRefused PreFalse
    NoRoom : (place : Placement) (live : ℕ) → IsMatched place → MeetsPre place → HasCount (IsStaying place) live → most_darts < live + more place → IsRefused (FullDarts live (more place))
    NoNames : (place : Placement) (live : ℕ) → IsMatched place → MeetsPre place → HasCount (IsStaying place) live → live + more place ≤ most_darts → most_names < app.map.next + more place → IsRefused (FullNames app.map.next (more place))
    Valueless : (place : Placement) (IsLive : ℕ → Bool) (alpha : ℕ → ℕ → ℕ) (decider : Decider) → IsReady place → IsUnfolded place (λ d. IsTrue (IsLive d)) alpha → IsFirstValueless place (λ d. IsTrue (IsLive d)) alpha decider → IsRefused (NoValue decider.embed decider.node)

  -- ---- the budget

  -- what reading the precondition takes, where there is one
  abbrev pub IsPreUnits : Placement → ℕ → Type 0
  IsPreUnits place u = (app.rule.pre ≡ None × (u ≡ 0)) ⊎ ((tree : Tree) × (app.rule.pre ≡ Some tree) × HasUnits (reading_at place 0) tree u)

  -- what reading the expression of a deciding instance takes
  abbrev pub IsReadUnits : Placement → Decider → ℕ → Type 0
  IsReadUnits place decider u = (tree : Tree) × IsExpressionAt place decider.embed decider.node decider.position tree × HasUnits (reading_at place decider.position) tree u

  -- the sum of what reading the deciding instances takes, each of those that are read once
  pub record IsReadSum (place : Placement) (IsLive : ℕ → Type 0) (alpha : ℕ → ℕ → ℕ) (u : ℕ) : Type 0 where
    pub read : List Decider
    pub ordered : (k l : ℕ) (a b : Decider) → k < l → slice_get read k ≡ Some a → slice_get read l ≡ Some b → IsDeciderBefore a b
    pub same : (decider : Decider) → Contains read decider ↔ IsRead place IsLive alpha decider
    pub units : List ℕ
    pub units_are : AllZip (IsReadUnits place) read units
    pub sum_is : u ≡ sum units

  -- the sum, over the embeddings, of the darts in orbits with an assigned instance
  pub record IsReachedSum (place : Placement) (IsLive : ℕ → Type 0) (alpha : ℕ → ℕ → ℕ) (count : ℕ) : Type 0 where
    pub counts : List ℕ
    pub each : length counts ≡ length app.map.schema.embeds
    pub counts_are : (e c : ℕ) (embed : Embed) → slice_get counts e ≡ Some c → IsEmbedAt app.map.schema e embed → HasCount (IsReachedAt place IsLive alpha e embed) c
    pub sum_is : count ≡ sum counts

  -- how many positions the candidate has; 1 where a hook names no live dart
  pub data HasPositions : ℕ → Type 0 where
    NoDarts : (HasHookDarts → ⊥) → HasPositions 1
    Candidate : (place : Placement) → HasHookDarts → IsCandidate app.map app.rule app.hooks place → HasPositions place.positions

  -- How many darts get values, and what is read. Where the application is refused before its assignments, no dart counts
  -- as getting one, and the precondition alone is read, where it is reached.
  pub data IsWork : ℕ → ℕ → Type 0 where
    NoMatch : ((place : Placement) → IsMatched place → ⊥) → IsWork 0 0
    NotReady : (place : Placement) (u : ℕ) → IsMatched place → (IsReady place → ⊥) → IsPreUnits place u → IsWork 0 u
    Ready : (place : Placement) (IsLive : ℕ → Bool) (alpha : ℕ → ℕ → ℕ) (reached u w : ℕ) → IsReady place → IsUnfolded place (λ d. IsTrue (IsLive d)) alpha → IsReachedSum place (λ d. IsTrue (IsLive d)) alpha reached → IsPreUnits place u → IsReadSum place (λ d. IsTrue (IsLive d)) alpha w → IsWork reached (u + w)

  -- the most steps that the application may take
  pub data IsBudget : ℕ → Type 0 where
    Of : (positions reached read : ℕ) → HasPositions positions → IsWork reached read → IsBudget (24 * (dimension app.map + 1) * (length app.rule.nodes * positions + reached + read + 1))
