-- Which darts of the result are reached from deciding instances, and how a walk finds them. No public clause cites this module.
use Rattle.std.specs.Prelude.{◌≡◌, ◌≢◌, ℕ, ◌+◌, ◌<◌, ◌≤◌, ◌⊎◌, List, length, Some, None, slice_get, IsTrue}
use Rattle.std.specs.List.{Contains}
use Rattle.gm_model.specs.declared.schema.Embed.{Embed}
use Rattle.gm_model.specs.Components.{IsAssigned}
use Rattle.gm_model.specs.Maps.{IsEmbedAt, type_of}
use Rattle.gm_model.specs.Orbits.{IsInOrbit, IsPairBefore}
use Rattle.gm_model.specs.Unfolding.{IsArcAfter}
use Rattle.gm_theory.specs.inner.Theorem.{Unfolded}
use Rattle.gm_walk.specs.declared.at.At.{At}
use Rattle.gm_walk.specs.inner.Keys.{key_of}
use Rattle.gm_pending.specs.inner.Marks.{HasKey}
use Rattle.gm_pending.specs.inner.LabelPairs.{IsPair}
use Rattle.gm_pending.specs.declared.deciding_instance.DecidingInstance.{DecidingInstance}
use Rattle.gm_walk.specs.declared.mark.Mark.{Mark}
use Rattle.gm_pending.specs.inner.Results.{PendingOf, IsResultDart, IsUnfoldedIn, IsDecidedIn, IsReachedIn, name_of, rule_in, scene_in}

-- a deciding instance that has no value yet
abbrev pub ungiven : ℕ → ℕ → DecidingInstance
ungiven x p = record { node = x; position = p; given = None }

module _ (app : PendingOf) where
  -- each entry is a dart of the result
  abbrev pub AreResultDarts : List Mark → Type 0
  AreResultDarts reached = (entry : Mark) → Contains reached entry → IsResultDart app entry.at

  abbrev pub HaveDistinctNames : List Mark → Type 0
  HaveDistinctNames reached = (k l : ℕ) (a b : Mark) → k < l → slice_get reached k ≡ Some a → slice_get reached l ≡ Some b → name_of app a.at ≢ name_of app b.at

  -- the dart has an entry, with the index of this decider
  abbrev pub HasMark : List Mark → ℕ → ℕ → Type 0
  HasMark reached d k = (entry : Mark) × Contains reached entry × (name_of app entry.at ≡ d) × (entry.instance ≡ k)

  -- x is the dart of an added entry
  abbrev pub IsAdded : List Mark → List Mark → ℕ → Type 0
  IsAdded before after x = (j : ℕ) × (entry : Mark) × (length before ≤ j) × (slice_get after j ≡ Some entry) × (name_of app entry.at ≡ x)

  -- ---- all of them

  -- the entries are the darts of the result in orbits with a deciding instance, each once, with its index
  pub record AreReached (e : ℕ) (embed : Embed) (instances : List DecidingInstance) (reached : List Mark) : Type 0 where
    pub darts : AreResultDarts reached
    pub distinct : HaveDistinctNames reached
    pub decided : (result : Unfolded) → IsUnfoldedIn app result → (entry : Mark) → Contains reached entry → (instance : DecidingInstance) × (slice_get instances entry.instance ≡ Some instance) × IsDecidedIn app result e embed (name_of app entry.at) instance.node instance.position
    pub all : (result : Unfolded) → IsUnfoldedIn app result → (d : ℕ) → IsReachedIn app result e embed d → (entry : Mark) × Contains reached entry × (name_of app entry.at ≡ d)

  -- each entry is one of them
  abbrev pub AreSomeReached : ℕ → Embed → List Mark → Type 0
  AreSomeReached e embed reached = (result : Unfolded) → IsUnfoldedIn app result → (entry : Mark) → Contains reached entry → IsReachedIn app result e embed (name_of app entry.at)

  -- ---- the walk from one instance

  module _ (embed : Embed) (result : Unfolded) where
    -- an arc of the type leads from a marked dart to a marked dart
    abbrev pub IsClosed : List Mark → Type 0
    IsClosed reached = (d k i : ℕ) → HasMark reached d k → IsTrue (type_of embed i) → HasMark reached (result.alpha i d) k

    -- entries were added, each in the orbit of the dart d, and with this index
    pub record IsGrown (before after : List Mark) (k d : ℕ) : Type 0 where
      pub kept : (j : ℕ) (entry : Mark) → slice_get before j ≡ Some entry → slice_get after j ≡ Some entry
      pub more : (j : ℕ) (entry : Mark) → length before ≤ j → slice_get after j ≡ Some entry → (entry.instance ≡ k) × IsInOrbit result.alpha (type_of embed) d (name_of app entry.at)

    -- the arcs of the added entries were followed as far as entry n and label i
    pub record IsSpreadTo (before after : List Mark) (k d n i : ℕ) : Type 0 where
      pub grown : IsGrown before after k d
      pub closed : IsClosed before
      pub here : HasMark after d k
      -- the arc over which an entry was reached leads back to a marked dart
      pub back : (j l : ℕ) (entry : Mark) → length before ≤ j → slice_get after j ≡ Some entry → entry.over ≡ Some l → IsTrue (type_of embed l) → HasMark after (result.alpha l (name_of app entry.at)) k
      pub followed : (j l : ℕ) (entry : Mark) → length before ≤ j → slice_get after j ≡ Some entry → IsPairBefore j l n i → IsTrue (type_of embed l) → HasMark after (result.alpha l (name_of app entry.at)) k

  -- In each unfolding, and whatever was reached before the walk: the arcs of this entry were followed as far as label i.
  abbrev pub IsFollowedTo : Embed → Mark → List Mark → List Mark → ℕ → Type 0
  IsFollowedTo embed from old new i = (result : Unfolded) (before : List Mark) (d n : ℕ) → IsUnfoldedIn app result → slice_get old n ≡ Some from → length before ≤ n → IsSpreadTo embed result before old from.instance d n 0 → IsSpreadTo embed result before new from.instance d n i

  -- and some of them
  abbrev pub IsFollowed : Embed → Mark → List Mark → List Mark → Type 0
  IsFollowed embed from old new = (result : Unfolded) (before : List Mark) (d n : ℕ) → IsUnfoldedIn app result → slice_get old n ≡ Some from → length before ≤ n → IsSpreadTo embed result before old from.instance d n 0 → IsGrown embed result before new from.instance d

  -- ---- the walk along two labels

  module _ (embed : Embed) (result : Unfolded) where
    -- each arc of the type leads from an added entry to a marked dart, unless it is that of dart x along l or that of dart d along m
    pub record IsFollowedBut (before after : List Mark) (k d x l m : ℕ) : Type 0 where
      pub grown : IsGrown embed result before after k d
      pub closed : IsClosed embed result before
      pub here : IsAdded before after d
      pub end : IsAdded before after x
      pub followed : (j i : ℕ) (entry : Mark) → length before ≤ j → slice_get after j ≡ Some entry → IsTrue (type_of embed i) → HasMark after (result.alpha i (name_of app entry.at)) k ⊎ ((name_of app entry.at ≡ x) × (i ≡ l)) ⊎ ((name_of app entry.at ≡ d) × (i ≡ m))

  -- In each unfolding, and whatever was reached before the walk from dart d: its arc along label i was followed, and on from there as far as darts were unmarked.
  abbrev pub IsFollowedAlong : Embed → ℕ → ℕ → ℕ → List Mark → List Mark → Type 0
  IsFollowedAlong embed k d i old new = (result : Unfolded) (before : List Mark) (m : ℕ) → IsUnfoldedIn app result → IsFollowedBut embed result before old k d d i m → IsFollowedBut embed result before new k d d m m

  -- and some way
  abbrev pub IsGrownAlong : Embed → ℕ → ℕ → ℕ → List Mark → List Mark → Type 0
  IsGrownAlong embed k d i old new = (result : Unfolded) (before : List Mark) (m : ℕ) → IsUnfoldedIn app result → IsFollowedBut embed result before old k d d i m → IsGrown embed result before new k d

  -- The arc of dart `at` along label i leads to a marked dart only where it leads back, or to dart `start`.
  abbrev pub LeadsBackOnly : List Mark → At → At → ℕ → Type 0
  LeadsBackOnly reached start at i = (next : At) → IsResultDart app next → IsArcAfter (scene_in app) (name_of app at) i (name_of app next) → HasKey reached (key_of next) → (key_of next ≡ key_of at) ⊎ (key_of next ≡ key_of start)

  -- Whatever was reached before the walk from dart `start`, which had come to dart `at` and its arc along label i: that arc was followed, and the walk ends there.
  abbrev pub IsFollowedOut : ℕ → At → At → ℕ → List Mark → List Mark → Type 0
  IsFollowedOut k start at i old new = (e other m : ℕ) (embed : Embed) (result : Unfolded) (before : List Mark) → IsEmbedAt app.map.schema e embed → IsPair embed.mask i other → IsUnfoldedIn app result →
      IsFollowedBut embed result before old k (name_of app start) (name_of app at) i m → IsFollowedBut embed result before new k (name_of app start) (name_of app start) m m

  -- That arc was followed to dart `to`, which alone was marked. From there the walk goes on along the other label.
  pub record IsGoneOn (k : ℕ) (start at : At) (i : ℕ) (old : List Mark) (to : At) (new : List Mark) : Type 0 where
    pub dart : IsResultDart app to
    pub here : HasKey new (key_of to)
    pub longer : length new ≡ length old + 1
    pub walked : (e other m : ℕ) (embed : Embed) (result : Unfolded) (before : List Mark) → IsEmbedAt app.map.schema e embed → IsPair embed.mask i other → IsUnfoldedIn app result →
        IsFollowedBut embed result before old k (name_of app start) (name_of app at) i m → IsFollowedBut embed result before new k (name_of app start) (name_of app to) other m × LeadsBackOnly new start to other

  -- ---- a node whose instances are one orbit

  -- arcs of the type lead from instances of node x to its instances alone, and from the first to each
  pub record IsOneOrbit (embed : Embed) (result : Unfolded) (x : ℕ) : Type 0 where
    pub closed : (p i : ℕ) → p < app.placed.positions → IsTrue (type_of embed i) → (q : ℕ) × (q < app.placed.positions) × (result.alpha i ((scene_in app).name_of x p) ≡ (scene_in app).name_of x q)
    pub joined : (p : ℕ) → p < app.placed.positions → IsInOrbit result.alpha (type_of embed) ((scene_in app).name_of x 0) ((scene_in app).name_of x p)

  -- in each unfolding
  abbrev pub IsAlwaysOneOrbit : Embed → ℕ → Type 0
  IsAlwaysOneOrbit embed x = (result : Unfolded) → IsUnfoldedIn app result → IsOneOrbit embed result x

  -- no instance of node x is marked
  abbrev pub IsUnmarked : List Mark → ℕ → Type 0
  IsUnmarked reached x = (p k : ℕ) → p < app.placed.positions → HasMark reached ((scene_in app).name_of x p) k → ⊥

  -- entries were added: those of the instances of node x at the positions before p, with this index
  pub record AreMarkedTo (before after : List Mark) (x k p : ℕ) : Type 0 where
    pub kept : (j : ℕ) (entry : Mark) → slice_get before j ≡ Some entry → slice_get after j ≡ Some entry
    pub more : (j : ℕ) (entry : Mark) → length before ≤ j → slice_get after j ≡ Some entry → (entry.instance ≡ k) × (q : ℕ) × (q < p) × (name_of app entry.at ≡ (scene_in app).name_of x q)
    pub all : (q : ℕ) → q < p → HasMark after ((scene_in app).name_of x q) k

  -- ---- the walks from the instances before one

  module _ (e : ℕ) (embed : Embed) where
    pub record IsWalkedUpTo (result : Unfolded) (instances : List DecidingInstance) (reached : List Mark) (x p : ℕ) : Type 0 where
      pub closed : IsClosed embed result reached
      pub decided : (d k : ℕ) → HasMark reached d k → (instance : DecidingInstance) × (slice_get instances k ≡ Some instance) × IsDecidedIn app result e embed d instance.node instance.position
      pub own : (k : ℕ) (instance : DecidingInstance) → slice_get instances k ≡ Some instance → HasMark reached ((scene_in app).name_of instance.node instance.position) k
      pub all : (y q : ℕ) → IsPairBefore y q x p → IsAssigned (rule_in app) e y → q < app.placed.positions → (k : ℕ) × HasMark reached ((scene_in app).name_of y q) k

    -- each assigned instance before node x and position p was looked at
    pub record IsDecidedUpTo (instances : List DecidingInstance) (reached : List Mark) (x p : ℕ) : Type 0 where
      pub darts : AreResultDarts reached
      pub few : length instances ≤ 4294967295
      pub ascending : (k l : ℕ) (a b : DecidingInstance) → k < l → slice_get instances k ≡ Some a → slice_get instances l ≡ Some b → IsPairBefore a.node a.position b.node b.position
      pub before : (k : ℕ) (instance : DecidingInstance) → slice_get instances k ≡ Some instance → IsPairBefore instance.node instance.position x p
      pub ungiven : (k : ℕ) (instance : DecidingInstance) → slice_get instances k ≡ Some instance → instance.given ≡ None
      pub walked : (result : Unfolded) → IsUnfoldedIn app result → IsWalkedUpTo result instances reached x p
