-- What an orbit is, and in which order its darts are walked.
use Rattle.std.specs.Prelude.{◌≡◌, ◌≢◌, ℕ, ◌<◌, ◌≤◌, Bool, ◌⊎◌, ◌↔◌, List, [], ◌∷◌, length, take, slice_get, slice_index, Some, IsTrue}
use Rattle.std.specs.List.{AllByRecursion, Contains}

-- a set of labels
abbrev pub Labels : Type 0
Labels = ℕ → Bool

-- the dart to which the labels lead, the first of them first
abbrev pub follow : (ℕ → ℕ → ℕ) → List ℕ → ℕ → ℕ
follow alpha [] d = d
follow alpha (i ∷ path) d = follow alpha path (alpha i d)

abbrev pub IsPathIn : Labels → List ℕ → Type 0
IsPathIn o path = AllByRecursion (λ i. IsTrue (o i)) path

-- some path of labels of the set leads from d to e
abbrev pub IsInOrbit : (ℕ → ℕ → ℕ) → Labels → ℕ → ℕ → Type 0
IsInOrbit alpha o d e = (path : List ℕ) × IsPathIn o path × (follow alpha path d ≡ e)

abbrev pub HasNoRepeats : List ℕ → Type 0
HasNoRepeats xs = (p q : ℕ) → p < q → q < length xs → slice_index xs p ≢ slice_index xs q

-- the list has each dart of which P holds once, and no other
pub record IsListOf (P : ℕ → Type 0) (darts : List ℕ) : Type 0 where
  pub distinct : HasNoRepeats darts
  pub same : (d : ℕ) → Contains darts d ↔ P d

-- this many darts have P
abbrev pub HasCount : (ℕ → Type 0) → ℕ → Type 0
HasCount P count = (darts : List ℕ) × IsListOf P darts × (length darts ≡ count)

-- ---- how many orbits there are

-- d is the least live dart of its orbit
pub record IsLead (IsLive : ℕ → Type 0) (alpha : ℕ → ℕ → ℕ) (o : Labels) (d : ℕ) : Type 0 where
  pub live : IsLive d
  pub least : (e : ℕ) → IsInOrbit alpha o d e → IsLive e → d ≤ e

-- this many orbits: one for each least dart of an orbit
abbrev pub HasOrbits : (ℕ → Type 0) → (ℕ → ℕ → ℕ) → Labels → ℕ → Type 0
HasOrbits IsLive alpha o count = HasCount (IsLead IsLive alpha o) count

-- ---- the walk

-- (q, l) comes before (q', l')
abbrev pub IsPairBefore : ℕ → ℕ → ℕ → ℕ → Type 0
IsPairBefore q l q' l' = (q < q') ⊎ ((q ≡ q') × (l < l'))

-- Over any neighbour function: `next d l` is the dart that lies at place l from d, for each place below the width.
module _ (next : ℕ → ℕ → ℕ) (width : ℕ) where
  -- the dart at p is the neighbour at l of the dart at q, and each earlier pair leads to one of the first p darts
  pub record IsLeastStep (walk : List ℕ) (p q l : ℕ) : Type 0 where
    pub earlier : q < p
    pub place : l < width
    pub leads : slice_index walk p ≡ next (slice_index walk q) l
    pub least : (q' l' : ℕ) → IsPairBefore q' l' q l → l' < width → Contains (take p walk) (next (slice_index walk q') l')

  -- the walk from d as far as the pair (q, l), before which each pair was followed
  pub record IsWalkTo (d q l : ℕ) (walk : List ℕ) : Type 0 where
    pub starts : slice_get walk 0 ≡ Some d
    pub distinct : HasNoRepeats walk
    pub closed : (q' l' : ℕ) → IsPairBefore q' l' q l → q' < length walk → l' < width → Contains walk (next (slice_index walk q') l')
    pub least : (p : ℕ) → 0 < p → p < length walk → (q' : ℕ) × (l' : ℕ) × IsLeastStep walk p q' l'

  -- The whole walk from d. It begins with d and repeats no dart; each place leads from one of its darts to one of
  -- its darts; and each later dart is the first new one, by the least pair of a dart before it and a place.
  abbrev pub IsWalk : ℕ → List ℕ → Type 0
  IsWalk d walk = IsWalkTo d (length walk) 0 walk
