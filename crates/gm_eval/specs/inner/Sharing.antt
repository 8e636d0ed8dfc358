-- What a reading takes beside values of collectors that are at hand, and what it leaves for the next.
use Rattle.std.specs.Prelude.{◌≡◌, ℕ, ◌+◌, ◌<◌, ◌⊎◌, List, [], ◌∷◌, ◌++◌, length, map, Option, Some, None, MatchOption, true, false}
use Rattle.std.specs.List.{Contains}
use Rattle.gm_model.specs.declared.expr.DartTerm.{DartTerm}
use Rattle.gm_model.specs.declared.value.Value.{Value}
use Rattle.gm_model.specs.declared.value.Value.TheVariants as values
use Rattle.gm_model.specs.declared.word.Mask.{Mask}
use Rattle.gm_model.specs.Expressions.{Reading, HasValue, HasNoValue, HasUnits}
use Rattle.gm_model.specs.Labels.{has}
use Rattle.gm_model.specs.Orbits.{IsInOrbit}
use Rattle.gm_model.specs.Trees.{Tree, Number, Truth, Param, Field, Same, Count, Sum, Least, Greatest, Unary, Binary, If, MakeVec2, MakeVec3, MakeRgb}
use Rattle.gm_arena.specs.inner.ArenaMap.{ArenaMap, IsLiveSlot, alpha, name_at}
use Rattle.gm_plan.specs.inner.InArena.{slot_number}
use Rattle.gm_plan.specs.inner.Placed.{Placed}
use Rattle.gm_eval.specs.declared.kept.Collector.{Collector}
use Rattle.gm_eval.specs.declared.kept.Entry.{Entry}
use Rattle.gm_eval.specs.declared.kept.Form.{Form}
use Rattle.gm_eval.specs.declared.kept.Form.TheVariants as forms
use Rattle.gm_eval.specs.inner.Keeping.{collector_at}

-- the collector of this form, over the orbit of a node's own dart
abbrev pub IsOwn : Form → Mask → DartTerm → ℕ → Collector → Type 0
IsOwn form mask term e c = (term.path ≡ []) × (c ≡ record { form = form; mask = mask; node = term.node; embed = e })

-- ---- the collectors of an expression

-- the collector alone, where the path is empty
abbrev pub where_empty : List ℕ → Collector → List Collector
where_empty [] c = c ∷ []
where_empty (i ∷ path) c = []

-- the collector of this form, where the term is a node's own dart
abbrev pub own_collector : Form → Mask → DartTerm → ℕ → List Collector
own_collector form mask term e = where_empty term.path (record { form = form; mask = mask; node = term.node; embed = e })

-- the collectors over the orbit of a node's own dart that stand in the expression, from left to right
abbrev pub collectors_of : Tree → List Collector
collectors_of (Number n) = []
collectors_of (Truth b) = []
collectors_of (Param k) = []
collectors_of (Field d e) = []
collectors_of (Same d d') = []
collectors_of (Count o d) = own_collector forms.Count o d 0
collectors_of (Sum o d e) = own_collector forms.Sum o d e
collectors_of (Least o d e) = own_collector forms.Least o d e
collectors_of (Greatest o d e) = own_collector forms.Greatest o d e
collectors_of (Unary op a) = collectors_of a
collectors_of (Binary op a b) = collectors_of a ++ collectors_of b
collectors_of (If c a b) = collectors_of c ++ (collectors_of a ++ collectors_of b)
collectors_of (MakeVec2 a b) = collectors_of a ++ collectors_of b
collectors_of (MakeVec3 a b c) = collectors_of a ++ (collectors_of b ++ collectors_of c)
collectors_of (MakeRgb a b c) = collectors_of a ++ (collectors_of b ++ collectors_of c)

-- ---- what a reading takes

module _ (AtHand : Collector → Type 0) (reading : Reading) where
  -- a collector takes what it does in the model, or nothing where it is at hand
  abbrev pub HasOwnUnits : Form → Mask → DartTerm → ℕ → ℕ → Type 0
  HasOwnUnits form mask term e u = ((c : Collector) × IsOwn form mask term e c × AtHand c × (u ≡ 0)) ⊎ HasUnits reading (collector_at form mask term e) u

  -- The reading takes this many units, where each collector that is at hand may be left out. With none at hand these are the
  -- model's, form by form; with some there are several numbers of units, and what is bounded by each is by the least.
  abbrev pub HasUnitsBeside : Tree → ℕ → Type 0
  HasUnitsBeside (Number n) u = HasUnits reading (Number n) u
  HasUnitsBeside (Truth b) u = HasUnits reading (Truth b) u
  HasUnitsBeside (Param k) u = HasUnits reading (Param k) u
  HasUnitsBeside (Field d e) u = HasUnits reading (Field d e) u
  HasUnitsBeside (Same d d') u = HasUnits reading (Same d d') u
  HasUnitsBeside (Count o d) u = HasOwnUnits forms.Count o d 0 u
  HasUnitsBeside (Sum o d e) u = HasOwnUnits forms.Sum o d e u
  HasUnitsBeside (Least o d e) u = HasOwnUnits forms.Least o d e u
  HasUnitsBeside (Greatest o d e) u = HasOwnUnits forms.Greatest o d e u
  HasUnitsBeside (Unary op a) u = HasUnitsBeside a u
  HasUnitsBeside (Binary op a b) u = (s : ℕ) × (t : ℕ) × HasUnitsBeside a s × HasUnitsBeside b t × (u ≡ s + t)
  HasUnitsBeside (If c a b) u = (s : ℕ) × (t : ℕ) × HasUnitsBeside c s × ((HasValue reading c (values.Bool true) × HasUnitsBeside a t) ⊎ (HasValue reading c (values.Bool false) × HasUnitsBeside b t) ⊎ (HasNoValue reading c × (t ≡ 0))) × (u ≡ s + t)
  HasUnitsBeside (MakeVec2 a b) u = (s : ℕ) × (t : ℕ) × HasUnitsBeside a s × HasUnitsBeside b t × (u ≡ s + t)
  HasUnitsBeside (MakeVec3 a b c) u = (s : ℕ) × (t : ℕ) × (w : ℕ) × HasUnitsBeside a s × HasUnitsBeside b t × HasUnitsBeside c w × (u ≡ s + t + w)
  HasUnitsBeside (MakeRgb a b c) u = (s : ℕ) × (t : ℕ) × (w : ℕ) × HasUnitsBeside a s × HasUnitsBeside b t × HasUnitsBeside c w × (u ≡ s + t + w)

-- the value of the collector is among those that are kept
abbrev pub IsAtHand : Option (List Entry) → Collector → Type 0
IsAtHand kept c = (entries : List Entry) × (kept ≡ Some entries) × (value : Option Value) × Contains entries (record { collector = c; value = value })

-- each collector of the list stands there once
abbrev pub HasEachOnce : List Collector → Type 0
HasEachOnce [] = Unit {0}
HasEachOnce (c ∷ cs) = (Contains cs c → ⊥) × HasEachOnce cs

-- no collector is kept twice
abbrev pub AreKeptOnce : Option (List Entry) → Type 0
AreKeptOnce None = Unit {0}
AreKeptOnce (Some entries) = HasEachOnce (map (λ (entry : Entry). entry.collector) entries)

-- ---- what it leaves

-- Where the expression has a value, its reading reads this collector over the orbit of a node's own dart. Of a choice that
-- is the condition and the chosen part.
module _ (reading : Reading) where
  abbrev pub Reads : Tree → Collector → Type 0
  Reads (Number n) x = ⊥
  Reads (Truth b) x = ⊥
  Reads (Param k) x = ⊥
  Reads (Field d e) x = ⊥
  Reads (Same d d') x = ⊥
  Reads (Count o d) x = IsOwn forms.Count o d 0 x
  Reads (Sum o d e) x = IsOwn forms.Sum o d e x
  Reads (Least o d e) x = IsOwn forms.Least o d e x
  Reads (Greatest o d e) x = IsOwn forms.Greatest o d e x
  Reads (Unary op a) x = Reads a x
  Reads (Binary op a b) x = Reads a x ⊎ Reads b x
  Reads (If c a b) x = Reads c x ⊎ (HasValue reading c (values.Bool true) × Reads a x) ⊎ (HasValue reading c (values.Bool false) × Reads b x)
  Reads (MakeVec2 a b) x = Reads a x ⊎ Reads b x
  Reads (MakeVec3 a b c) x = Reads a x ⊎ Reads b x ⊎ Reads c x
  Reads (MakeRgb a b c) x = Reads a x ⊎ Reads b x ⊎ Reads c x

-- the collector's orbit, from the node's dart at the position, holds the node's dart at every position
abbrev pub IsShared : ArenaMap → Placed → ℕ → Collector → Type 0
IsShared m placed position c = (p : ℕ) → p < placed.positions → let slot = slot_number placed c.node p in
    IsLiveSlot m slot × IsInOrbit (alpha m) (has c.mask) (name_at m (slot_number placed c.node position)) (name_at m slot)

-- values are kept, and fewer than there is room for
abbrev pub HasRoom : Option (List Entry) → Type 0
HasRoom kept = (entries : List Entry) × (kept ≡ Some entries) × (length entries < 37)

-- what was kept still is
abbrev pub StillKept : Option (List Entry) → Option (List Entry) → Type 0
StillKept old new = MatchOption old (new ≡ None) (λ entries. (more : List Entry) × (new ≡ Some (entries ++ more)))
