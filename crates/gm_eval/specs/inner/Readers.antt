-- What holds where expressions are read. No public clause cites this module.
use Rattle.std.specs.Prelude.{◌≡◌, ℕ, ◌+◌, ◌*◌, ◌<◌, ◌≤◌, ◌⊎◌, ℤ, List, All, slice_get, Option, Some, MatchOption}
use Rattle.std.specs.List.{Contains}
use Rattle.gm_model.specs.declared.expr.DartTerm.{DartTerm}
use Rattle.gm_model.specs.declared.value.Value.{Value}
use Rattle.gm_model.specs.declared.value.Value.TheVariants.{Int}
use Rattle.gm_model.specs.declared.word.Mask.{Mask}
use Rattle.gm_model.specs.Expressions.{Reading, HasValue, HasNoValue, IsCollected, dart_at}
use Rattle.gm_model.specs.Orbits.{IsListOf}
use Rattle.gm_model.specs.Trees.{Tree}
use Rattle.gm_arena.specs.declared.slot.Slot.{Slot}
use Rattle.gm_arena.specs.inner.Lawful.{IsLawful}
use Rattle.gm_walk.specs.inner.Walks.{AreLive, names_of}
use Rattle.gm_eval.specs.declared.kept.Collector.{Collector}
use Rattle.gm_eval.specs.declared.kept.Entry.{Entry}
use Rattle.gm_eval.specs.declared.kept.Form.{Form}
use Rattle.gm_eval.specs.declared.kept.Form.TheVariants as forms
use Rattle.gm_eval.specs.declared.reader.Reader.{Reader}
use Rattle.gm_eval.specs.inner.Places.{AreLiveAt, IsTypedFor, reading_in}
use Rattle.gm_eval.specs.inner.Keeping.{AreKept}
use Rattle.gm_eval.specs.inner.Sharing.{AreKeptOnce, HasOwnUnits, HasRoom, HasUnitsBeside, IsAtHand, IsOwn, IsShared, Reads, StillKept, collectors_of}

abbrev pub reading_of : Reader → Reading
reading_of reader = reading_in reader.arena.now reader.found.now reader.position reader.params.now

-- the position is one of the application, and its slots are live
pub record IsHere (reader : Reader) : Type 0 where
  pub lawful : IsLawful reader.arena.now
  pub position : reader.position < reader.found.now.positions
  pub live : AreLiveAt reader.arena.now reader.found.now reader.position

-- the term names a node, and labels of the map
pub record IsTermHere (reader : Reader) (term : DartTerm) : Type 0 where
  pub node : term.node < reader.found.now.nodes
  pub path : All (λ i. i ≤ reader.arena.now.schema.dim) term.path

-- the expression can be read there
pub record IsReady (reader : Reader) (tree : Tree) : Type 0 where
  pub here : IsHere reader
  pub typed : IsTypedFor reader.arena.now.schema reader.found.now.nodes reader.params.now tree

-- the slots are those of the orbit of the term's dart, each once, and its own is the first
pub record IsOrbit (reader : Reader) (mask : Mask) (term : DartTerm) (slots : List Slot) : Type 0 where
  pub listed : IsListOf (IsCollected (reading_of reader) mask term) (names_of reader.arena.now slots)
  pub first : slice_get (names_of reader.arena.now slots) 0 ≡ Some (dart_at (reading_of reader) term)
  pub live : AreLive reader.arena.now slots

-- ---- answers

-- the answer is the value there, and none where there is none
abbrev pub IsValueThere : Reader → Tree → Option Value → Type 0
IsValueThere reader tree result = MatchOption result (HasNoValue (reading_of reader) tree) (HasValue (reading_of reader) tree)

-- the answers are the values of two expressions there, and none where one of them has none
abbrev pub AreValuesThere : Reader → Tree → Tree → Option (Value × Value) → Type 0
AreValuesThere reader a b result =
    MatchOption result ((v w : Value) → HasValue (reading_of reader) a v → HasValue (reading_of reader) b w → ⊥)
    (λ vs. HasValue (reading_of reader) a vs.0 × HasValue (reading_of reader) b vs.1)

-- the value there is this number
abbrev pub IsInt : Reader → Tree → ℤ → Type 0
IsInt reader tree x = HasValue (reading_of reader) tree (Int x)

-- the answers are the numbers of three expressions there, and none where one of them is none
abbrev pub AreNumbersThere : Reader → Tree → Tree → Tree → Option (ℤ × ℤ × ℤ) → Type 0
AreNumbersThere reader a b c result =
    MatchOption result ((x y z : ℤ) → IsInt reader a x → IsInt reader b y → IsInt reader c z → ⊥)
    (λ xs. IsInt reader a xs.0 × IsInt reader b xs.1 × IsInt reader c xs.2)

-- ---- what is taken and left

-- from old to new there are at most 6(n + 1) steps for each unit, whichever number of units it is
abbrev pub IsWithin : Reader → (ℕ → Type 0) → ℕ → ℕ → Type 0
IsWithin reader HasSo old new = (u : ℕ) → HasSo u → new ≤ old + 6 * (reader.arena.now.schema.dim + 1) * u

-- the units of the expression beside what was kept, of a collector, and of a mean
abbrev pub UnitsBeside : Reader → Option (List Entry) → Tree → ℕ → Type 0
UnitsBeside reader kept tree u = HasUnitsBeside (IsAtHand kept) (reading_of reader) tree u

abbrev pub OwnUnits : Reader → Option (List Entry) → Form → Mask → DartTerm → ℕ → ℕ → Type 0
OwnUnits reader kept form mask term e u = HasOwnUnits (IsAtHand kept) (reading_of reader) form mask term e u

abbrev pub MeanUnits : Reader → Option (List Entry) → Mask → DartTerm → ℕ → ℕ → Type 0
MeanUnits reader kept mask term e u = (s : ℕ) × (t : ℕ) × OwnUnits reader kept forms.Sum mask term e s × OwnUnits reader kept forms.Count mask term 0 t × (u ≡ s + t)

-- such collectors are kept, where their orbits hold the node at every position and there is room
abbrev pub AreLeft : Reader → (Collector → Type 0) → Option (List Entry) → Type 0
AreLeft reader IsSuch kept = HasRoom kept → (c : Collector) → IsSuch c → IsShared reader.arena.now reader.found.now reader.position c → IsAtHand kept c

-- what is kept beside what was is of these collectors, and none is kept twice where none was
pub record AddsOnly (cs : List Collector) (old new : Option (List Entry)) : Type 0 where
  pub among : (c : Collector) → IsAtHand new c → IsAtHand old c ⊎ Contains cs c
  pub once : AreKeptOnce old → AreKeptOnce new

-- the collectors of an expression, and of a mean
abbrev pub Read : Reader → Tree → Collector → Type 0
Read reader tree c = Reads (reading_of reader) tree c

abbrev pub IsOfMean : Mask → DartTerm → ℕ → Collector → Type 0
IsOfMean mask term e c = IsOwn forms.Sum mask term e c ⊎ IsOwn forms.Count mask term 0 c

-- A reading of the expression took the steps from `from` to `to` beside what was kept, and left this. The scratch has the room that it had, and where a value is given, the collectors that were read are kept.
pub record IsRead (reader : Reader) (tree : Tree) (IsGiven : Type 0) (old new : Option (List Entry)) (from to bound bound_after : ℕ) : Type 0 where
  pub cost : IsWithin reader (UnitsBeside reader old tree) from to
  pub least : from ≤ to
  pub room : bound_after ≡ bound
  pub kept : AreKept reader.arena.now reader.found.now reader.params.now new
  pub stays : StillKept old new
  pub adds : AddsOnly (collectors_of tree) old new
  pub left : IsGiven → AreLeft reader (Read reader tree) new
