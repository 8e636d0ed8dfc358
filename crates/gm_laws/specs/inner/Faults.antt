-- Which answer of the test of a map's laws is right.
use Rattle.std.specs.Prelude.{◌≡◌, ℕ}
use Rattle.gm_model.specs.Breaches.{IsFirstOneWay, IsFirstCrossing, IsFirstUnshared, PointBack, Commute, AreShared}
use Rattle.gm_arena.specs.inner.ArenaMap.{ArenaMap, IsLiveName, alpha}
use Rattle.gm_laws.specs.declared.breach.LawFault.{LawFault}
use Rattle.gm_laws.specs.declared.breach.LawFault.TheVariants.{Breach, OutOfMemory}
use Rattle.gm_laws.specs.declared.breach.MapBreach.{MapBreach}
use Rattle.gm_laws.specs.declared.breach.MapBreach.TheVariants.{Involution, Cycle, Embedding}
use Rattle.gm_arena.specs.inner.ArenaAsMap.{value}

-- each neighbour of the map in the arena points back
abbrev pub ArePointedBack : ArenaMap → Type 0
ArePointedBack m = PointBack m.schema.dim (IsLiveName m) (alpha m)

-- its distant labels commute
abbrev pub DoCommute : ArenaMap → Type 0
DoCommute m = Commute m.schema.dim (IsLiveName m) (alpha m)

-- its values are the same along the labels of their embeddings
abbrev pub AreValuesShared : ArenaMap → Type 0
AreValuesShared m = AreShared m.schema.dim (IsLiveName m) (alpha m) m.schema (value m)

-- it keeps all laws
pub record KeepsLaws (m : ArenaMap) : Type 0 where
  pub back : ArePointedBack m
  pub commute : DoCommute m
  pub shared : AreValuesShared m

-- the first breach of the laws of the map in the arena, its darts by name
abbrev pub IsFirstBreach : ArenaMap → MapBreach → Type 0
IsFirstBreach m (Involution d i) = IsFirstOneWay m.schema.dim (IsLiveName m) (alpha m) d i
IsFirstBreach m (Cycle d i j) = IsFirstCrossing m.schema.dim (IsLiveName m) (alpha m) d i j
IsFirstBreach m (Embedding e d other) = (i : ℕ) × IsFirstUnshared m.schema.dim (IsLiveName m) (alpha m) m.schema (value m) e d i × (other ≡ alpha m i d)

-- where memory ran out nothing is known of the map
abbrev pub IsFault : ArenaMap → LawFault → Type 0
IsFault m OutOfMemory = Unit {0}
IsFault m (Breach breach) = IsFirstBreach m breach
