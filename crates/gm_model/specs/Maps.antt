-- What a map is, apart from how it is kept: which darts are live, their neighbours, their values, and the next name.
use Rattle.std.specs.Prelude.{◌≡◌, ◌≢◌, ℕ, ◌<◌, ◌≤◌, Bool, length, slice_get, Some, IsTrue}
use Rattle.gm_model.specs.declared.schema.Schema.{Schema}
use Rattle.gm_model.specs.declared.schema.Embed.{Embed}
use Rattle.gm_model.specs.declared.value.Kind.TheVariants as kinds
use Rattle.gm_model.specs.declared.value.Value.{Value}
use Rattle.gm_model.specs.GMap.{IsGMap}
use Rattle.gm_model.specs.Labels.{has}
use Rattle.gm_model.specs.Names.{IsReserved}
use Rattle.gm_model.specs.Orbits.{Labels, IsInOrbit}
use Rattle.gm_model.specs.Values.{IsValueOf}

pub record Map : Type 0 where
  pub schema : Schema
  -- whether a dart has the name
  pub live : ℕ → Bool
  -- the neighbour along a label, of a live dart
  pub alpha : ℕ → ℕ → ℕ
  -- the value of an embedding, by its number, at a live dart
  pub value : ℕ → ℕ → Value
  pub next : ℕ

abbrev pub dimension : Map → ℕ
dimension map = map.schema.dim

abbrev pub IsDart : Map → ℕ → Type 0
IsDart map d = IsTrue (map.live d)

-- the labels of an embedding's orbits
abbrev pub type_of : Embed → Labels
type_of embed = has embed.mask

-- the embedding has this number
abbrev pub IsEmbedAt : Schema → ℕ → Embed → Type 0
IsEmbedAt schema e embed = slice_get schema.embeds e ≡ Some embed

-- what a schema of a map owes: its names differ and aren't reserved, no kind is that of truths, and its labels are the map's
pub record IsSchema (schema : Schema) : Type 0 where
  pub count : length schema.embeds ≤ 8
  pub kinds : (e : ℕ) (embed : Embed) → IsEmbedAt schema e embed → embed.kind ≢ kinds.Bool
  pub labels : (e i : ℕ) (embed : Embed) → IsEmbedAt schema e embed → IsTrue (type_of embed i) → i ≤ schema.dim
  pub free : (e : ℕ) (embed : Embed) → IsEmbedAt schema e embed → IsReserved embed.name → ⊥
  pub differ : (e e' : ℕ) (embed embed' : Embed) → IsEmbedAt schema e embed → IsEmbedAt schema e' embed' → embed.name ≡ embed'.name → e ≡ e'

-- ---- what holds of a map

-- each name lies below the next, and each value is one of its embedding's kind
pub record IsMap (map : Map) : Type 0 where
  pub below : (d : ℕ) → IsDart map d → d < map.next
  pub values : (e d : ℕ) (embed : Embed) → IsEmbedAt map.schema e embed → IsDart map d → IsValueOf embed.kind (map.value e d)

-- it is a generalised map of its dimension
abbrev pub IsGeneralised : Map → Type 0
IsGeneralised map = IsGMap (dimension map) (IsDart map) map.alpha

-- the values of one embedding are the same over each orbit of its type
abbrev pub IsConstantOnOrbits : (ℕ → Type 0) → (ℕ → ℕ → ℕ) → (ℕ → Value) → Labels → Type 0
IsConstantOnOrbits IsLive alpha value o = (d d' : ℕ) → IsLive d → IsInOrbit alpha o d d' → value d ≡ value d'

-- any two darts of one orbit of an embedding's type have the same value of it
abbrev pub IsWellEmbedded : Map → Type 0
IsWellEmbedded map = (e : ℕ) (embed : Embed) → IsEmbedAt map.schema e embed → IsConstantOnOrbits (IsDart map) map.alpha (map.value e) (type_of embed)

-- what is asked of a map, and what each application leaves: a generalised map, well embedded
pub record IsSound (map : Map) : Type 0 where
  pub is_map : IsMap map
  pub generalised : IsGeneralised map
  pub embedded : IsWellEmbedded map
