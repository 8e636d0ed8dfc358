-- Why a text stands for no map: its first fault, by the grammar, by names, and then by the laws of a map; and the words that say so.
use Rattle.std.specs.Prelude.{◌≡◌, ℕ, ◌<◌, ◌≤◌, ◌==◌, List, ◌++◌, codes, decimal}
use Rattle.std.specs.List.{count_by}
use Rattle.gm_model.specs.declared.limit.LimitKind.{LimitKind}
use Rattle.gm_model.specs.declared.limit.LimitKind.TheVariants as limits
use Rattle.gm_model.specs.declared.schema.Embed.{Embed}
use Rattle.gm_model.specs.declared.schema.Schema.{Schema}
use Rattle.gm_model.specs.Breaches.{IsFirstWithoutTarget, IsFirstOneWay, IsFirstCrossing, IsFirstUnshared}
use Rattle.gm_model.specs.GMap.{Row, IsLive, alpha}
use Rattle.gm_model.specs.Maps.{IsEmbedAt}
use Rattle.gm_mapfile.specs.MapText.{Version, First, Second, DartRow, IsListed, IsTextFault, IsLimitFault, IsAgainFault, rows_of, value_in}

pub data TextFault : Type 0 where
  -- at this place no text goes on
  Ends : ℕ → TextFault
  -- a limit is passed at this place
  Passes : LimitKind → ℕ → TextFault
  -- the name or the label at this place was there before
  Again : ℕ → TextFault
  -- two darts have this name
  DartTwice : ℕ → TextFault
  -- this name isn't below the next one that the text states
  NotBelow : ℕ → TextFault
  -- the neighbour of this dart along this label is no dart
  NoTarget : ℕ → ℕ → TextFault
  -- it does not point back
  OneWay : ℕ → ℕ → TextFault
  -- two distant labels do not commute at this dart
  Crossing : ℕ → ℕ → ℕ → TextFault
  -- the values of the embedding with this number and name differ at two darts of one orbit
  Unshared : ℕ → List ℕ → ℕ → ℕ → TextFault

-- ---- which one

-- how many rows have the name
abbrev pub rows_named : List Row → ℕ → ℕ
rows_named rows d = count_by (λ (row : Row). row.name == d) rows

-- the least name that two rows have
pub record IsLeastTwice (rows : List Row) (d : ℕ) : Type 0 where
  pub twice : 1 < rows_named rows d
  pub least : (e : ℕ) → e < d → rows_named rows e ≤ 1

abbrev pub AreNamedOnce : List Row → Type 0
AreNamedOnce rows = (d : ℕ) → rows_named rows d ≤ 1

-- each name is below the number
abbrev pub AreBelow : List Row → ℕ → Type 0
AreBelow rows next = (d : ℕ) → IsLive rows d → d < next

-- the least name that isn't
pub record IsLeastNotBelow (rows : List Row) (next d : ℕ) : Type 0 where
  pub live : IsLive rows d
  pub above : next ≤ d
  pub least : (e : ℕ) → e < d → IsLive rows e → e < next

-- the names are below the next one, where the text states it
abbrev pub AreBelowStated : Version → List Row → Type 0
AreBelowStated First rows = Unit {0}
AreBelowStated (Second next) rows = AreBelow rows next

-- each neighbour is a dart
abbrev pub HaveTargets : ℕ → List Row → Type 0
HaveTargets n rows = (d i : ℕ) → IsLive rows d → i ≤ n → IsLive rows (alpha rows i d)

-- the text lists darts whose names differ
pub record AreNamed (text : List ℕ) (version : Version) (schema : Schema) (darts : List DartRow) : Type 0 where
  pub listed : IsListed text version schema darts
  pub distinct : AreNamedOnce (rows_of darts)

-- and are below the next one
pub record AreNumbered (text : List ℕ) (version : Version) (schema : Schema) (darts : List DartRow) : Type 0 where
  pub named : AreNamed text version schema darts
  pub below : AreBelowStated version (rows_of darts)

-- and each neighbour is one of them
pub record AreJoined (text : List ℕ) (version : Version) (schema : Schema) (darts : List DartRow) : Type 0 where
  pub numbered : AreNumbered text version schema darts
  pub targets : HaveTargets schema.dim (rows_of darts)

-- the first embedding, dart and label along which its value changes, and the neighbour there
pub record IsFirstChange (schema : Schema) (darts : List DartRow) (e : ℕ) (name : List ℕ) (d other : ℕ) : Type 0 where
  pub embed : Embed
  pub embed_at : IsEmbedAt schema e embed
  pub name_is : name ≡ embed.name
  pub label : ℕ
  pub other_is : other ≡ alpha (rows_of darts) label d
  pub first : IsFirstUnshared schema.dim (IsLive (rows_of darts)) (alpha (rows_of darts)) schema (value_in darts) e d label

-- the first fault of a text. Only a text that the grammar reads within its limits has its names looked at, and only then its laws.
pub data IsFirstFault (text : List ℕ) : TextFault → Type 0 where
  AtEnds : (place : ℕ) → IsTextFault text place → IsFirstFault text (Ends place)
  AtPasses : (what : LimitKind) (place : ℕ) → IsLimitFault text what place → IsFirstFault text (Passes what place)
  AtAgain : (place : ℕ) → IsAgainFault text place → IsFirstFault text (Again place)
  AtTwice : (version : Version) (schema : Schema) (darts : List DartRow) (d : ℕ) → IsListed text version schema darts → IsLeastTwice (rows_of darts) d → IsFirstFault text (DartTwice d)
  AtNotBelow : (next : ℕ) (schema : Schema) (darts : List DartRow) (d : ℕ) → AreNamed text (Second next) schema darts → IsLeastNotBelow (rows_of darts) next d → IsFirstFault text (NotBelow d)
  AtNoTarget : (version : Version) (schema : Schema) (darts : List DartRow) (d i : ℕ) → AreNumbered text version schema darts
      → IsFirstWithoutTarget schema.dim (IsLive (rows_of darts)) (alpha (rows_of darts)) d i → IsFirstFault text (NoTarget d i)
  AtOneWay : (version : Version) (schema : Schema) (darts : List DartRow) (d i : ℕ) → AreJoined text version schema darts
      → IsFirstOneWay schema.dim (IsLive (rows_of darts)) (alpha (rows_of darts)) d i → IsFirstFault text (OneWay d i)
  AtCrossing : (version : Version) (schema : Schema) (darts : List DartRow) (d i j : ℕ) → AreJoined text version schema darts
      → IsFirstCrossing schema.dim (IsLive (rows_of darts)) (alpha (rows_of darts)) d i j → IsFirstFault text (Crossing d i j)
  AtUnshared : (version : Version) (schema : Schema) (darts : List DartRow) (e : ℕ) (name : List ℕ) (d other : ℕ) → AreJoined text version schema darts
      → IsFirstChange schema darts e name d other → IsFirstFault text (Unshared e name d other)

-- ---- in words

abbrev pub limit_word : LimitKind → List ℕ
limit_word limits.Dimension = codes "dimension"
limit_word limits.Label = codes "label"
limit_word limits.Embeddings = codes "embeddings"
limit_word limits.Darts = codes "darts"
limit_word limits.DartName = codes "dart-name"
limit_word limits.Integer = codes "integer"
limit_word limits.Channel = codes "channel"
limit_word limits.Name = codes "name"
limit_word limits.Rules = codes "rules"
limit_word limits.Nodes = codes "nodes"
limit_word limits.Links = codes "links"
limit_word limits.Parameters = codes "parameters"
limit_word limits.Word = codes "word"
limit_word limits.Expression = codes "expression"
limit_word limits.Lines = codes "lines"

abbrev pub fault_words : TextFault → List ℕ
fault_words (Ends place) = codes "text " ++ decimal place
fault_words (Passes what place) = codes "limit " ++ limit_word what ++ codes " " ++ decimal place
fault_words (Again place) = codes "twice " ++ decimal place
fault_words (DartTwice d) = codes "dart-twice " ++ decimal d
fault_words (NotBelow d) = codes "next dart " ++ decimal d
fault_words (NoTarget d i) = codes "no-target dart " ++ decimal d ++ codes " label " ++ decimal i
fault_words (OneWay d i) = codes "involution dart " ++ decimal d ++ codes " label " ++ decimal i
fault_words (Crossing d i j) = codes "cycle dart " ++ decimal d ++ codes " labels " ++ decimal i ++ codes " " ++ decimal j
fault_words (Unshared e name d other) = codes "embedding " ++ name ++ codes " darts " ++ decimal d ++ codes " " ++ decimal other
