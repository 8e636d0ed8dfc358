-- Which nodes of a rule share a value, where that value comes from, and which fault of this is the first.
use Rattle.std.specs.Prelude.{◌≡◌, ℕ, ◌<◌, ◌⊎◌, slice_get, Some, IsTrue}
use Rattle.gm_model.specs.declared.rule.RuleFault.{RuleFault}
use Rattle.gm_model.specs.declared.rule.RuleFault.TheVariants as faults
use Rattle.gm_model.specs.declared.rule.Side.{Side}
use Rattle.gm_model.specs.declared.rule.Side.TheVariants.{Left, Right}
use Rattle.gm_model.specs.declared.schema.Embed.{Embed}
use Rattle.gm_model.specs.declared.schema.Schema.{Schema}
use Rattle.gm_model.specs.declared.word.Letter.TheVariants.{At}
use Rattle.gm_model.specs.Maps.{IsEmbedAt, type_of}
use Rattle.gm_model.specs.Orbits.{Labels}
use Rattle.gm_model.specs.Rules.{Rule, has_word, is_preserved, letters, Assigns}
use Rattle.gm_model.specs.Structure.{IsJoined}
use Rattle.gm_model.specs.Trees.{Tree}

-- Each definition here is over one embedding: its number e, and the labels o of its type.

-- right links with labels of the type join x and y: they are nodes of one right component
abbrev pub IsTogether : Rule → Labels → ℕ → ℕ → Type 0
IsTogether rule o x y = IsTrue (has_word rule Right x) × IsJoined rule.right_links o x y

-- left links with labels of the type join x and y: they are nodes of one left component
abbrev pub WereTogether : Rule → Labels → ℕ → ℕ → Type 0
WereTogether rule o x y = IsTrue (has_word rule Left x) × IsJoined rule.left_links o x y

-- x has an assignment to the embedding
abbrev pub IsAssigned : Rule → ℕ → ℕ → Type 0
IsAssigned rule e x = (tree : Tree) × Assigns rule x e tree

-- the word of x on the side has a label of the type at the place
abbrev pub HasLetterIn : Rule → Side → Labels → ℕ → ℕ → Type 0
HasLetterIn rule side o x m = (i : ℕ) × (slice_get (letters rule side x) m ≡ Some (At i)) × IsTrue (o i)

-- ---- the component of x

-- at most one node of it has an assignment
abbrev pub IsAssignedOnce : Rule → ℕ → Labels → ℕ → Type 0
IsAssignedOnce rule e o x = (y z : ℕ) → IsTogether rule o x y → IsTogether rule o x z → IsAssigned rule e y → IsAssigned rule e z → y ≡ z

-- no node of it has an assignment
abbrev pub IsUnassigned : Rule → ℕ → Labels → ℕ → Type 0
IsUnassigned rule e o x = (y : ℕ) → IsTogether rule o x y → IsAssigned rule e y → ⊥

-- no node of it is preserved
abbrev pub IsNew : Rule → Labels → ℕ → Type 0
IsNew rule o x = (y : ℕ) → IsTogether rule o x y → IsTrue (is_preserved rule y) → ⊥

-- its least preserved node
pub record IsKeeper (rule : Rule) (o : Labels) (x keeper : ℕ) : Type 0 where
  pub together : IsTogether rule o x keeper
  pub preserved : IsTrue (is_preserved rule keeper)
  pub least : (y : ℕ) → y < keeper → IsTogether rule o x y → IsTrue (is_preserved rule y) → ⊥

-- its preserved nodes were in the left component of the keeper
abbrev pub ComesFromOne : Rule → Labels → ℕ → ℕ → Type 0
ComesFromOne rule o x keeper = (y : ℕ) → IsTogether rule o x y → IsTrue (is_preserved rule y) → WereTogether rule o keeper y

-- where a node of it has a right letter of the type, a node of the keeper's left component has a left letter of the type
abbrev pub ComesAlong : Rule → Labels → ℕ → ℕ → ℕ → Type 0
ComesAlong rule o x keeper m = (y : ℕ) → IsTogether rule o x y → HasLetterIn rule Right o y m → (z : ℕ) × WereTogether rule o keeper z × HasLetterIn rule Left o z m

-- it takes over the value of one left component
pub record IsInherited (rule : Rule) (o : Labels) (x keeper : ℕ) : Type 0 where
  pub kept : IsKeeper rule o x keeper
  pub one : ComesFromOne rule o x keeper
  pub along : (m : ℕ) → ComesAlong rule o x keeper m

-- what the component owes: one assignment at most, and a value to take over where there is none
pub record HasSource (rule : Rule) (e : ℕ) (o : Labels) (x : ℕ) : Type 0 where
  pub once : IsAssignedOnce rule e o x
  pub source : ((y : ℕ) × IsTogether rule o x y × IsAssigned rule e y) ⊎ (IsUnassigned rule e o x × ((keeper : ℕ) × IsInherited rule o x keeper))

-- the embedding condition
abbrev pub HasSources : Schema → Rule → Type 0
HasSources schema rule = (e : ℕ) (embed : Embed) → IsEmbedAt schema e embed → (x : ℕ) → IsTrue (has_word rule Right x) → HasSource rule e (type_of embed) x

-- ---- the first fault

-- x is the least node of its component
abbrev pub IsLeader : Rule → Labels → ℕ → Type 0
IsLeader rule o x = IsTrue (has_word rule Right x) × ((y : ℕ) → y < x → IsTogether rule o y x → ⊥)

-- y is the least node of the component of x, above the bound, that has P
pub record IsLeastTogether (rule : Rule) (o : Labels) (x : ℕ) (IsAbove P : ℕ → Type 0) (y : ℕ) : Type 0 where
  pub together : IsTogether rule o x y
  pub above : IsAbove y
  pub has : P y
  pub least : (z : ℕ) → z < y → IsTogether rule o x z → IsAbove z → P z → ⊥

-- the least place at which the component doesn't come along
pub record IsFirstAlong (rule : Rule) (o : Labels) (x keeper m : ℕ) : Type 0 where
  pub fails : ComesAlong rule o x keeper m → ⊥
  pub before : (m' : ℕ) → m' < m → ComesAlong rule o x keeper m'

-- the first fault of the component of x, its least node
pub data IsComponentFault (rule : Rule) (e : ℕ) (o : Labels) (x : ℕ) : RuleFault → Type 0 where
  Twice : (y z : ℕ) → IsLeastTogether rule o x (λ u. Unit {0}) (IsAssigned rule e) y → IsLeastTogether rule o x (λ u. y < u) (IsAssigned rule e) z → IsComponentFault rule e o x (faults.SetTwice e y z)
  Sourceless : IsUnassigned rule e o x → IsNew rule o x → IsComponentFault rule e o x (faults.NoValue e x)
  Merged : (keeper y : ℕ) → IsUnassigned rule e o x → IsKeeper rule o x keeper → IsLeastTogether rule o x (λ u. WereTogether rule o keeper u → ⊥) (λ u. IsTrue (is_preserved rule u)) y → IsComponentFault rule e o x (faults.Merge e keeper y)
  MergedAlong : (keeper m : ℕ) → IsUnassigned rule e o x → IsKeeper rule o x keeper → ComesFromOne rule o x keeper → IsFirstAlong rule o x keeper m → IsComponentFault rule e o x (faults.MergeAlong e keeper m)

-- the first fault by embedding, and then by the least node of a component
pub record IsFirstEmbedFault (schema : Schema) (rule : Rule) (e : ℕ) (embed : Embed) (x : ℕ) (fault : RuleFault) : Type 0 where
  pub embed_at : IsEmbedAt schema e embed
  pub leader : IsLeader rule (type_of embed) x
  pub here : IsComponentFault rule e (type_of embed) x fault
  pub earlier_embeds : (e' : ℕ) (embed' : Embed) → e' < e → IsEmbedAt schema e' embed' → (y : ℕ) → IsTrue (has_word rule Right y) → HasSource rule e' (type_of embed') y
  pub earlier_nodes : (y : ℕ) → y < x → IsTrue (has_word rule Right y) → HasSource rule e (type_of embed) y

pub data IsEmbedFault (schema : Schema) (rule : Rule) (fault : RuleFault) : Type 0 where
  First : (e : ℕ) (embed : Embed) (x : ℕ) → IsFirstEmbedFault schema rule e embed x fault → IsEmbedFault schema rule fault
