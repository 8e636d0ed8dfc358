-- How a dimension and the embeddings of a map are written: their grammar with its limits, the schema that a text stands for, and its canonical text.
use Rattle.std.specs.Prelude.{◌≡◌, ◌≢◌, ℕ, zero, suc, ◌+◌, ◌^◌, Bool, false, true, ◌||◌, ◌==◌, nat_lt, if◌then◌else◌, List, [], ◌∷◌, ◌++◌, length, map, Option, Some, None, codes, decimal}
use Rattle.std.specs.Int.Bits.{bit_or}
use Rattle.std.specs.List.{flat_map, AllByRecursion}
use Rattle.gm_model.specs.declared.limit.TheConstants.{MOST_DIMENSION, MOST_EMBEDS, MOST_LABELS, MOST_NAME_BYTES}
use Rattle.gm_model.specs.declared.limit.LimitKind.{LimitKind}
use Rattle.gm_model.specs.declared.limit.LimitKind.TheVariants as limits
use Rattle.gm_model.specs.declared.schema.Embed.{Embed}
use Rattle.gm_model.specs.declared.schema.Schema.{Schema}
use Rattle.gm_model.specs.declared.value.Kind.{Kind}
use Rattle.gm_model.specs.declared.value.Kind.TheVariants as kinds
use Rattle.gm_model.specs.declared.word.Mask.{Mask}
use Rattle.gm_model.specs.Labels.{has}
use Rattle.gm_model.specs.Names.{Mention, IsFree, is_among}
use Rattle.gm_model.specs.Symbols.{Symbol, Word, Numeral}
use Rattle.gm_model.specs.Reading.{Part, word, number, sign}

-- ---- what is written

-- a label of an orbit, and the place where it stands
pub record LabelForm : Type 0 where
  pub label : ℕ
  pub place : ℕ

pub record EmbedForm : Type 0 where
  pub name : Mention
  pub labels : List LabelForm
  pub kind : Kind

pub record SchemaForm : Type 0 where
  pub dim : ℕ
  pub embeds : List EmbedForm

-- ---- what it means

abbrev pub no_labels : Mask
no_labels = record { bits = 0 }

-- the labels of the mask, and this one
abbrev pub with_label : Mask → ℕ → Mask
with_label mask label = record { bits = bit_or mask.bits (2 ^ label) }

-- the labels of the mask, and these
abbrev pub with_labels : Mask → List LabelForm → Mask
with_labels mask [] = mask
with_labels mask (form ∷ forms) = with_labels (with_label mask form.label) forms

-- an orbit is the set of its labels
abbrev pub embed_of : EmbedForm → Embed
embed_of embed = record { name = embed.name.name; mask = with_labels no_labels embed.labels; kind = embed.kind }

abbrev pub schema_of : SchemaForm → Schema
schema_of form = record { dim = form.dim; embeds = map embed_of form.embeds }

abbrev pub names_in : List Embed → List (List ℕ)
names_in embeds = map (λ (embed : Embed). embed.name) embeds

-- ---- the grammar

abbrev pub kind_word : Kind → List ℕ
kind_word kinds.Int = codes "int"
kind_word kinds.Bool = codes "bool"
kind_word kinds.Vec2 = codes "vec2"
kind_word kinds.Vec3 = codes "vec3"
kind_word kinds.Rgb = codes "rgb"

-- What a symbol is there for. An ordinal counts from 1, the symbol included.
pub data Role : Type 0 where
  -- a word or sign of the format, or what stands after the embeddings
  Fixed : Role
  Dimension : Role
  -- the word `embed` of the embedding with this ordinal
  EmbedWord : ℕ → Role
  -- the name of an embedding after these that were declared before, at this place
  NameAt : List (List ℕ) → ℕ → Role
  -- a label of an orbit, where labels go up to the number, after these that were mentioned before, at this place
  LabelAt : ℕ → Mask → ℕ → Role

-- the limit that a symbol passes in a role
abbrev pub limit_of : Role → Symbol → Option LimitKind
limit_of Dimension (Numeral n) = if (n == 0) || nat_lt MOST_DIMENSION n then Some limits.Dimension else None
limit_of (EmbedWord k) (Word word) = if nat_lt MOST_EMBEDS k then Some limits.Embeddings else None
limit_of (NameAt names place) (Word name) = if nat_lt MOST_NAME_BYTES (length name) then Some limits.Name else None
limit_of (LabelAt n mask place) (Numeral label) = if nat_lt n label then Some limits.Label else None
limit_of _ _ = None

-- a name was declared before, or a label mentioned in its orbit
abbrev pub is_again : Role → Symbol → Bool
is_again (NameAt names place) (Word name) = is_among names name
is_again (LabelAt n mask place) (Numeral label) = has mask label
is_again _ _ = false

-- what a symbol passes: a limit, or that there is one declaration and one mention
pub data Passed : Type 0 where
  LimitOf : LimitKind → Passed
  Again : Passed

-- Where a symbol passes both, the limit counts.
abbrev pub passed_by : Option LimitKind → Bool → Option Passed
passed_by (Some what) again = Some (LimitOf what)
passed_by None true = Some Again
passed_by None false = None

abbrev pub passed_of : Role → Symbol → Option Passed
passed_of role symbol = passed_by (limit_of role symbol) (is_again role symbol)

-- Each spelling takes what stands after it.

-- labels up to the number, after these of one orbit
abbrev pub spell_labels : ℕ → Mask → List LabelForm → List (Part Role) → List (Part Role)
spell_labels n mask [] rest = rest
spell_labels n mask (form ∷ forms) rest = number (LabelAt n mask form.place) form.label ∷ spell_labels n (with_label mask form.label) forms rest

-- embed pos <1 2> vec3, after the embeddings that were declared before
abbrev pub spell_embed : ℕ → List Embed → EmbedForm → List (Part Role) → List (Part Role)
spell_embed n declared embed rest =
    word (EmbedWord (length declared + 1)) (codes "embed") ∷ word (NameAt (names_in declared) embed.name.place) embed.name.name
    ∷ sign Fixed (codes "<") ∷ spell_labels n no_labels embed.labels (sign Fixed (codes ">") ∷ word Fixed (kind_word embed.kind) ∷ rest)

abbrev pub spell_embeds : ℕ → List Embed → List EmbedForm → List (Part Role) → List (Part Role)
spell_embeds n declared [] rest = rest
spell_embeds n declared (embed ∷ embeds) rest = spell_embed n declared embed (spell_embeds n (declared ++ embed_of embed ∷ []) embeds rest)

-- dim 2 embed ..
abbrev pub spell : SchemaForm → List (Part Role) → List (Part Role)
spell form rest = word Fixed (codes "dim") ∷ number Dimension form.dim ∷ spell_embeds form.dim [] form.embeds rest

-- A reserved word is no name, and no embedding is one of truths.
abbrev pub IsEmbed : EmbedForm → Type 0
IsEmbed embed = IsFree embed.name × (embed.kind ≢ kinds.Bool)

abbrev pub IsForm : SchemaForm → Type 0
IsForm form = AllByRecursion IsEmbed form.embeds

-- what stands after the embeddings is not judged
abbrev pub beyond : Symbol → Part Role
beyond symbol = record { symbol = symbol; role = Fixed }

-- a schema with anything after it that begins no further embedding
pub record IsSentence (parts : List (Part Role)) : Type 0 where
  pub form : SchemaForm
  pub good : IsForm form
  pub next : Symbol
  pub others : List Symbol
  pub ends : next ≢ Word (codes "embed")
  pub spelled : parts ≡ spell form (map beyond (next ∷ others))

-- ---- how a text is read

-- each name and each label knows its place
abbrev pub IsPlacedAt : ℕ → Role → Type 0
IsPlacedAt place (NameAt names at) = at ≡ place
IsPlacedAt place (LabelAt n mask at) = at ≡ place
IsPlacedAt place _ = Unit {0}

-- ---- the canonical text

-- the labels below the number that are in the mask, in ascending order
abbrev pub labels_below : Mask → ℕ → List ℕ
labels_below mask zero = []
labels_below mask (suc k) = labels_below mask k ++ (if has mask k then k ∷ [] else [])

unfoldable pub labels_in : Mask → List ℕ
labels_in mask = labels_below mask MOST_LABELS

-- 1 2
abbrev pub labels_text : List ℕ → List ℕ
labels_text [] = []
labels_text (label ∷ labels) = decimal label ++ flat_map (λ other. 32 ∷ decimal other) labels

-- embed pos <1 2> vec3
abbrev pub embed_line : Embed → List ℕ
embed_line embed = codes "embed " ++ (embed.name ++ (codes " <" ++ (labels_text (labels_in embed.mask) ++ (codes "> " ++ (kind_word embed.kind ++ codes "\n")))))

abbrev pub canonical : Schema → List ℕ
canonical schema = codes "dim " ++ (decimal schema.dim ++ (codes "\n" ++ flat_map embed_line schema.embeds))
