-- How the text of a schema is read, one symbol after another: what can stand next in which role, and which schema stands before other marks.
use Rattle.std.specs.Prelude.{◌≡◌, ◌≢◌, ℕ, ◌+◌, Bool, true, false, if◌then◌else◌, List, [], ◌∷◌, ◌++◌, length, Option, Some, None, codes}
use Rattle.std.specs.Option.{option_map}
use Rattle.std.specs.Str.{bytes_eq}
use Rattle.gm_model.specs.declared.schema.Embed.{Embed}
use Rattle.gm_model.specs.declared.value.Kind.{Kind}
use Rattle.gm_model.specs.declared.value.Kind.TheVariants as kinds
use Rattle.gm_model.specs.declared.word.Mask.{Mask}
use Rattle.gm_model.specs.Names.{reserved, is_among}
use Rattle.gm_model.specs.Symbols.{Symbol, Word, Numeral, Sign, Mark, symbols}
use Rattle.gm_model.specs.Reading.{IsWithin, symbols_in, ArePlaced}
use Rattle.gm_text.specs.SchemaText.{SchemaForm, Role, Fixed, Dimension, EmbedWord, NameAt, LabelAt, no_labels, with_label, names_in, spell, IsForm, IsSentence, IsPlacedAt}
use Rattle.gm_text.specs.inner.Nested.{Nested, Outside, Nesting}

pub data State : Type 0 where
  -- before the word `dim`, and before the dimension
  AtDim : State
  AtTop : State
  -- after the dimension and these embeddings
  AtEmbeds : ℕ → List Embed → State
  -- in a further one, before its name, and after it
  AtName : ℕ → List Embed → State
  AtOrbit : ℕ → List Embed → List ℕ → State
  -- in its orbit after these labels, and after the orbit
  AtLabel : ℕ → List Embed → List ℕ → Mask → State
  AtKind : ℕ → List Embed → List ℕ → Mask → State

abbrev pub label_role : ℕ → Mask → Symbol → ℕ → Role
label_role n mask (Numeral label) place = LabelAt n mask place
label_role n mask _ place = Fixed

-- the role of a symbol that stands at a place
abbrev pub role_at : State → Symbol → ℕ → Role
role_at AtTop symbol place = Dimension
role_at (AtEmbeds n declared) symbol place = EmbedWord (length declared + 1)
role_at (AtName n declared) symbol place = NameAt (names_in declared) place
role_at (AtLabel n declared name mask) symbol place = label_role n mask symbol place
role_at _ symbol place = Fixed

-- embeddings have each kind but that of truths
abbrev pub kind_named : List ℕ → Option Kind
kind_named word =
    if bytes_eq word (codes "int") then Some kinds.Int
    else (if bytes_eq word (codes "vec2") then Some kinds.Vec2
    else (if bytes_eq word (codes "vec3") then Some kinds.Vec3
    else (if bytes_eq word (codes "rgb") then Some kinds.Rgb
    else None)))

abbrev pub expect : List ℕ → List ℕ → State → Option State
expect wanted found next = if bytes_eq found wanted then Some next else None

abbrev pub with_kind : ℕ → List Embed → List ℕ → Mask → Kind → State
with_kind n declared name mask kind = AtEmbeds n (declared ++ record { name = name; mask = mask; kind = kind } ∷ [])

-- the state after a symbol, where it can stand
abbrev pub move : State → Symbol → Option State
move AtDim (Word word) = expect (codes "dim") word AtTop
move AtTop (Numeral n) = Some (AtEmbeds n [])
move (AtEmbeds n declared) (Word word) = expect (codes "embed") word (AtName n declared)
move (AtName n declared) (Word word) = if is_among reserved word then None else Some (AtOrbit n declared word)
move (AtOrbit n declared name) (Sign sign) = expect (codes "<") sign (AtLabel n declared name no_labels)
move (AtLabel n declared name mask) (Numeral label) = Some (AtLabel n declared name (with_label mask label))
move (AtLabel n declared name mask) (Sign sign) = expect (codes ">") sign (AtKind n declared name mask)
move (AtKind n declared name mask) (Word word) = option_map (with_kind n declared name mask) (kind_named word)
move _ _ = None

-- a schema can end there
abbrev pub is_whole : State → Bool
is_whole (AtEmbeds n declared) = true
is_whole _ = false

-- ---- a schema before anything else

-- After a schema stands something that begins no further embedding, and then anything.
pub data Around : Type 0 where
  AtNext : Around
  AtRest : Around

abbrev pub around_move : Around → Symbol → Option (Nested Around State)
around_move AtNext (Word word) = if bytes_eq word (codes "embed") then None else Some (Outside AtRest)
around_move _ symbol = Some (Outside AtRest)

abbrev pub standing : Nesting Around State Role Role
standing = record {
  outer_role = λ around symbol place. Fixed;
  outer_move = around_move;
  inner_role = role_at;
  inner_move = move;
  wrap = λ role. role;
  is_whole = is_whole;
  behind = λ state. AtNext;
}

-- no symbol tells what the one before it is
abbrev pub never : Role → Bool
never role = false

-- The marks begin with this form, which passes nothing, and these are left after it: no further embedding begins there.
pub record Stands {What : Type 0} (passed_of : Role → Symbol → Option What) (form : SchemaForm) (marks rest : List Mark) : Type 0 where
  pub before : List Mark
  pub split : marks ≡ before ++ rest
  pub good : IsForm form
  pub spelled : symbols before ≡ symbols_in (spell form [])
  pub within : IsWithin IsSentence passed_of (spell form [])
  pub placed : ArePlaced IsPlacedAt before (spell form [])
  pub next : Mark
  pub others : List Mark
  pub behind : rest ≡ next ∷ others
  pub ends : next.symbol ≢ Word (codes "embed")
