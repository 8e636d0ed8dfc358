-- What is printed where memory runs out, what stands between labels, and when a schema stands before other bytes.
use Rattle.std.specs.Prelude.{◌≡◌, ◌≢◌, ℕ, ◌^◌, ◌<◌, List, [], ◌∷◌, ◌++◌, codes}
use Rattle.std.specs.List.{AllByRecursion}
use Rattle.gm_model.specs.declared.schema.Embed.{Embed}
use Rattle.gm_model.specs.declared.schema.Schema.{Schema}
use Rattle.gm_model.specs.Names.{IsName}
use Rattle.gm_model.specs.Symbols.{Symbol, Word, Mark, symbols, symbols_of, marks_of}
use Rattle.gm_text.specs.SchemaText.{SchemaForm, passed_of, schema_of}
use Rattle.gm_text.specs.inner.SchemaReading.{Stands}

-- Memory ran out within the text: after what was there stands a front of it.
pub record IsCut (before text after : List ℕ) : Type 0 where
  pub front : List ℕ
  pub rest : List ℕ
  pub text_is : text ≡ front ++ rest
  pub after_is : after ≡ before ++ front

-- what stands before a further label
abbrev pub gap_behind : List ℕ → List ℕ
gap_behind [] = []
gap_behind (label ∷ labels) = codes " "

-- what the types of an embedding's parts say: the name is one, and the mask has bits for the labels 0 to 7
abbrev pub IsPart : Embed → Type 0
IsPart embed = IsName embed.name × (embed.mask.bits < 2 ^ 8)

abbrev pub AreParts : List Embed → Type 0
AreParts embeds = AllByRecursion IsPart embeds

-- no embedding begins with these bytes
abbrev pub BeginNoEmbed : List ℕ → Type 0
BeginNoEmbed bytes = (next : Symbol) × (others : List Symbol) × (symbols_of bytes ≡ next ∷ others) × (next ≢ Word (codes "embed"))

-- the schema stands at the beginning of the text, before the marks of these bytes
pub record StandsBefore (rest text : List ℕ) (schema : Schema) : Type 0 where
  pub form : SchemaForm
  pub after : List Mark
  pub stands : Stands passed_of form (marks_of text) after
  pub means : schema ≡ schema_of form
  pub behind : symbols after ≡ symbols_of rest
