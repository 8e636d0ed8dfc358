-- What the calls that read a schema answer, step by step and as a whole.
use Rattle.std.specs.Prelude.{◌≡◌, ◌≢◌, ℕ, ◌<◌, ◌≤◌, Bool, true, false, List, [], ◌∷◌, ◌++◌, length, Option, Some, None, Result, Ok, Err, codes}
use Rattle.std.specs.Option.{option_map}
use Rattle.gm_model.specs.declared.schema.Embed.{Embed}
use Rattle.gm_model.specs.declared.schema.Schema.{Schema}
use Rattle.gm_model.specs.declared.token.Token.{Token}
use Rattle.gm_model.specs.declared.word.Mask.{Mask}
use Rattle.gm_model.specs.Reading.{TextEndsAt, LimitStandsAt}
use Rattle.gm_model.specs.Symbols.{Symbol, Word, Stray, End, Mark, symbol_of_kind, marks_at}
use Rattle.gm_model.specs.Tokens.{IsLexeme, Lexed, bytes_of}
use Rattle.gm_text.specs.inner.Cursor.{Cursor}
use Rattle.gm_text.specs.inner.Lexing.{rest_of, IsBehindToken, GoesOverTokens}
use Rattle.gm_text.specs.inner.Machine.{Stop, Ends, Passes, run}
use Rattle.gm_text.specs.SchemaText.{SchemaForm, Role, Passed, LimitOf, Again, limit_of, passed_of, schema_of, with_label, IsSentence}
use Rattle.gm_text.specs.inner.SchemaReading.{State, AtDim, AtEmbeds, AtName, AtOrbit, AtLabel, AtKind, role_at, move, is_whole, never, Stands}
use Rattle.gm_text.specs.declared.schema_fault.SchemaFault.{SchemaFault}
use Rattle.gm_text.specs.declared.schema_fault.SchemaFault.TheVariants as faults

-- ---- as a whole

-- the marks that a lexer has before it
abbrev pub marks_left : Cursor → List Mark
marks_left cursor = marks_at cursor.text cursor.place

-- the schema is written there and passes nothing, and the lexer goes past it, up to where no embedding begins
pub record IsSchemaRead (old new : Cursor) (schema : Schema) : Type 0 where
  pub form : SchemaForm
  pub stands : Stands passed_of form (marks_left old) (marks_left new)
  pub means : schema ≡ schema_of form

-- a schema of the dimension is written there and passes no limit, whatever is declared again in it
pub record IsSchemaSkipped (old new : Cursor) (dim : ℕ) : Type 0 where
  pub form : SchemaForm
  pub stands : Stands limit_of form (marks_left old) (marks_left new)
  pub means : dim ≡ form.dim

-- the fault is the first of the marks, or memory ran out
abbrev pub IsSchemaFault : List Mark → SchemaFault → Type 0
IsSchemaFault marks (faults.Text place) = TextEndsAt IsSentence passed_of marks place
IsSchemaFault marks (faults.Limit what place) = LimitStandsAt IsSentence passed_of never marks (LimitOf what) place
IsSchemaFault marks (faults.Twice place) = LimitStandsAt IsSentence passed_of never marks Again place
IsSchemaFault marks faults.OutOfMemory = Unit {0}

-- the fault is the first by the grammar and its limits
abbrev pub IsSkipFault : List Mark → SchemaFault → Type 0
IsSkipFault marks (faults.Text place) = TextEndsAt IsSentence limit_of marks place
IsSkipFault marks (faults.Limit what place) = LimitStandsAt IsSentence limit_of never marks what place
IsSkipFault marks _ = ⊥

-- ---- step by step

-- what a symbol passes, where a second declaration is judged and where it isn't
abbrev pub judged : Bool → Role → Symbol → Option Passed
judged true role symbol = passed_of role symbol
judged false role symbol = option_map LimitOf (limit_of role symbol)

abbrev pub run_in : Bool → State → ℕ → List Mark → Result State (Stop State Passed)
run_in strict state last marks = run (judged strict) never role_at move state last marks

-- the lexer goes on over marks that lead from the one state to the other
pub record Reads (strict : Bool) (state : State) (old new : Cursor) (to : State) : Type 0 where
  pub before : List Mark
  pub split : marks_left old ≡ before ++ marks_left new
  pub runs : (last : ℕ) → run_in strict state last before ≡ Ok to
  pub text : new.text ≡ old.text
  pub onward : old.place ≤ new.place
  pub over : GoesOverTokens old new

-- with a mark no schema goes on in a state where none can end
pub record EndsIn (strict : Bool) (state : State) (old : Cursor) (place : ℕ) : Type 0 where
  pub stop : State
  pub mark : Mark
  pub part : is_whole stop ≡ false
  pub here : mark.place ≡ place
  pub ends : (last : ℕ) → run_in strict state last (marks_left old) ≡ Err (Ends stop mark)

-- from the state on the fault is the first
abbrev pub Stops : Bool → State → Cursor → SchemaFault → Type 0
Stops strict state old (faults.Text place) = EndsIn strict state old place
Stops strict state old (faults.Limit what place) = (last : ℕ) → run_in strict state last (marks_left old) ≡ Err (Passes (LimitOf what) place)
Stops strict state old (faults.Twice place) = (last : ℕ) → run_in strict state last (marks_left old) ≡ Err (Passes Again place)
Stops strict state old faults.OutOfMemory = ⊥

-- the same, or memory ran out
abbrev pub StopsOrLost : Bool → State → Cursor → SchemaFault → Type 0
StopsOrLost strict state old faults.OutOfMemory = Unit {0}
StopsOrLost strict state old fault = Stops strict state old fault

-- Where a second declaration is judged, these embeddings were declared before.
abbrev pub IsKnown : Bool → List Embed → List Embed → Type 0
IsKnown true known declared = declared ≡ known
IsKnown false known declared = Unit {0}

abbrev pub ReadsName : Bool → List Embed → Cursor → Cursor → List ℕ → Type 0
ReadsName strict known old new name = (n : ℕ) (declared : List Embed) → IsKnown strict known declared → Reads strict (AtName n declared) old new (AtOrbit n declared name)

abbrev pub StopsAtName : Bool → List Embed → Cursor → SchemaFault → Type 0
StopsAtName strict known old fault = (n : ℕ) (declared : List Embed) → IsKnown strict known declared → Stops strict (AtName n declared) old fault

-- a label of the orbit, or its end
abbrev pub ReadsLabel : Bool → ℕ → Mask → Cursor → Cursor → Option ℕ → Type 0
ReadsLabel strict n mask old new (Some label) = (declared : List Embed) (name : List ℕ) → Reads strict (AtLabel n declared name mask) old new (AtLabel n declared name (with_label mask label))
ReadsLabel strict n mask old new None = (declared : List Embed) (name : List ℕ) → Reads strict (AtLabel n declared name mask) old new (AtKind n declared name mask)

abbrev pub StopsAtLabel : Bool → ℕ → Mask → Cursor → SchemaFault → Type 0
StopsAtLabel strict n mask old fault = (declared : List Embed) (name : List ℕ) → Stops strict (AtLabel n declared name mask) old fault

-- no embedding begins next
abbrev pub EndsEmbeds : Cursor → Type 0
EndsEmbeds cursor = (next : Mark) × (others : List Mark) × (marks_left cursor ≡ next ∷ others) × (next.symbol ≢ Word (codes "embed"))

-- the same, and the lexer stays
abbrev pub IsNoEmbedNext : Cursor → Cursor → Type 0
IsNoEmbedNext old new = (new ≡ old) × EndsEmbeds old

-- an embedding begins next at the place, and the lexer goes past its word
pub record IsEmbedNext (old new : Cursor) (place : ℕ) : Type 0 where
  pub marks : marks_left old ≡ record { symbol = Word (codes "embed"); place = place } ∷ marks_left new
  pub text : new.text ≡ old.text
  pub onward : old.place < new.place
  pub within : new.place ≤ length new.text
  pub behind : IsBehindToken old new

-- a further embedding after this many, or none
abbrev pub ReadsEmbed : Bool → ℕ → ℕ → List Embed → Cursor → Cursor → Option Embed → Type 0
ReadsEmbed strict n count known old new (Some embed) = (declared : List Embed) → length declared ≡ count → IsKnown strict known declared → Reads strict (AtEmbeds n declared) old new (AtEmbeds n (declared ++ embed ∷ []))
ReadsEmbed strict n count known old new None = IsNoEmbedNext old new

-- the name, orbit and kind of an embedding
abbrev pub ReadsDeclaration : Bool → ℕ → List Embed → Cursor → Cursor → Embed → Type 0
ReadsDeclaration strict n known old new embed = (declared : List Embed) → IsKnown strict known declared → Reads strict (AtName n declared) old new (AtEmbeds n (declared ++ embed ∷ []))

abbrev pub StopsAtDeclaration : Bool → ℕ → List Embed → Cursor → SchemaFault → Type 0
StopsAtDeclaration strict n known old fault = (declared : List Embed) → IsKnown strict known declared → Stops strict (AtName n declared) old fault

abbrev pub StopsAtEmbed : Bool → ℕ → ℕ → List Embed → Cursor → SchemaFault → Type 0
StopsAtEmbed strict n count known old fault = (declared : List Embed) → length declared ≡ count → IsKnown strict known declared → Stops strict (AtEmbeds n declared) old fault

-- the lexer goes over embeddings
abbrev pub SkipsEmbeds : ℕ → Cursor → Cursor → Type 0
SkipsEmbeds n old new = (declared : List Embed) × Reads false (AtEmbeds n []) old new (AtEmbeds n declared)

-- the lexer goes over a schema of the dimension
abbrev pub SkipsSchema : Cursor → Cursor → ℕ → Type 0
SkipsSchema old new n = (declared : List Embed) × Reads false AtDim old new (AtEmbeds n declared)

-- ---- tokens

-- the token is one that a lexer answers
pub record IsToken (text : List ℕ) (token : Token) : Type 0 where
  pub order : token.start < token.end
  pub within : token.end ≤ length text
  pub lexeme : IsLexeme token.kind (bytes_of text token)

abbrev pub symbol_at : List ℕ → Token → Symbol
symbol_at text token = symbol_of_kind token.kind (bytes_of text token)

abbrev pub mark_at : List ℕ → Token → Mark
mark_at text token = record { symbol = symbol_at text token; place = token.start }

-- the token stands next, and the lexer goes to the place directly after it
pub record IsNext (old : Cursor) (token : Token) (new : Cursor) : Type 0 where
  pub sound : IsToken new.text token
  pub items : rest_of old ≡ Lexed token ∷ rest_of new
  pub here : new.place ≡ token.end
  pub marks : marks_left old ≡ mark_at new.text token ∷ marks_left new
  pub text : new.text ≡ old.text
  pub onward : old.place < new.place
  pub within : new.place ≤ length new.text

-- the symbol of what is no token
pub data IsNoToken : Symbol → Type 0 where
  AtStray : IsNoToken Stray
  AtEnd : IsNoToken End

-- no token stands next, but at the place a stray byte or the end
pub record IsNoneNext (old : Cursor) (place : ℕ) : Type 0 where
  pub mark : Mark
  pub none : IsNoToken mark.symbol
  pub marks : marks_left old ≡ mark ∷ []
  pub here : mark.place ≡ place

-- the fault says where no token stands next
abbrev pub LacksToken : Cursor → SchemaFault → Type 0
LacksToken old (faults.Text place) = IsNoneNext old place
LacksToken old _ = ⊥
