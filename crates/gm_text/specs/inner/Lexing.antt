-- What a lexer answers at a place, and what it goes past before it.
use Rattle.std.specs.Prelude.{◌≡◌, ◌≢◌, ◌⊎◌, ℕ, ◌+◌, ◌-◌, ◌<◌, ◌≤◌, List, [], ◌∷◌, ◌++◌, length, drop, slice_index, Option, Some, None, Result, Ok, Err, IsTrue}
use Rattle.gm_model.specs.declared.token.Token.{Token}
use Rattle.gm_model.specs.declared.token.TokenKind.TheVariants as kinds
use Rattle.gm_model.specs.Symbols.{value_of}
use Rattle.gm_model.specs.Tokens.{Item, Lexed, StrayAt, EndAt, Front, Lexeme, front_of, items_at, is_blank, is_hash, bytes_of, IsLongest, HasNoLexeme}
use Rattle.gm_text.specs.declared.fault.LexFault.{LexFault}
use Rattle.gm_text.specs.inner.Cursor.{Cursor}

-- what a lexer can still meet
abbrev pub rest_of : Cursor → List Item
rest_of cursor = items_at cursor.text cursor.place

-- the answer as an item, and after a token these items
abbrev pub items_read : List ℕ → Result (Option Token) LexFault → List Item → List Item
items_read text (Ok (Some token)) items = Lexed token ∷ items
items_read text (Ok None) items = EndAt (length text) ∷ []
items_read text (Err fault) items = StrayAt fault.place ∷ []

-- the lexer that has gone past the answer: a fault is not gone past
abbrev pub after : Result (Option Token) LexFault → Cursor → Cursor
after (Ok (Some token)) cursor = record cursor { place = token.end }
after (Ok None) cursor = record cursor { place = length cursor.text }
after (Err fault) cursor = cursor

-- from the one lexer to the other tokens alone were gone past, and the new one stands directly after the last of them
pub record IsBehindToken (old new : Cursor) : Type 0 where
  pub before : List Item
  pub token : Token
  pub items : rest_of old ≡ before ++ Lexed token ∷ rest_of new
  pub here : new.place ≡ token.end

-- the same, or the lexer stays
abbrev pub GoesOverTokens : Cursor → Cursor → Type 0
GoesOverTokens old new = (new ≡ old) ⊎ IsBehindToken old new

-- a number of this value stands next, at the place, and ends where the new lexer is
pub record IsNumberRead (value place : ℕ) (old new : Cursor) : Type 0 where
  pub text : new.text ≡ old.text
  pub answer : rest_of old ≡ Lexed (record { kind = kinds.Number; start = place; end = new.place }) ∷ rest_of new
  pub value_is : value ≡ value_of (bytes_of old.text (record { kind = kinds.Number; start = place; end = new.place }))

-- this sign of one byte stands next, and ends where the new lexer is
pub record IsSignRead (sign : ℕ) (old new : Cursor) : Type 0 where
  pub place : ℕ
  pub text : new.text ≡ old.text
  pub answer : rest_of old ≡ Lexed (record { kind = kinds.Sign; start = place; end = new.place }) ∷ rest_of new
  pub sign_is : bytes_of old.text (record { kind = kinds.Sign; start = place; end = new.place }) ≡ sign ∷ []

-- where the answer stands
abbrev pub stand_of : List ℕ → Result (Option Token) LexFault → ℕ
stand_of text (Ok (Some token)) = token.start
stand_of text (Ok None) = length text
stand_of text (Err fault) = fault.place

-- the answer stands at or after the place, and lies in the text
abbrev pub IsInText : Cursor → Result (Option Token) LexFault → Type 0
IsInText cursor (Ok (Some token)) =
    (cursor.place ≤ token.start) × (token.start < token.end) × (token.end ≤ length cursor.text)
IsInText cursor (Ok None) = cursor.place ≤ length cursor.text
IsInText cursor (Err fault) = (cursor.place ≤ fault.place) × (fault.place < length cursor.text)

-- the token is the longest that stands where it does, and at a fault none stands
abbrev pub IsLongestThere : List ℕ → Result (Option Token) LexFault → Type 0
IsLongestThere text (Ok (Some token)) = IsLongest token.kind (token.end - token.start) (drop token.start text)
IsLongestThere text (Ok None) = Unit {0}
IsLongestThere text (Err fault) = HasNoLexeme (drop fault.place text)

-- from one place of a text to another stand blanks and comments alone
pub data IsGap (text : List ℕ) : ℕ → ℕ → Type 0 where
  nothing : (place : ℕ) → IsGap text place place
  blank : (place stop : ℕ) → place < length text → IsTrue (is_blank (slice_index text place)) → IsGap text (place + 1) stop → IsGap text place stop
  -- a comment goes up to a line feed, or to the end of the text
  comment : (place line_end stop : ℕ) → place < length text → IsTrue (is_hash (slice_index text place))
      → ((k : ℕ) → place < k → k < line_end → slice_index text k ≢ 10)
      → ((line_end ≡ length text) ⊎ ((line_end < length text) × (slice_index text line_end ≡ 10)))
      → IsGap text line_end stop → IsGap text place stop

-- ---- one token

-- what stands at a place inside a text
abbrev pub front_at : List ℕ → ℕ → Front
front_at text place = front_of (slice_index text place) (drop (place + 1) text)

-- the token begins at the place, ends in the text, and is what stands there
pub record IsTokenAt (text : List ℕ) (place : ℕ) (token : Token) : Type 0 where
  pub start : token.start ≡ place
  pub not_empty : place < token.end
  pub within : token.end ≤ length text
  pub front : front_at text place ≡ Lexeme token.kind (token.end - place)
