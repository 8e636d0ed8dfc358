-- What a grammar sees of a text: its tokens by what they mean, each with its place.
use Rattle.std.specs.Prelude.{ℕ, ◌+◌, ◌-◌, ◌*◌, List, [], ◌∷◌, map}
use Rattle.gm_model.specs.declared.token.TokenKind.{TokenKind}
use Rattle.gm_model.specs.declared.token.TokenKind.TheVariants as kinds
use Rattle.gm_model.specs.Tokens.{Item, Lexed, StrayAt, EndAt, items_at, bytes_of}

pub data Symbol : Type 0 where
  -- a name, by its bytes
  Word : List ℕ → Symbol
  -- a number, by its value
  Numeral : ℕ → Symbol
  -- a sign, by its bytes
  Sign : List ℕ → Symbol
  -- a `_` by itself
  Gone : Symbol
  -- a byte that no token begins with
  Stray : Symbol
  -- the end of the text
  End : Symbol

pub record Mark : Type 0 where
  pub symbol : Symbol
  pub place : ℕ

-- the value of digits, leading zeros included, after those already read
abbrev pub value_after : ℕ → List ℕ → ℕ
value_after n [] = n
value_after n (digit ∷ digits) = value_after (n * 10 + (digit - 48)) digits

abbrev pub value_of : List ℕ → ℕ
value_of digits = value_after 0 digits

abbrev pub symbol_of_kind : TokenKind → List ℕ → Symbol
symbol_of_kind kinds.Name bytes = Word bytes
symbol_of_kind kinds.Number bytes = Numeral (value_of bytes)
symbol_of_kind kinds.Gone bytes = Gone
symbol_of_kind kinds.Sign bytes = Sign bytes

abbrev pub mark_of : List ℕ → Item → Mark
mark_of text (Lexed token) = record { symbol = symbol_of_kind token.kind (bytes_of text token); place = token.start }
mark_of text (StrayAt place) = record { symbol = Stray; place = place }
mark_of text (EndAt place) = record { symbol = End; place = place }

abbrev pub marks_at : List ℕ → ℕ → List Mark
marks_at text place = map (mark_of text) (items_at text place)

abbrev pub marks_of : List ℕ → List Mark
marks_of text = marks_at text 0

abbrev pub symbols : List Mark → List Symbol
symbols marks = map (λ mark. mark.symbol) marks

abbrev pub symbols_of : List ℕ → List Symbol
symbols_of text = symbols (marks_of text)
