-- What a grammar sees of a text, from the answers of a lexer: the mark of each answer, and the marks behind it.
use Rattle.std.proofs.Common.{◌≡◌, ℕ, List, [], ◌∷◌, length, Option, Some, None, Result, Ok, Err, map, ap}
use Rattle.gm_model.specs.declared.token.Token.{Token}
use Rattle.gm_model.specs.Tokens.{Lexed, StrayAt, EndAt, items_at, bytes_of}
use Rattle.gm_model.specs.Symbols.{Stray, End, Mark, symbol_of_kind, mark_of, marks_at}
use Rattle.gm_text.specs.declared.fault.LexFault.{LexFault}
use Rattle.gm_text.specs.inner.Cursor.{Cursor}
use Rattle.gm_text.specs.inner.Lexing.{rest_of, items_read, after}

-- the marks of a lexer's text from its place on
abbrev pub marks_from : Cursor → List Mark
marks_from cursor = marks_at cursor.text cursor.place

-- the answer as a mark, and behind a token these marks
abbrev pub marks_read : List ℕ → Result (Option Token) LexFault → List Mark → List Mark
marks_read text (Ok (Some token)) marks = record { symbol = symbol_of_kind token.kind (bytes_of text token); place = token.start } ∷ marks
marks_read text (Ok None) marks = record { symbol = End; place = length text } ∷ []
marks_read text (Err fault) marks = record { symbol = Stray; place = fault.place } ∷ []

-- from what `next` and `peek` ensure of their answer
pub marks_from-answer : (cursor : Cursor) (result : Result (Option Token) LexFault)
    → rest_of cursor ≡ items_read cursor.text result (rest_of (after result cursor))
    → marks_from cursor ≡ marks_read cursor.text result (marks_from (after result cursor))
marks_from-answer cursor (Ok (Some token)) answer = ap (map (mark_of cursor.text)) answer
marks_from-answer cursor (Ok None) answer = ap (map (mark_of cursor.text)) answer
marks_from-answer cursor (Err fault) answer = ap (map (mark_of cursor.text)) answer

-- the same, for each answer and over a text and its places
pub marks_at-token : (text : List ℕ) (place : ℕ) (token : Token) → items_at text place ≡ Lexed token ∷ items_at text token.end
    → marks_at text place ≡ record { symbol = symbol_of_kind token.kind (bytes_of text token); place = token.start } ∷ marks_at text token.end
marks_at-token text place token answer = ap (map (mark_of text)) answer

pub marks_at-end : (text : List ℕ) (place : ℕ) → items_at text place ≡ EndAt (length text) ∷ []
    → marks_at text place ≡ record { symbol = End; place = length text } ∷ []
marks_at-end text place answer = ap (map (mark_of text)) answer

pub marks_at-stray : (text : List ℕ) (place stray : ℕ) → items_at text place ≡ StrayAt stray ∷ []
    → marks_at text place ≡ record { symbol = Stray; place = stray } ∷ []
marks_at-stray text place stray answer = ap (map (mark_of text)) answer
