-- What stands next before a lexer, by the token that it answers.
use Rattle.std.proofs.Common.{◌≡◌, ◌≢◌, ℕ, ◌-◌, ◌^◌, min, true, false, List, [], ◌∷◌, map, refl, sym, ap, ap₂, ◌∙◌}
use Rattle.gm_model.specs.declared.token.Token.{Token}
use Rattle.gm_model.specs.declared.token.TokenKind.{TokenKind}
use Rattle.gm_model.specs.declared.token.TokenKind.TheVariants as tokens
use Rattle.gm_model.specs.Symbols.{Symbol, Word, Numeral, Sign, Mark, mark_of, symbol_of_kind, value_of}
use Rattle.gm_model.specs.Tokens.{bytes_of}
use Rattle.gm_text.specs.inner.Cursor.{Cursor}
use Rattle.gm_text.specs.inner.Lexing.{rest_of, IsSignRead}
use Rattle.gm_text.specs.inner.SchemaAnswers.{marks_left, symbol_at, mark_at, IsNext, IsNoToken, AtStray, AtEnd, LacksToken}
use Rattle.gm_text.specs.declared.schema_fault.SchemaFault.{SchemaFault}
use Rattle.gm_text.specs.declared.schema_fault.SchemaFault.TheVariants as faults
use Rattle.gm_mapfile.specs.inner.Words.{IsMarkNext, StandsNext, IsNumberNext, IsOtherNext, IsNoNumberNext, minus_sign, IsSignedNext, IsNoSignedNext, AtFirst, BehindMinus}

-- ---- symbols

pub word_symbol : (kind : TokenKind) (found bytes : List ℕ) → symbol_of_kind kind found ≡ Word bytes → (kind ≡ tokens.Name) × (found ≡ bytes)
word_symbol tokens.Name found bytes e = (refl, cc e)
word_symbol tokens.Number found bytes e = absurd cc
word_symbol tokens.Gone found bytes e = absurd cc
word_symbol tokens.Sign found bytes e = absurd cc

pub sign_symbol : (kind : TokenKind) (found bytes : List ℕ) → symbol_of_kind kind found ≡ Sign bytes → (kind ≡ tokens.Sign) × (found ≡ bytes)
sign_symbol tokens.Name found bytes e = absurd cc
sign_symbol tokens.Number found bytes e = absurd cc
sign_symbol tokens.Gone found bytes e = absurd cc
sign_symbol tokens.Sign found bytes e = (refl, cc e)

pub numeral_symbol : (kind : TokenKind) (found : List ℕ) (n : ℕ) → symbol_of_kind kind found ≡ Numeral n → kind ≡ tokens.Number
numeral_symbol tokens.Name found n e = absurd cc
numeral_symbol tokens.Number found n e = refl
numeral_symbol tokens.Gone found n e = absurd cc
numeral_symbol tokens.Sign found n e = absurd cc

no_token_numeral : (symbol : Symbol) → IsNoToken symbol → (n : ℕ) → symbol ≢ Numeral n
no_token_numeral symbol none n = elim none as (λ (s : Symbol) (_ : IsNoToken s). s ≢ Numeral n) [
  | AtStray ↦ λ e. absurd cc
  | AtEnd ↦ λ e. absurd cc
]

no_token_sign : (symbol : Symbol) → IsNoToken symbol → (bytes : List ℕ) → symbol ≢ Sign bytes
no_token_sign symbol none bytes = elim none as (λ (s : Symbol) (_ : IsNoToken s). s ≢ Sign bytes) [
  | AtStray ↦ λ e. absurd cc
  | AtEnd ↦ λ e. absurd cc
]

-- ---- where no token stands

pub none_signed : (old : Cursor) (fault : SchemaFault) → LacksToken old fault → IsNoSignedNext old fault
none_signed old (faults.Text place) is = AtFirst is.mark [] is.marks (no_token_numeral is.mark.symbol is.none) (no_token_sign is.mark.symbol is.none _) (ap (λ (p : ℕ). faults.Text p) (sym is.here))
none_signed old (faults.Limit what place) is = absurd is
none_signed old (faults.Twice place) is = absurd is
none_signed old faults.OutOfMemory is = absurd is

-- ---- where one stands

module _ (old new : Cursor) (token : Token) (next : IsNext old token new) where
  pub is_other : (symbol : Symbol) → symbol_at new.text token ≢ symbol → IsOtherNext symbol old (faults.Text token.start)
  is_other symbol other = (mark_at new.text token, marks_left new, next.marks, other, refl)

  pub stands : (symbol : Symbol) → symbol_at new.text token ≡ symbol → IsMarkNext symbol token.start old new
  stands symbol is = next.marks ∙ ap (λ (s : Symbol). let mark : Mark = record { symbol = s; place = token.start } in mark ∷ marks_left new) is

  pub word_stands : (bytes : List ℕ) → token.kind ≡ tokens.Name → bytes_of new.text token ≡ bytes → StandsNext (Word bytes) old new
  word_stands bytes kind is = (token.start, stands (Word bytes) (ap (λ k. symbol_of_kind k (bytes_of new.text token)) kind ∙ ap Word is))

  pub sign_stands : (bytes : List ℕ) → token.kind ≡ tokens.Sign → bytes_of new.text token ≡ bytes → IsMarkNext (Sign bytes) token.start old new
  sign_stands bytes kind is = stands (Sign bytes) (ap (λ k. symbol_of_kind k (bytes_of new.text token)) kind ∙ ap Sign is)

  pub no_number : token.kind ≢ tokens.Number → IsNoNumberNext old (faults.Text token.start)
  no_number other = (mark_at new.text token, marks_left new, next.marks, λ n e. other (numeral_symbol token.kind (bytes_of new.text token) n e), refl)

  pub no_signed : token.kind ≢ tokens.Number → symbol_at new.text token ≢ minus_sign → IsNoSignedNext old (faults.Text token.start)
  no_signed number sign = AtFirst (mark_at new.text token) (marks_left new) next.marks (λ n e. number (numeral_symbol token.kind (bytes_of new.text token) n e)) sign refl

  pub number_stands : token.kind ≡ tokens.Number → (value : ℕ) → value ≡ min (value_of (bytes_of new.text token)) (2 ^ 64 - 1) → IsNumberNext old value token.start new
  number_stands kind value is = (value_of (bytes_of new.text token), is, stands (Numeral (value_of (bytes_of new.text token))) (ap (λ k. symbol_of_kind k (bytes_of new.text token)) kind))

-- ---- a sign that was read by its byte

pub sign_next : (sign : ℕ) (old new : Cursor) (is : IsSignRead sign old new) → IsMarkNext (Sign (sign ∷ [])) is.place old new
sign_next sign old new is =
    ap (map (mark_of old.text)) is.answer
    ∙ ap₂ (λ (bytes text : List ℕ). let mark : Mark = record { symbol = Sign bytes; place = is.place } in mark ∷ map (mark_of text) (rest_of new)) is.sign_is (sym is.text)

-- ---- with a minus before it

pub plain_next : (old new : Cursor) (value place : ℕ) → IsNumberNext old value place new → IsSignedNext old false value place new
plain_next old new value place (n, is, marks) = (n, 0, is, marks)

pub minus_next : (old between new : Cursor) (at value place : ℕ) → IsMarkNext minus_sign at old between → IsNumberNext between value place new → IsSignedNext old true value place new
minus_next old between new at value place minus (n, is, marks) =
    (n, at, is, minus ∙ ap (λ (rest : List Mark). let mark : Mark = record { symbol = minus_sign; place = at } in mark ∷ rest) marks)

pub minus_lacks : (old between : Cursor) (at : ℕ) (fault : SchemaFault) → IsMarkNext minus_sign at old between → IsNoNumberNext between fault → IsNoSignedNext old fault
minus_lacks old between at fault minus (mark, rest, marks, other, says) =
    BehindMinus at mark rest (minus ∙ ap (λ (ms : List Mark). let first : Mark = record { symbol = minus_sign; place = at } in first ∷ ms) marks) other says
