use Rattle.std.proofs.Common.{rules, ◌≡◌, ◌≢◌, ℕ, ◌<◌, ◌≤◌, Bool, true, false, List, codes, sym, ◌∙◌, arith}
use Rattle.std.specs.Str.{bytes_eq}
use Rattle.std.proofs.lemmas.Bool.{false≢true}
use Rattle.std.proofs.lemmas.Slice.Eq.{bytes_eq-Decides}
use Rattle.std.proofs.lemmas.Result.{err_from_is_err_and}
use Rattle.gm_model.specs.declared.token.TokenKind.TheVariants as tokens
use Rattle.gm_model.specs.Tokens.{bytes_of}
use Rattle.gm_model.proofs.Exits.{unless_ok}
use Rattle.gm_mapfile.proofs.WordTokens.{sign_symbol, none_signed, number_stands, sign_stands, no_signed, plain_next, minus_next, minus_lacks}
use Rattle.gm_mapfile.proofs.values.read_signed_numeral.Goals as goal

no_more : (start end : ℕ) → start < end → start ≤ end
no_more start end order = omega (arith, order)

-- what a test of the token's text tells
is_minus : (found text minus : List ℕ) (same : Bool) → text ≡ found → minus ≡ codes "-" → same ≡ bytes_eq text minus → same ≡ true → found ≡ codes "-"
is_minus found text minus same here sign test is = sym here ∙ (bytes_eq-Decides text minus).0 (sym test ∙ is) ∙ sign

no_minus : (found text minus : List ℕ) (same : Bool) → text ≡ found → minus ≡ codes "-" → same ≡ bytes_eq text minus → same ≡ false → found ≢ codes "-"
no_minus found text minus same here sign test is e = false≢true (sym is ∙ test ∙ (bytes_eq-Decides text minus).1 (here ∙ e ∙ sym sign))

pub returns-in_err-token-clause-none : goal.returns-in_err-token-clause-none
returns-in_err-token-clause-none c =
    let p = err_from_is_err_and c.from_residual.result c.from_residual.ensures.1 in
    rw (p.1, p.2) (none_signed c.args.lexer.now c.in_err-token.field-0.0 c.in_err-token.ensures.none)

pub returns-in_err-value-in-Sign-clause-none : goal.returns-in_err-value-in-Sign-clause-none
returns-in_err-value-in-Sign-clause-none c =
    let p = err_from_is_err_and c.from_residual-in_err-value-in-Sign.result c.from_residual-in_err-value-in-Sign.ensures.1 in
    let is = is_minus _ c.text.result.now c.as_slice.result.now c.eq.result c.text.ensures c.as_slice.ensures c.eq.ensures c.if-eq.true in
    let fault = c.in_err-value-in-Sign.field-0.0 in
    let token = c.in_ok-token.token in
    let there = c.next_token.new.lexer in
    rw (p.1, p.2) (minus_lacks c.args.lexer.now there token.start fault (sign_stands c.args.lexer.now there token c.in_ok-token.ensures.next (codes "-") c.in-Sign.is is) c.in_err-value-in-Sign.ensures.none)

pub returns-in-Number-clause-next : goal.returns-in-Number-clause-next
returns-in-Number-clause-next c =
    let token = c.in_ok-token.token in
    plain_next c.args.lexer.now c.next_token.new.lexer c.value.result token.start
    (number_stands c.args.lexer.now c.next_token.new.lexer token c.in_ok-token.ensures.next c.in-Number.is c.value.result c.value.ensures)

pub returns-in_ok-value-in-Sign-clause-next : goal.returns-in_ok-value-in-Sign-clause-next
returns-in_ok-value-in-Sign-clause-next c =
    let is = is_minus _ c.text.result.now c.as_slice.result.now c.eq.result c.text.ensures c.as_slice.ensures c.eq.ensures c.if-eq.true in
    let token = c.in_ok-token.token in
    let there = c.next_token.new.lexer in
    minus_next c.args.lexer.now there c.read_number.new.lexer token.start c.in_ok-value-in-Sign.field-0.value c.in_ok-value-in-Sign.field-0.place (sign_stands c.args.lexer.now there token c.in_ok-token.ensures.next (codes "-") c.in-Sign.is is) c.in_ok-value-in-Sign.ensures.next

pub returns-in_default-clause-none : goal.returns-in_default-clause-none
returns-in_default-clause-none c =
    let other = no_minus _ c.text.result.now c.as_slice.result.now c.eq.result c.text.ensures c.as_slice.ensures c.eq.ensures c.if-eq.false in
    no_signed c.args.lexer.now c.next_token.new.lexer c.in_ok-token.token c.in_ok-token.ensures.next c.in_default.not-Number (λ e. other (sign_symbol c.in_ok-token.token.kind (bytes_of c.next_token.new.lexer.text c.in_ok-token.token) (codes "-") e).1)

pub returns-in_default-2-clause-none : goal.returns-in_default-2-clause-none
returns-in_default-2-clause-none c =
    let other : c.in_ok-token.token.kind ≢ tokens.Sign = search rules in
    no_signed c.args.lexer.now c.next_token.new.lexer c.in_ok-token.token c.in_ok-token.ensures.next c.in_default.not-Number (λ e. other (sign_symbol c.in_ok-token.token.kind (bytes_of c.next_token.new.lexer.text c.in_ok-token.token) (codes "-") e).0)

pub returns-in_err-token-clause-next : goal.returns-in_err-token-clause-next
returns-in_err-token-clause-next c = unless_ok _ c.from_residual.result c.from_residual.ensures.0

pub returns-in_err-value-in-Sign-clause-next : goal.returns-in_err-value-in-Sign-clause-next
returns-in_err-value-in-Sign-clause-next c = unless_ok _ c.from_residual-in_err-value-in-Sign.result c.from_residual-in_err-value-in-Sign.ensures.0

pub text-requires-clause-order : goal.text-requires-clause-order
text-requires-clause-order c = no_more c.in_ok-token.token.start c.in_ok-token.token.end c.in_ok-token.ensures.next.sound.order

pub text-requires-clause-within : goal.text-requires-clause-within
text-requires-clause-within c = c.in_ok-token.ensures.next.sound.within

pub value-requires-clause-token : goal.value-requires-clause-token
value-requires-clause-token c = c.in_ok-token.ensures.next.sound

pub value-requires-clause-kind : goal.value-requires-clause-kind
value-requires-clause-kind c = c.in-Number.is
