use Rattle.std.proofs.Common.{Option, Ok, refl, subst}
use Rattle.std.proofs.lemmas.Result.{err_from_is_err_and}
use Rattle.gm_model.specs.declared.token.Token.{Token}
use Rattle.gm_model.specs.declared.token.TokenKind.TheVariants as kinds
use Rattle.gm_model.specs.Tokens.{bytes_of}
use Rattle.gm_text.proofs.SchemaMoves.{kind_is, kind_other}
use Rattle.gm_forms.specs.inner.Reading.{AtVersion}
use Rattle.gm_forms.specs.inner.Standing.{IsNext}
use Rattle.gm_forms.proofs.HeadRead.{at_stray, at_end, at_token, no_number, other_version, one_or_two, one_byte, version_read}
use Rattle.gm_model.proofs.Exits.{unless_ok}
use Rattle.gm_forms.proofs.headers.read_number.Goals as goal

pub returns-in_err-token-clause-fault : goal.returns-in_err-token-clause-fault
returns-in_err-token-clause-fault c =
    let p = err_from_is_err_and c.from_residual.result c.from_residual.ensures.1 in
    rw (p.1, p.2) (at_stray AtVersion c.args.lexer.now c.next_token.new.lexer c.in_err-token.field-0.0 refl c.in_err-token.ensures.next)

pub returns-in_default-clause-fault : goal.returns-in_default-clause-fault
returns-in_default-clause-fault c = at_end AtVersion c.args.lexer.now c.next_token.new.lexer c.in_ok-token.field-0 c.place.result refl c.in_ok-token.ensures.next c.in_default.is c.place.ensures.value

pub returns-then-ne-clause-fault : goal.returns-then-ne-clause-fault
returns-then-ne-clause-fault c =
    let rest = c.next_token.new.lexer in
    let token = c.in-Some.token in
    let is = subst (λ (found : Option Token). IsNext c.args.lexer.now (Ok found) rest) c.in-Some.is c.in_ok-token.ensures.next in
    let other = kind_other token.kind kinds.Number c.ne.result c.ne.ensures c.if-ne.true in
    at_token AtVersion c.args.lexer.now rest token c.in_ok-token.ensures.text is (no_number token.kind (bytes_of rest.text token) other)

pub returns-then-version-ne2-clause-fault : goal.returns-then-version-ne2-clause-fault
returns-then-version-ne2-clause-fault c =
    let rest = c.next_token.new.lexer in
    let token = c.in-Some.token in
    let is = subst (λ (found : Option Token). IsNext c.args.lexer.now (Ok found) rest) c.in-Some.is c.in_ok-token.ensures.next in
    let number = kind_is token.kind kinds.Number c.ne.result c.ne.ensures c.if-ne.false in
    at_token AtVersion c.args.lexer.now rest token c.in_ok-token.ensures.text is (other_version token.kind (bytes_of rest.text token) number c.value-version.result c.value-version.ensures c.if-version-ne1.true c.if-version-ne2.true)

pub returns-clause-read : goal.returns-clause-read
returns-clause-read c =
    let rest = c.next_token.new.lexer in
    let token = c.in-Some.token in
    let is = subst (λ (found : Option Token). IsNext c.args.lexer.now (Ok found) rest) c.in-Some.is c.in_ok-token.ensures.next in
    let number = kind_is token.kind kinds.Number c.ne.result c.ne.ensures c.if-ne.false in
    let known = one_or_two c.else-version-ne1.either in
    version_read c.args.lexer.now rest token c.in_ok-token.ensures.text is number c.value-version.result c.value-version.ensures known

pub returns-in_err-token-clause-read : goal.returns-in_err-token-clause-read
returns-in_err-token-clause-read c = unless_ok _ c.from_residual.result c.from_residual.ensures.0

pub returns-in_err-token-clause-text : goal.returns-in_err-token-clause-text
returns-in_err-token-clause-text c = c.in_err-token.ensures.text

pub returns-in_default-clause-text : goal.returns-in_default-clause-text
returns-in_default-clause-text c = c.in_ok-token.ensures.text

pub returns-then-ne-clause-text : goal.returns-then-ne-clause-text
returns-then-ne-clause-text c = c.in_ok-token.ensures.text

pub returns-then-version-ne2-clause-text : goal.returns-then-version-ne2-clause-text
returns-then-version-ne2-clause-text c = c.in_ok-token.ensures.text

pub returns-clause-text : goal.returns-clause-text
returns-clause-text c = c.in_ok-token.ensures.text

pub overflow_cast-result : goal.overflow_cast-result
overflow_cast-result c = one_byte (one_or_two c.else-version-ne1.either)

pub value-version-requires-clause-kind : goal.value-version-requires-clause-kind
value-version-requires-clause-kind c = kind_is c.in-Some.token.kind kinds.Number c.ne.result c.ne.ensures c.if-ne.false
