use Rattle.std.proofs.Common.{rules, ◌≡◌, ◌≢◌, Option, Ok, false, true, refl, subst, codes}
use Rattle.std.proofs.lemmas.Result.{err_from_is_err_and}
use Rattle.std.specs.Str.{bytes_eq}
use Rattle.gm_model.specs.declared.token.Token.{Token}
use Rattle.gm_model.specs.declared.token.TokenKind.TheVariants as kinds
use Rattle.gm_model.specs.Tokens.{bytes_of}
use Rattle.gm_forms.specs.inner.Reading.{AtFormat}
use Rattle.gm_forms.specs.inner.Standing.{IsNext}
use Rattle.gm_forms.proofs.HeadRead.{at_stray, at_end, at_token, no_word, other_word, book_read}
use Rattle.gm_model.proofs.Exits.{unless_ok}
use Rattle.gm_forms.proofs.headers.read_format.Goals as goal
use Rattle.gm_forms.proofs.headers.read_format.Goals.{then-ne-via-then-ne, then-ne-via-else-ne+then-not-reads}

pub returns-in_err-token-clause-fault : goal.returns-in_err-token-clause-fault
returns-in_err-token-clause-fault c =
    let p = err_from_is_err_and c.from_residual.result c.from_residual.ensures.1 in
    rw (p.1, p.2) (at_stray AtFormat c.args.lexer.now c.next_token.new.lexer c.in_err-token.field-0.0 refl c.in_err-token.ensures.next)

pub returns-in_default-clause-fault : goal.returns-in_default-clause-fault
returns-in_default-clause-fault c = at_end AtFormat c.args.lexer.now c.next_token.new.lexer c.in_ok-token.field-0 c.place.result refl c.in_ok-token.ensures.next c.in_default.is c.place.ensures.value

pub returns-then-ne-clause-fault : goal.returns-then-ne-clause-fault
returns-then-ne-clause-fault c =
    let rest = c.next_token.new.lexer in
    let token = c.in-Some.token in
    let is = subst (λ (found : Option Token). IsNext c.args.lexer.now (Ok found) rest) c.in-Some.is c.in_ok-token.ensures.next in
    elim c.then-ne.branch [
      | then-ne-via-then-ne w ↦ (let other : token.kind ≢ kinds.Name = search rules in at_token AtFormat c.args.lexer.now rest token c.in_ok-token.ensures.text is (no_word token.kind (bytes_of rest.text token) other))
      | then-ne-via-else-ne+then-not-reads w ↦ (let name : token.kind ≡ kinds.Name = search rules in
          let differ : bytes_eq (bytes_of rest.text token) (codes "book") ≡ false = search rules in
          at_token AtFormat c.args.lexer.now rest token c.in_ok-token.ensures.text is (other_word token.kind (bytes_of rest.text token) name differ))
    ]

pub returns-clause-read : goal.returns-clause-read
returns-clause-read c =
    let rest = c.next_token.new.lexer in
    let token = c.in-Some.token in
    let is = subst (λ (found : Option Token). IsNext c.args.lexer.now (Ok found) rest) c.in-Some.is c.in_ok-token.ensures.next in
    let name : token.kind ≡ kinds.Name = search rules in
    let word : bytes_eq (bytes_of rest.text token) (codes "book") ≡ true = search rules in
    book_read c.args.lexer.now rest token c.in_ok-token.ensures.text is name word

pub returns-in_err-token-clause-read : goal.returns-in_err-token-clause-read
returns-in_err-token-clause-read c = unless_ok _ c.from_residual.result c.from_residual.ensures.0
