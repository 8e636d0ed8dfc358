use Rattle.std.proofs.Common.{arith, ◌≡◌, ◌≢◌, ◌<◌, ◌≤◌, true, false, refl, sym, ◌∙◌, codes}
use Rattle.std.proofs.lemmas.Result.{err_from_is_err_and}
use Rattle.gm_model.specs.declared.token.TokenKind.TheVariants as tokens
use Rattle.gm_model.specs.Labels.{has}
use Rattle.gm_model.specs.Symbols.{Sign}
use Rattle.gm_text.specs.inner.SchemaReading.{AtLabel}
use Rattle.gm_text.specs.inner.SchemaAnswers.{symbol_at}
use Rattle.gm_model.proofs.Exits.{unless_ok}
use Rattle.gm_text.proofs.SchemaMoves.{kind_is, kind_other, no_label}
use Rattle.gm_text.proofs.SchemaReaders.{label_read, label_ends, label_past, label_again}
use Rattle.gm_text.proofs.SchemaSteps.{stops_none, stops_token}
use Rattle.gm_text.proofs.schema_reading.read_label.Goals.{else-strict-via-then-strict+else-has, else-strict-via-else-strict}
use Rattle.gm_text.proofs.schema_reading.read_label.Goals as goal

pub returns-in_err-token-clause-stops : goal.returns-in_err-token-clause-stops
returns-in_err-token-clause-stops c =
    let p = err_from_is_err_and c.from_residual.result c.from_residual.ensures.1 in
    rw (p.1, p.2) (λ declared name. stops_none c.args.strict (AtLabel c.args.dim declared name c.args.mask) c.args.lexer.now _ refl c.in_err-token.ensures.none)

pub returns-then-reads_sign-clause-reads : goal.returns-then-reads_sign-clause-reads
returns-then-reads_sign-clause-reads c =
    λ declared name. label_ends c.args.strict c.args.dim declared name c.args.mask c.args.lexer.now c.next_token.new.lexer c.in_ok-token.token c.in_ok-token.ensures.next (c.reads_sign.ensures.0 c.if-reads_sign.true)

pub returns-then-ne-clause-stops : goal.returns-then-ne-clause-stops
returns-then-ne-clause-stops c =
    let other = kind_other c.in_ok-token.token.kind tokens.Number c.ne.result c.ne.ensures c.if-ne.true in
    let no_end : symbol_at c.next_token.new.lexer.text c.in_ok-token.token ≢ Sign (codes ">") = λ e. let both : true ≡ false = sym (c.reads_sign.ensures.1 e) ∙ c.if-reads_sign.false in absurd cc in
    λ declared name.
    stops_token c.args.strict (AtLabel c.args.dim declared name c.args.mask) c.args.lexer.now c.next_token.new.lexer c.in_ok-token.token refl c.in_ok-token.ensures.next (no_label c.args.dim declared name c.args.mask _ _ other no_end)

pub returns-clause-reads : goal.returns-clause-reads
returns-clause-reads c =
    let number = kind_is c.in_ok-token.token.kind tokens.Number c.ne.result c.ne.ensures c.if-ne.false in
    let low : c.value-value.result ≤ c.args.dim = omega (arith, c.top.ensures.value, c.if-value-from.false, c.from.ensures) in
    let once : c.args.strict ≡ true → has c.args.mask c.value-value.result ≡ false = elim c.else-strict.branch [
      | else-strict-via-then-strict+else-has w ↦ λ judges. sym w.has.ensures ∙ w.if-has.false
      | else-strict-via-else-strict w ↦ λ judges. let both : true ≡ false = sym judges ∙ w.if-strict.false in absurd cc
    ] in
    λ declared name.
    label_read c.args.strict c.args.lexer.now c.next_token.new.lexer c.in_ok-token.token c.in_ok-token.ensures.next number c.value-value.result c.value-value.ensures c.args.dim declared name c.args.mask c.top.ensures.greatest low once

pub value-value-requires-clause-kind : goal.value-value-requires-clause-kind
value-value-requires-clause-kind c = kind_is c.in_ok-token.token.kind tokens.Number c.ne.result c.ne.ensures c.if-ne.false

pub returns-then-value-from-clause-stops : goal.returns-then-value-from-clause-stops
returns-then-value-from-clause-stops c =
    let number = kind_is c.in_ok-token.token.kind tokens.Number c.ne.result c.ne.ensures c.if-ne.false in
    let over : c.args.dim < c.value-value.result = omega (arith, c.top.ensures.value, c.if-value-from.true, c.from.ensures) in
    λ declared name.
    label_past c.args.strict c.args.lexer.now c.next_token.new.lexer c.in_ok-token.token c.in_ok-token.ensures.next number c.value-value.result c.value-value.ensures c.args.dim declared name c.args.mask c.top.ensures.greatest over

pub returns-then-has-clause-stops : goal.returns-then-has-clause-stops
returns-then-has-clause-stops c =
    let number = kind_is c.in_ok-token.token.kind tokens.Number c.ne.result c.ne.ensures c.if-ne.false in
    let low : c.value-value.result ≤ c.args.dim = omega (arith, c.top.ensures.value, c.if-value-from.false, c.from.ensures) in
    λ declared name.
    label_again c.args.strict c.args.lexer.now c.next_token.new.lexer c.in_ok-token.token c.in_ok-token.ensures.next number c.value-value.result c.value-value.ensures c.args.dim declared name c.args.mask c.top.ensures.greatest low c.if-strict.true
    (sym c.has.ensures ∙ c.if-has.true)

pub overflow_cast-label : goal.overflow_cast-label
overflow_cast-label c = omega (arith, c.if-value-from.false, c.from.ensures, c.top.ensures.value, c.top.ensures.greatest)

pub returns-clause-small : goal.returns-clause-small
returns-clause-small c = omega (arith, c.if-value-from.false, c.from.ensures, c.top.ensures.value, c.top.ensures.greatest)

pub returns-in_err-token-clause-small : goal.returns-in_err-token-clause-small
returns-in_err-token-clause-small c = unless_ok _ c.from_residual.result c.from_residual.ensures.0

pub returns-in_err-token-clause-reads : goal.returns-in_err-token-clause-reads
returns-in_err-token-clause-reads c = unless_ok _ c.from_residual.result c.from_residual.ensures.0

pub returns-in_err-token-clause-text : goal.returns-in_err-token-clause-text
returns-in_err-token-clause-text c = unless_ok _ c.from_residual.result c.from_residual.ensures.0

pub returns-in_err-token-clause-onward : goal.returns-in_err-token-clause-onward
returns-in_err-token-clause-onward c = unless_ok _ c.from_residual.result c.from_residual.ensures.0

pub returns-in_err-token-clause-within : goal.returns-in_err-token-clause-within
returns-in_err-token-clause-within c = unless_ok _ c.from_residual.result c.from_residual.ensures.0

pub returns-then-reads_sign-clause-text : goal.returns-then-reads_sign-clause-text
returns-then-reads_sign-clause-text c = c.in_ok-token.ensures.next.text

pub returns-then-reads_sign-clause-onward : goal.returns-then-reads_sign-clause-onward
returns-then-reads_sign-clause-onward c = c.in_ok-token.ensures.next.onward

pub returns-then-reads_sign-clause-within : goal.returns-then-reads_sign-clause-within
returns-then-reads_sign-clause-within c = c.in_ok-token.ensures.next.within

pub returns-clause-text : goal.returns-clause-text
returns-clause-text c = c.in_ok-token.ensures.next.text

pub returns-clause-onward : goal.returns-clause-onward
returns-clause-onward c = c.in_ok-token.ensures.next.onward

pub returns-clause-within : goal.returns-clause-within
returns-clause-within c = c.in_ok-token.ensures.next.within

pub has-requires : goal.has-requires
has-requires c = omega (arith, c.if-value-from.false, c.from.ensures, c.top.ensures.value, c.top.ensures.greatest)
