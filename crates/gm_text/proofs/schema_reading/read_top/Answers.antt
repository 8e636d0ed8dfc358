use Rattle.std.proofs.Common.{arith, ℕ, [], refl, sym, subst}
use Rattle.std.proofs.lemmas.Result.{err_from_is_err_and}
use Rattle.gm_model.specs.declared.token.TokenKind.TheVariants as tokens
use Rattle.gm_text.specs.inner.SchemaReading.{AtTop, AtEmbeds}
use Rattle.gm_text.specs.inner.SchemaAnswers.{Reads}
use Rattle.gm_model.proofs.Exits.{unless_ok}
use Rattle.gm_text.proofs.SchemaMoves.{kind_is, kind_other, no_top}
use Rattle.gm_text.proofs.SchemaReaders.{top_read, top_past, top_none}
use Rattle.gm_text.proofs.SchemaSteps.{stops_none, stops_token}
use Rattle.gm_text.proofs.schema_reading.read_top.Goals as goal

pub returns-in_err-token-clause-stops : goal.returns-in_err-token-clause-stops
returns-in_err-token-clause-stops c =
    let p = err_from_is_err_and c.from_residual.result c.from_residual.ensures.1 in
    rw (p.1, p.2) (λ strict. stops_none strict AtTop c.args.lexer.now _ refl c.in_err-token.ensures.none)

pub returns-then-ne-clause-stops : goal.returns-then-ne-clause-stops
returns-then-ne-clause-stops c =
    let other = kind_other c.in_ok-token.token.kind tokens.Number c.ne.result c.ne.ensures c.if-ne.true in
    λ strict. stops_token strict AtTop c.args.lexer.now c.next_token.new.lexer c.in_ok-token.token refl c.in_ok-token.ensures.next (no_top _ _ other)

pub returns-in-Some-clause-reads : goal.returns-in-Some-clause-reads
returns-in-Some-clause-reads c =
    let number = kind_is c.in_ok-token.token.kind tokens.Number c.ne.result c.ne.ensures c.if-ne.false in
    let is = c.in-Some.ensures in
    λ strict. subst (λ (n : ℕ). Reads strict AtTop c.args.lexer.now c.next_token.new.lexer (AtEmbeds n [])) (sym is.1)
    (top_read strict c.args.lexer.now c.next_token.new.lexer c.in_ok-token.token c.in_ok-token.ensures.next number c.value-value.result c.value-value.ensures is.0.0 is.0.1)

pub value-value-requires-clause-kind : goal.value-value-requires-clause-kind
value-value-requires-clause-kind c = kind_is c.in_ok-token.token.kind tokens.Number c.ne.result c.ne.ensures c.if-ne.false

pub overflow_cast-value : goal.overflow_cast-value
overflow_cast-value c = omega (arith, c.if-value-gt7.false)

pub returns-in_err-token-clause-reads : goal.returns-in_err-token-clause-reads
returns-in_err-token-clause-reads c = unless_ok _ c.from_residual.result c.from_residual.ensures.0

pub returns-then-value-gt7-clause-stops : goal.returns-then-value-gt7-clause-stops
returns-then-value-gt7-clause-stops c =
    let number = kind_is c.in_ok-token.token.kind tokens.Number c.ne.result c.ne.ensures c.if-ne.false in
    λ strict. top_past strict c.args.lexer.now c.next_token.new.lexer c.in_ok-token.token c.in_ok-token.ensures.next number c.value-value.result c.value-value.ensures c.if-value-gt7.true

pub returns-in-None-clause-stops : goal.returns-in-None-clause-stops
returns-in-None-clause-stops c =
    let number = kind_is c.in_ok-token.token.kind tokens.Number c.ne.result c.ne.ensures c.if-ne.false in
    λ strict. top_none strict c.args.lexer.now c.next_token.new.lexer c.in_ok-token.token c.in_ok-token.ensures.next number c.value-value.result c.value-value.ensures c.in-None.ensures c.if-value-gt7.false
