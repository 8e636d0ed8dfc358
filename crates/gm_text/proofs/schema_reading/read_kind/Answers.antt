use Rattle.std.proofs.Common.{refl, ap, ◌∙◌}
use Rattle.std.specs.Option.{option_map}
use Rattle.std.proofs.lemmas.Result.{err_from_is_err_and}
use Rattle.gm_model.proofs.Exits.{unless_ok}
use Rattle.gm_text.specs.inner.SchemaReading.{AtKind, with_kind}
use Rattle.gm_text.specs.inner.SchemaAnswers.{symbol_at}
use Rattle.gm_text.proofs.SchemaMoves.{fixed_free}
use Rattle.gm_text.proofs.SchemaSteps.{reads_token, stops_none, stops_token}
use Rattle.gm_text.proofs.schema_reading.read_kind.Goals as goal

pub returns-in_err-token-clause-stops : goal.returns-in_err-token-clause-stops
returns-in_err-token-clause-stops c =
    let p = err_from_is_err_and c.from_residual.result c.from_residual.ensures.1 in
    rw (p.1, p.2) (λ strict n declared name mask. stops_none strict (AtKind n declared name mask) c.args.lexer.now _ refl c.in_err-token.ensures.none)

pub returns-in_err-token-clause-reads : goal.returns-in_err-token-clause-reads
returns-in_err-token-clause-reads c = unless_ok _ c.from_residual.result c.from_residual.ensures.0

pub returns-in_err-token-clause-within : goal.returns-in_err-token-clause-within
returns-in_err-token-clause-within c = unless_ok _ c.from_residual.result c.from_residual.ensures.0

pub returns-in-Some-clause-reads : goal.returns-in-Some-clause-reads
returns-in-Some-clause-reads c =
    let new = c.next_token.new.lexer in
    let token = c.in_ok-token.token in
    λ strict n declared name mask.
    reads_token strict (AtKind n declared name mask) (with_kind n declared name mask c.in-Some.kind) c.args.lexer.now new token c.in_ok-token.ensures.next (c.kind_named.ensures n declared name mask ∙ ap (option_map (with_kind n declared name mask)) c.in-Some.is)
    (fixed_free strict (symbol_at new.text token))

pub returns-in-None-clause-stops : goal.returns-in-None-clause-stops
returns-in-None-clause-stops c =
    λ strict n declared name mask.
    stops_token strict (AtKind n declared name mask) c.args.lexer.now c.next_token.new.lexer c.in_ok-token.token refl c.in_ok-token.ensures.next
    (c.kind_named.ensures n declared name mask ∙ ap (option_map (with_kind n declared name mask)) c.in-None.is)
