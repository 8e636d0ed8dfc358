use Rattle.std.proofs.Common.{◌≡◌, ◌≢◌, true, false, refl, sym, ap, ◌∙◌, codes}
use Rattle.std.proofs.lemmas.Result.{err_from_is_err_and}
use Rattle.gm_model.specs.Symbols.{Sign}
use Rattle.gm_text.specs.SchemaText.{no_labels}
use Rattle.gm_text.specs.inner.SchemaReading.{AtOrbit, AtLabel, move}
use Rattle.gm_text.specs.inner.SchemaAnswers.{symbol_at}
use Rattle.gm_text.proofs.SchemaMoves.{no_open, fixed_free}
use Rattle.gm_text.proofs.SchemaSteps.{reads_token, stops_none, stops_token}
use Rattle.gm_text.proofs.schema_reading.open_orbit.Goals as goal

pub returns-in_err-token-clause-stops : goal.returns-in_err-token-clause-stops
returns-in_err-token-clause-stops c =
    let p = err_from_is_err_and c.from_residual.result c.from_residual.ensures.1 in
    rw (p.1, p.2) (λ strict n declared name. stops_none strict (AtOrbit n declared name) c.args.lexer.now _ refl c.in_err-token.ensures.none)

pub returns-then-not-reads_sign-clause-stops : goal.returns-then-not-reads_sign-clause-stops
returns-then-not-reads_sign-clause-stops c =
    let other : symbol_at c.next_token.new.lexer.text c.in_ok-token.token ≢ Sign (codes "<") = λ e. let both : true ≡ false = sym (c.reads_sign.ensures.1 e) ∙ c.if-not-reads_sign.true in absurd cc in
    λ strict n declared name. stops_token strict (AtOrbit n declared name) c.args.lexer.now c.next_token.new.lexer c.in_ok-token.token refl c.in_ok-token.ensures.next (no_open n declared name _ other)

pub returns-clause-reads : goal.returns-clause-reads
returns-clause-reads c =
    let is : symbol_at c.next_token.new.lexer.text c.in_ok-token.token ≡ Sign (codes "<") = c.reads_sign.ensures.0 c.if-not-reads_sign.false in
    λ strict n declared name.
    reads_token strict (AtOrbit n declared name) (AtLabel n declared name no_labels) c.args.lexer.now c.next_token.new.lexer c.in_ok-token.token c.in_ok-token.ensures.next (ap (move (AtOrbit n declared name)) is) (fixed_free strict _)
