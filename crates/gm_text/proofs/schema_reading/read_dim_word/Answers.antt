use Rattle.std.proofs.Common.{◌≡◌, ◌≢◌, true, false, refl, sym, ap, ◌∙◌, codes}
use Rattle.std.proofs.lemmas.Result.{err_from_is_err_and}
use Rattle.gm_model.specs.Symbols.{Word}
use Rattle.gm_text.specs.inner.SchemaReading.{AtDim, AtTop, move}
use Rattle.gm_text.specs.inner.SchemaAnswers.{symbol_at}
use Rattle.gm_text.proofs.SchemaMoves.{no_dim, fixed_free}
use Rattle.gm_text.proofs.SchemaSteps.{reads_token, stops_none, stops_token}
use Rattle.gm_text.proofs.schema_reading.read_dim_word.Goals as goal

pub returns-in_err-token-clause-stops : goal.returns-in_err-token-clause-stops
returns-in_err-token-clause-stops c =
    let p = err_from_is_err_and c.from_residual.result c.from_residual.ensures.1 in
    rw (p.1, p.2) (λ strict. stops_none strict AtDim c.args.lexer.now _ refl c.in_err-token.ensures.none)

pub returns-then-not-reads_word-clause-stops : goal.returns-then-not-reads_word-clause-stops
returns-then-not-reads_word-clause-stops c =
    let other : symbol_at c.next_token.new.lexer.text c.in_ok-token.token ≢ Word (codes "dim") = λ e. let both : true ≡ false = sym (c.reads_word.ensures.1 e) ∙ c.if-not-reads_word.true in absurd cc in
    λ strict. stops_token strict AtDim c.args.lexer.now c.next_token.new.lexer c.in_ok-token.token refl c.in_ok-token.ensures.next (no_dim _ other)

pub returns-clause-reads : goal.returns-clause-reads
returns-clause-reads c =
    let is : symbol_at c.next_token.new.lexer.text c.in_ok-token.token ≡ Word (codes "dim") = c.reads_word.ensures.0 c.if-not-reads_word.false in
    λ strict. reads_token strict AtDim AtTop c.args.lexer.now c.next_token.new.lexer c.in_ok-token.token c.in_ok-token.ensures.next (ap (move AtDim) is) (fixed_free strict _)
