use Rattle.std.proofs.Common.{◌≡◌, ◌≢◌, true, false, refl, sym, ap, subst, ◌∙◌, codes}
use Rattle.gm_model.specs.Symbols.{Word}
use Rattle.gm_text.specs.inner.Cursor.{Cursor}
use Rattle.gm_text.specs.inner.SchemaAnswers.{marks_left, symbol_at, mark_at, IsNext}
use Rattle.gm_text.proofs.SchemaSteps.{embed_next}
use Rattle.gm_text.proofs.schema_reading.embed_word.Goals as goal

pub returns-in_default : goal.returns-in_default
returns-in_default c =
    let next = c.in-Ok.ensures.next in
    let other : symbol_at c.next_token.new.lexer.text c.in-Ok.token ≢ Word (codes "embed") = λ e. let both : true ≡ false = sym (c.reads_word.ensures.1 e) ∙ c.if-reads_word.false in absurd cc in
    (refl, (mark_at c.next_token.new.lexer.text c.in-Ok.token, marks_left c.next_token.new.lexer, ap marks_left (sym c.fork-ahead.ensures) ∙ next.marks, other))

pub returns-in-Ok : goal.returns-in-Ok
returns-in-Ok c =
    let next = subst (λ (cursor : Cursor). IsNext cursor c.in-Ok.token c.next_token.new.lexer) c.fork-ahead.ensures c.in-Ok.ensures.next in
    embed_next c.args.lexer.now c.next_token.new.lexer c.in-Ok.token next (c.reads_word.ensures.0 c.if-reads_word.true)
