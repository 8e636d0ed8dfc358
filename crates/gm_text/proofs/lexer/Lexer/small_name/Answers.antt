use Rattle.std.proofs.Common.{subst}
use Rattle.gm_text.specs.inner.Cursor.{Cursor}
use Rattle.gm_text.specs.inner.SchemaAnswers.{IsNext}
use Rattle.gm_text.proofs.SmallTokens.{name_next}
use Rattle.gm_text.proofs.lexer.Lexer.small_name.Goals as goal

pub returns-clause-next : goal.returns-clause-next
returns-clause-next c =
    let text = c.self.inside.source.now in
    let token = c.in_ok-token.token in
    let told = c.in_ok-token.ensures in
    subst (λ (old : Cursor). IsNext old token (record { text = text; place = token.end })) c.self.view_is
    (name_next text c.self.inside.at token told.behind told.same told.token)
