use Rattle.std.proofs.Common.{subst, ◌+◌}
use Rattle.gm_text.specs.inner.Cursor.{Cursor}
use Rattle.gm_text.specs.inner.Lexing.{IsSignRead}
use Rattle.gm_text.proofs.SmallTokens.{sign_read}
use Rattle.gm_text.proofs.lexer.Lexer.small_sign.Goals as goal

pub returns-then-self-start-clause-read : goal.returns-then-self-start-clause-read
returns-then-self-start-clause-read c _ =
    let text = c.self.inside.source.now in
    let place = c.behind_blank-start.result in
    subst (λ (old : Cursor). IsSignRead c.args.sign old (record { text = text; place = place + 1 })) c.self.view_is
    (sign_read text c.self.inside.at place c.args.sign c.behind_blank-start.ensures.same c.if-start-self.true c.if-self-start.true c.requires.sign c.requires.alone)
