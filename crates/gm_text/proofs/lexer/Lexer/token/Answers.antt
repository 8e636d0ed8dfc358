use Rattle.std.proofs.Common.{◌≡◌, None, Ok, Err, length, rules}
use Rattle.gm_text.specs.inner.Lexing.{after}
use Rattle.gm_text.proofs.SchemaTokens.{none_at_end, none_at_stray}
use Rattle.gm_text.proofs.lexer.Lexer.token.Goals as goal

pub returns-in-Ok-None-clause-none : goal.returns-in-Ok-None-clause-none
returns-in-Ok-None-clause-none c =
    let end : length c.self.inside.source.now ≡ length c.args.self.now.text = search rules in
    none_at_end c.args.self.now (after (Ok None) c.args.self.now) _ (rw c.in-Ok-None.field-0-is at c.in-Ok-None.ensures.answer) end

pub returns-in-Err-clause-none : goal.returns-in-Err-clause-none
returns-in-Err-clause-none c = none_at_stray c.args.self.now (after (Err c.in-Err.fault) c.args.self.now) c.in-Err.fault c.in-Err.ensures.answer
