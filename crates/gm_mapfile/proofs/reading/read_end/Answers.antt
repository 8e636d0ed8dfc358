use Rattle.gm_mapfile.proofs.ValueSteps.{ends_next, token_more, stray_more}
use Rattle.gm_mapfile.proofs.reading.read_end.Goals as goal

pub returns-in-Ok-None-clause-ends : goal.returns-in-Ok-None-clause-ends
returns-in-Ok-None-clause-ends c = ends_next c.args.lexer.now c.next.new.self (rw c.in-Ok-None.field-0-is at c.in-Ok-None.ensures.answer)

pub returns-in-Ok-Some-clause-more : goal.returns-in-Ok-Some-clause-more
returns-in-Ok-Some-clause-more c = token_more c.args.lexer.now c.next.new.self c.in-Ok-Some.token (rw c.in-Ok-Some.field-0-is at c.in-Ok-Some.ensures.answer)

pub returns-in-Err-clause-more : goal.returns-in-Err-clause-more
returns-in-Err-clause-more c = stray_more c.args.lexer.now c.next.new.self c.in-Err.fault c.in-Err.ensures.answer
