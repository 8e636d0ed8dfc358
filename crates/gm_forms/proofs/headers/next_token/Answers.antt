use Rattle.gm_forms.proofs.Onward.{next_is}
use Rattle.gm_forms.proofs.headers.next_token.Goals as goal

pub returns-in-Ok-clause-next : goal.returns-in-Ok-clause-next
returns-in-Ok-clause-next c = next_is c.args.lexer.now c.next.new.self c.in-Ok.found c.in-Ok.ensures.moved c.in-Ok.ensures.span c.in-Ok.ensures.longest c.in-Ok.ensures.answer
