use Rattle.std.proofs.Common.{subst}
use Rattle.gm_text.specs.inner.Cursor.{Cursor}
use Rattle.gm_text.specs.inner.SchemaAnswers.{IsNext, IsNoneNext}
use Rattle.gm_forms.proofs.ValuesRead.{token_here, none_here}
use Rattle.gm_forms.proofs.exprs.next_place.Goals as goal

pub returns-in-Ok : goal.returns-in-Ok
returns-in-Ok c mark others is =
    let next = subst (λ (cursor : Cursor). IsNext cursor c.in-Ok.token c.token.new.self) c.fork.ensures c.in-Ok.ensures.next in
    token_here c.args.lexer.now c.token.new.self c.in-Ok.token mark others next is

pub returns-in-Err : goal.returns-in-Err
returns-in-Err c mark others is =
    none_here c.args.lexer.now c.in-Err.place mark others (subst (λ (cursor : Cursor). IsNoneNext cursor c.in-Err.place) c.fork.ensures c.in-Err.ensures.none) is
