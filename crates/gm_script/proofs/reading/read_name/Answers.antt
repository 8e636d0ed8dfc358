use Rattle.std.proofs.lemmas.Result.{err_from_is_err_and}
use Rattle.gm_script.proofs.Hooks.{name_read, name_fails}
use Rattle.gm_script.proofs.reading.read_name.Goals as goal

pub returns-in_err-take_name-clause-err : goal.returns-in_err-take_name-clause-err
returns-in_err-take_name-clause-err c =
    let p = err_from_is_err_and c.from_residual.result c.from_residual.ensures.1 in
    rw (p.1, p.2) (name_fails c.in-Some.token c.args.reader.now c.args.lexer.now c.next_name.new.lexer c.in-Some.ensures.seen c.in_err-take_name.field-0.0 c.in_err-take_name.ensures.taken)

pub returns-in_ok-take_name-clause-ok : goal.returns-in_ok-take_name-clause-ok
returns-in_ok-take_name-clause-ok c =
    name_read c.in-Some.token c.args.reader.now c.args.lexer.now c.next_name.new.lexer c.in-Some.ensures.seen c.take_name.new.self c.in_ok-take_name.ensures.name c.in_ok-take_name.ensures.taken
