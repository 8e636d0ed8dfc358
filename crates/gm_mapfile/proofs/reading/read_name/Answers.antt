use Rattle.std.proofs.Common.{arith}
use Rattle.std.proofs.lemmas.Result.{err_from_is_err_and}
use Rattle.gm_model.proofs.Exits.{unless_ok}
use Rattle.gm_mapfile.proofs.MapSteps.{name_takes, name_lacks}
use Rattle.gm_mapfile.proofs.reading.read_name.Goals as goal

pub returns-in_err-value-clause-misses : goal.returns-in_err-value-clause-misses
returns-in_err-value-clause-misses c =
    let p = err_from_is_err_and c.from_residual.result c.from_residual.ensures.1 in
    rw (p.1, p.2) (name_lacks c.args.lexer.now c.in_err-value.field-0.0 c.in_err-value.ensures.none)

pub returns-clause-takes : goal.returns-clause-takes
returns-clause-takes c = (name_takes c.args.lexer.now c.in_ok-value.field-0.value c.in_ok-value.field-0.place c.read_number.new.lexer c.in_ok-value.ensures.next (omega (arith, c.if-value-from.false, c.from.ensures)))

pub returns-in_err-value-clause-takes : goal.returns-in_err-value-clause-takes
returns-in_err-value-clause-takes c = unless_ok _ c.from_residual.result c.from_residual.ensures.0
