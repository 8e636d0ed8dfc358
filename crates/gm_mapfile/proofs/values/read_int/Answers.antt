use Rattle.std.proofs.Common.{rules, ◌≡◌, to_z, of_z}
use Rattle.std.specs.Int.{w64}
use Rattle.std.proofs.lemmas.Result.{err_from_is_err_and}
use Rattle.gm_model.proofs.Exits.{unless_ok}
use Rattle.gm_mapfile.proofs.values.read_int.Goals as goal

pub returns-in_err-number-clause-misses : goal.returns-in_err-number-clause-misses
returns-in_err-number-clause-misses c =
    let p = err_from_is_err_and c.from_residual.result c.from_residual.ensures.1 in
    rw (p.1, p.2) c.in_err-number.ensures.misses

pub returns-clause-takes : goal.returns-clause-takes
returns-clause-takes c =
    let back : to_z w64 (of_z w64 c.in_ok-number.number) ≡ c.in_ok-number.number = search rules in
    rw back c.in_ok-number.ensures.takes

pub returns-in_err-number-clause-takes : goal.returns-in_err-number-clause-takes
returns-in_err-number-clause-takes c = unless_ok _ c.from_residual.result c.from_residual.ensures.0

pub returns-in_err-number-clause-kind : goal.returns-in_err-number-clause-kind
returns-in_err-number-clause-kind c = unless_ok _ c.from_residual.result c.from_residual.ensures.0
