use Rattle.std.proofs.Common.{subst, sym}
use Rattle.std.proofs.lemmas.Result.{err_from_is_err_and}
use Rattle.gm_run.specs.inner.Lines.{Tells}
use Rattle.gm_tool.proofs.ArenaMaps.{fitted_bytes}
use Rattle.gm_tool.proofs.Lines.{fitted_printed}
use Rattle.gm_tool.proofs.running.printed.Goals as goal

pub returns-in_err-text-clause-texts : goal.returns-in_err-text-clause-texts
returns-in_err-text-clause-texts g c told tells =
    let p = err_from_is_err_and c.from_residual-in_err-text.result c.from_residual-in_err-text.ensures.1 in
    rw (p.1, p.2) tt

pub returns-in_err-map-clause-texts : goal.returns-in_err-map-clause-texts
returns-in_err-map-clause-texts g c told tells =
    let p = err_from_is_err_and c.from_residual.result c.from_residual.ensures.1 in
    rw (p.1, p.2) tt

pub returns-clause-texts : goal.returns-clause-texts
returns-clause-texts g c told tells =
    fitted_printed _ _ _ c.within_limit.result
    (rw (c.status_of-status.ensures told (subst (λ lines. Tells lines told) (sym c.as_slice.ensures) tells), c.in_ok-text.ensures told tells, c.in_ok-map.ensures.text) at c.within_limit.ensures)

pub returns-in_err-text-clause-map : goal.returns-in_err-text-clause-map
returns-in_err-text-clause-map g c = rw (err_from_is_err_and c.from_residual-in_err-text.result c.from_residual-in_err-text.ensures.1).1 tt

pub returns-in_err-map-clause-map : goal.returns-in_err-map-clause-map
returns-in_err-map-clause-map g c = rw (err_from_is_err_and c.from_residual.result c.from_residual.ensures.1).1 tt

pub returns-clause-map : goal.returns-clause-map
returns-clause-map g c = fitted_bytes c.args.loaded.map.version c.args.loaded.map.arena _ _ c.in_ok-map.map.items c.within_limit.result c.within_limit.ensures c.in_ok-map.ensures.text c.in_ok-map.ensures.stands
