use Rattle.std.proofs.Common.{◌++◌, take}
use Rattle.gm_host.proofs.Saving.{Appends-append, Appends-kept, written_in_part, split_on, on_any_error}
use Rattle.gm_host.proofs.whole.write_whole.Goals as goal

pub loop-rest-preserved : goal.loop-rest-preserved
loop-rest-preserved g c =
    let (done, split, appended) = c.loop-rest.invariant in
    (done ++ take c.in_ok-count.count c.loop-rest.rest.now, split_on _ done _ c.in_ok-count.count split, Appends-append _ _ _ _ _ appended c.in_ok-count.ensures.bytes)

pub returns-in-0-clause-first_bytes : goal.returns-in-0-clause-first_bytes
returns-in-0-clause-first_bytes g c =
    let (done, split, appended) = c.loop-rest.invariant in
    written_in_part _ _ (done ++ take c.in_ok-count.count c.loop-rest.rest.now) _ _ (split_on _ done _ c.in_ok-count.count split) (Appends-append _ _ _ _ _ appended c.in_ok-count.ensures.bytes)

pub returns-in_err-count-clause-first_bytes : goal.returns-in_err-count-clause-first_bytes
returns-in_err-count-clause-first_bytes g c =
    let (done, split, appended) = c.loop-rest.invariant in
    on_any_error c.from_residual.result (written_in_part _ _ done _ _ split (Appends-kept _ _ _ _ appended c.in_err-count.ensures.bytes))
