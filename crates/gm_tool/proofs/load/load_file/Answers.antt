use Rattle.gm_tool.proofs.Asking.{no_file_is}
use Rattle.gm_tool.proofs.load.load_file.Goals as goal

pub returns-in-Err-clause-loading : goal.returns-in-Err-clause-loading
returns-in-Err-clause-loading g c =
    rw c.no_file.ensures (no_file_is (g.S.Store.holds c.args.store.now) c.args.name.now c.args.role _ c.in-Err.fault c.in-Err.ensures.absent c.in-Err.ensures.failed c.in-Err.ensures.seen_held)
