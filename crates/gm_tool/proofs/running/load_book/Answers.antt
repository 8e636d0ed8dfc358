use Rattle.std.proofs.Common.{refl}
use Rattle.std.proofs.lemmas.Result.{err_from_is_err_and}
use Rattle.gm_lines.specs.Refusing.{TheBook}
use Rattle.gm_tool.specs.RunAnswer.{IsBadBookText}
use Rattle.gm_tool.specs.inner.Stops.{IsReadBook}
use Rattle.gm_tool.specs.declared.refusal.Role.TheVariants as roles
use Rattle.gm_tool.proofs.Stopping.{not_loaded_from, read_from, some_bytes}
use Rattle.gm_tool.proofs.running.load_book.Goals as goal

pub returns-in_err-bytes-clause-from : goal.returns-in_err-bytes-clause-from
returns-in_err-bytes-clause-from g c =
    let p = err_from_is_err_and c.from_residual.result c.from_residual.ensures.1 in
    rw (p.1, p.2)
    (not_loaded_from TheBook c.args.name.now IsReadBook IsBadBookText _ (g.S.Store.holds c.args.store.now) roles.Book refl c.in_err-bytes.field-0.0 c.in_err-bytes.ensures.loading)

pub returns-clause-read : goal.returns-clause-read
returns-clause-read g c = some_bytes IsReadBook c.read.result c.as_slice.result.now c.read.ensures.book

pub returns-clause-from : goal.returns-clause-from
returns-clause-from g c =
    read_from TheBook c.args.name.now IsReadBook IsBadBookText _ (g.S.Store.holds c.args.store.now) c.in_ok-bytes.bytes.items c.read.result c.in_ok-bytes.ensures.loading
    (rw c.as_slice.ensures.value at c.read.ensures.book) (rw c.as_slice.ensures.value at c.read.ensures.stop)

pub returns-in_err-bytes-clause-read : goal.returns-in_err-bytes-clause-read
returns-in_err-bytes-clause-read g c = rw (err_from_is_err_and c.from_residual.result c.from_residual.ensures.1).1 tt

pub returns-in_err-bytes-clause-declared : goal.returns-in_err-bytes-clause-declared
returns-in_err-bytes-clause-declared g c = rw (err_from_is_err_and c.from_residual.result c.from_residual.ensures.1).1 tt
