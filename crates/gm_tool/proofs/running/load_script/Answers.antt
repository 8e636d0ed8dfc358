use Rattle.std.proofs.Common.{refl, map}
use Rattle.std.proofs.lemmas.Result.{err_from_is_err_and}
use Rattle.gm_model.specs.Rules.{rule_of}
use Rattle.gm_lines.specs.Refusing.{TheScript}
use Rattle.gm_tool.specs.RunAnswer.{IsBadScript}
use Rattle.gm_tool.specs.inner.Stops.{IsReadScript}
use Rattle.gm_tool.specs.declared.refusal.Role.TheVariants as roles
use Rattle.gm_tool.proofs.Stopping.{not_loaded_from, read_from, some_bytes}
use Rattle.gm_tool.proofs.running.load_script.Goals as goal

pub read-requires : goal.read-requires
read-requires g c = c.requires

pub returns-in_err-bytes-clause-from : goal.returns-in_err-bytes-clause-from
returns-in_err-bytes-clause-from g c =
    let p = err_from_is_err_and c.from_residual.result c.from_residual.ensures.1 in
    rw (p.1, p.2)
    (not_loaded_from TheScript c.args.name.now (IsReadScript c.args.book.now.schema.dim (map rule_of c.args.book.now.rules)) (IsBadScript c.args.book.now.schema.dim (map rule_of c.args.book.now.rules)) _ (g.S.Store.holds c.args.store.now) roles.Script refl c.in_err-bytes.field-0.0 c.in_err-bytes.ensures.loading)

pub returns-clause-read : goal.returns-clause-read
returns-clause-read g c = some_bytes (IsReadScript c.args.book.now.schema.dim (map rule_of c.args.book.now.rules)) c.read.result c.as_slice.result.now c.read.ensures.script

pub returns-clause-from : goal.returns-clause-from
returns-clause-from g c =
    read_from TheScript c.args.name.now (IsReadScript c.args.book.now.schema.dim (map rule_of c.args.book.now.rules)) (IsBadScript c.args.book.now.schema.dim (map rule_of c.args.book.now.rules)) _ (g.S.Store.holds c.args.store.now) c.in_ok-bytes.bytes.items c.read.result c.in_ok-bytes.ensures.loading
    (rw c.as_slice.ensures.value at c.read.ensures.script) (rw c.as_slice.ensures.value at c.read.ensures.stop)

pub returns-in_err-bytes-clause-read : goal.returns-in_err-bytes-clause-read
returns-in_err-bytes-clause-read g c = rw (err_from_is_err_and c.from_residual.result c.from_residual.ensures.1).1 tt
