use Rattle.std.proofs.Common.{◌++◌}
use Rattle.std.proofs.lemmas.Result.{on_err_weaker, on_ok_weaker}
use Rattle.gm_model.proofs.Exits.{never_ok, on_err}
use Rattle.gm_text.proofs.Cuts.{cut_at_once, cut_behind, written_behind}
use Rattle.gm_text.proofs.schema_printing.put_between.Goals as goal

pub returns-in_err-put-clause-ok : goal.returns-in_err-put-clause-ok
returns-in_err-put-clause-ok c = never_ok _ c.from_residual.result c.from_residual.ensures.0

pub returns-in_err-put-clause-err : goal.returns-in_err-put-clause-err
returns-in_err-put-clause-err c =
    on_err c.from_residual.result (cut_at_once (c.args.lead.now ++ (c.args.bytes.now ++ c.args.end.now)) c.in_err-put.ensures.err)

pub returns-in_err-put-2-clause-ok : goal.returns-in_err-put-2-clause-ok
returns-in_err-put-2-clause-ok c = never_ok _ c.from_residual-in_err-put-2.result c.from_residual-in_err-put-2.ensures.0

pub returns-in_err-put-2-clause-err : goal.returns-in_err-put-2-clause-err
returns-in_err-put-2-clause-err c =
    let rest = c.args.bytes.now ++ c.args.end.now in
    on_err c.from_residual-in_err-put-2.result
    (cut_behind c.args.out.now c.args.lead.now c.in_ok-put.ensures.ok (cut_at_once rest c.in_err-put-2.ensures.err))

pub returns-clause-ok : goal.returns-clause-ok
returns-clause-ok c =
    let lead = c.args.lead.now in
    let bytes = c.args.bytes.now in
    let end = c.args.end.now in
    on_ok_weaker c.put-3.result
    (λ last. written_behind c.args.out.now lead (bytes ++ end) c.in_ok-put.ensures.ok (written_behind c.put.new.self bytes end c.in_ok-put-2.ensures.ok last))
    c.put-3.ensures.ok

pub returns-clause-err : goal.returns-clause-err
returns-clause-err c =
    let lead = c.args.lead.now in
    let bytes = c.args.bytes.now in
    let end = c.args.end.now in
    on_err_weaker c.put-3.result
    (λ same. cut_behind c.args.out.now lead c.in_ok-put.ensures.ok
    (cut_behind c.put.new.self bytes c.in_ok-put-2.ensures.ok (cut_at_once end same)))
    c.put-3.ensures.err
