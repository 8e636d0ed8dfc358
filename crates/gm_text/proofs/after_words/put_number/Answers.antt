use Rattle.std.proofs.Common.{◌++◌}
use Rattle.std.specs.Prelude.{decimal}
use Rattle.std.proofs.lemmas.Result.{on_err_weaker, on_ok_weaker}
use Rattle.gm_model.proofs.Exits.{never_ok, on_err}
use Rattle.gm_text.proofs.Cuts.{cut_at_once, cut_behind, written_behind}
use Rattle.gm_text.proofs.after_words.put_number.Goals as goal

pub returns-in_err-put-clause-ok : goal.returns-in_err-put-clause-ok
returns-in_err-put-clause-ok c = never_ok _ c.from_residual.result c.from_residual.ensures.0

pub returns-in_err-put-clause-err : goal.returns-in_err-put-clause-err
returns-in_err-put-clause-err c = on_err c.from_residual.result (cut_at_once (c.args.words.now ++ decimal c.args.number) c.in_err-put.ensures.err)

pub returns-clause-ok : goal.returns-clause-ok
returns-clause-ok c =
    on_ok_weaker c.number.result
    (λ last. written_behind c.args.text.now c.args.words.now (decimal c.args.number) c.in_ok-put.ensures.ok last)
    c.number.ensures.ok

pub returns-clause-err : goal.returns-clause-err
returns-clause-err c =
    on_err_weaker c.number.result
    (λ same. cut_behind c.args.text.now c.args.words.now c.in_ok-put.ensures.ok (cut_at_once (decimal c.args.number) same))
    c.number.ensures.err
