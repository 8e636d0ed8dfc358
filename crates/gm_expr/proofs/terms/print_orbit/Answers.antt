use Rattle.std.proofs.Common.{◌≡◌, ◌++◌, codes}
use Rattle.std.proofs.lemmas.Result.{on_err_weaker, on_ok_weaker}
use Rattle.gm_text.specs.SchemaText.{labels_in, labels_text}
use Rattle.gm_model.proofs.Exits.{on_err}
use Rattle.gm_text.proofs.Cuts.{cut_at_once, cut_before, cut_behind, written_behind}
use Rattle.gm_expr.proofs.terms.print_orbit.Goals as goal

pub returns-in_err-put-clause-err : goal.returns-in_err-put-clause-err
returns-in_err-put-clause-err c =
    on_err _ (cut_before (codes ">") (cut_before (labels_text (labels_in c.args.mask)) (cut_at_once (codes "<") c.in_err-put.ensures.err)))

pub returns-in_err-print_labels-clause-err : goal.returns-in_err-print_labels-clause-err
returns-in_err-print_labels-clause-err c =
    on_err _ (cut_before (codes ">") (cut_behind c.args.out.now (codes "<") c.in_ok-put.ensures.ok c.in_err-print_labels.ensures.err))

pub returns-clause-ok : goal.returns-clause-ok
returns-clause-ok c =
    let so_far_2 = written_behind c.args.out.now (codes "<") (labels_text (labels_in c.args.mask)) c.in_ok-put.ensures.ok c.in_ok-print_labels.ensures.ok in
    on_ok_weaker c.put-2.result
    (λ (more : c.put-2.new.self ≡ c.print_labels.new.out ++ (codes ">")). written_behind c.args.out.now (codes "<" ++ labels_text (labels_in c.args.mask)) (codes ">") so_far_2 more)
    c.put-2.ensures.ok

pub returns-clause-err : goal.returns-clause-err
returns-clause-err c =
    let so_far_2 = written_behind c.args.out.now (codes "<") (labels_text (labels_in c.args.mask)) c.in_ok-put.ensures.ok c.in_ok-print_labels.ensures.ok in
    on_err_weaker c.put-2.result
    (λ (same : c.put-2.new.self ≡ c.print_labels.new.out). cut_behind c.args.out.now (codes "<" ++ labels_text (labels_in c.args.mask)) so_far_2 (cut_at_once (codes ">") same))
    c.put-2.ensures.err
