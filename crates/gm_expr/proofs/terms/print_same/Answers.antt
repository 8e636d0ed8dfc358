use Rattle.std.proofs.Common.{◌≡◌, ◌++◌, codes}
use Rattle.std.proofs.lemmas.Result.{on_err_weaker, on_ok_weaker}
use Rattle.gm_model.specs.Rules.{rule_of}
use Rattle.gm_expr.specs.ExprText.{term_text}
use Rattle.gm_model.proofs.Exits.{on_err}
use Rattle.gm_text.proofs.Cuts.{cut_at_once, cut_before, cut_behind, written_behind}
use Rattle.gm_expr.proofs.terms.print_same.Goals as goal

pub returns-in_err-put-clause-err : goal.returns-in_err-put-clause-err
returns-in_err-put-clause-err c =
    on_err _ (cut_before (codes ")") (cut_before (term_text (rule_of c.args.rule.now).nodes c.args.right.now) (cut_before (codes ", ") (cut_before (term_text (rule_of c.args.rule.now).nodes c.args.left.now) (cut_at_once (codes "same(") c.in_err-put.ensures.err)))))

pub returns-in_err-print_term-clause-err : goal.returns-in_err-print_term-clause-err
returns-in_err-print_term-clause-err c =
    on_err _ (cut_before (codes ")") (cut_before (term_text (rule_of c.args.rule.now).nodes c.args.right.now) (cut_before (codes ", ") (cut_behind c.args.out.now (codes "same(") c.in_ok-put.ensures.ok c.in_err-print_term.ensures.err))))

pub returns-in_err-put-2-clause-err : goal.returns-in_err-put-2-clause-err
returns-in_err-put-2-clause-err c =
    let so_far_2 = written_behind c.args.out.now (codes "same(") (term_text (rule_of c.args.rule.now).nodes c.args.left.now) c.in_ok-put.ensures.ok c.in_ok-print_term.ensures.ok in
    on_err _ (cut_before (codes ")") (cut_before (term_text (rule_of c.args.rule.now).nodes c.args.right.now) (cut_behind c.args.out.now (codes "same(" ++ term_text (rule_of c.args.rule.now).nodes c.args.left.now) so_far_2 (cut_at_once (codes ", ") c.in_err-put-2.ensures.err))))

pub returns-in_err-print_term-2-clause-err : goal.returns-in_err-print_term-2-clause-err
returns-in_err-print_term-2-clause-err c =
    let so_far_2 = written_behind c.args.out.now (codes "same(") (term_text (rule_of c.args.rule.now).nodes c.args.left.now) c.in_ok-put.ensures.ok c.in_ok-print_term.ensures.ok in
    let so_far_3 = written_behind c.args.out.now (codes "same(" ++ term_text (rule_of c.args.rule.now).nodes c.args.left.now) (codes ", ") so_far_2 c.in_ok-put-2.ensures.ok in
    on_err _ (cut_before (codes ")") (cut_behind c.args.out.now (codes "same(" ++ term_text (rule_of c.args.rule.now).nodes c.args.left.now ++ codes ", ") so_far_3 c.in_err-print_term-2.ensures.err))

pub returns-clause-ok : goal.returns-clause-ok
returns-clause-ok c =
    let so_far_2 = written_behind c.args.out.now (codes "same(") (term_text (rule_of c.args.rule.now).nodes c.args.left.now) c.in_ok-put.ensures.ok c.in_ok-print_term.ensures.ok in
    let so_far_3 = written_behind c.args.out.now (codes "same(" ++ term_text (rule_of c.args.rule.now).nodes c.args.left.now) (codes ", ") so_far_2 c.in_ok-put-2.ensures.ok in
    let so_far_4 = written_behind c.args.out.now (codes "same(" ++ term_text (rule_of c.args.rule.now).nodes c.args.left.now ++ codes ", ") (term_text (rule_of c.args.rule.now).nodes c.args.right.now) so_far_3 c.in_ok-print_term-2.ensures.ok in
    on_ok_weaker c.put-3.result
    (λ (more : c.put-3.new.self ≡ c.print_term-2.new.out ++ (codes ")")). written_behind c.args.out.now (codes "same(" ++ term_text (rule_of c.args.rule.now).nodes c.args.left.now ++ codes ", " ++ term_text (rule_of c.args.rule.now).nodes c.args.right.now) (codes ")") so_far_4 more)
    c.put-3.ensures.ok

pub returns-clause-err : goal.returns-clause-err
returns-clause-err c =
    let so_far_2 = written_behind c.args.out.now (codes "same(") (term_text (rule_of c.args.rule.now).nodes c.args.left.now) c.in_ok-put.ensures.ok c.in_ok-print_term.ensures.ok in
    let so_far_3 = written_behind c.args.out.now (codes "same(" ++ term_text (rule_of c.args.rule.now).nodes c.args.left.now) (codes ", ") so_far_2 c.in_ok-put-2.ensures.ok in
    let so_far_4 = written_behind c.args.out.now (codes "same(" ++ term_text (rule_of c.args.rule.now).nodes c.args.left.now ++ codes ", ") (term_text (rule_of c.args.rule.now).nodes c.args.right.now) so_far_3 c.in_ok-print_term-2.ensures.ok in
    on_err_weaker c.put-3.result
    (λ (same : c.put-3.new.self ≡ c.print_term-2.new.out). cut_behind c.args.out.now (codes "same(" ++ term_text (rule_of c.args.rule.now).nodes c.args.left.now ++ codes ", " ++ term_text (rule_of c.args.rule.now).nodes c.args.right.now) so_far_4 (cut_at_once (codes ")") same))
    c.put-3.ensures.err
