use Rattle.std.proofs.Common.{◌≡◌, ◌++◌, codes}
use Rattle.std.proofs.lemmas.Result.{on_err_weaker, on_ok_weaker}
use Rattle.gm_model.specs.Rules.{rule_of}
use Rattle.gm_expr.specs.ExprText.{embed_name, term_text}
use Rattle.gm_model.proofs.Exits.{on_err}
use Rattle.gm_text.proofs.Cuts.{cut_at_once, cut_before, cut_behind, written_behind}
use Rattle.gm_expr.proofs.terms.print_field.Goals as goal

pub returns-in_err-print_term-clause-err : goal.returns-in_err-print_term-clause-err
returns-in_err-print_term-clause-err c =
    on_err _ (cut_before (embed_name c.args.schema.now.embeds c.args.embed) (cut_before (codes ".") c.in_err-print_term.ensures.err))

pub returns-in_err-put-clause-err : goal.returns-in_err-put-clause-err
returns-in_err-put-clause-err c =
    on_err _ (cut_before (embed_name c.args.schema.now.embeds c.args.embed) (cut_behind c.args.out.now (term_text (rule_of c.args.rule.now).nodes c.args.term.now) c.in_ok-print_term.ensures.ok (cut_at_once (codes ".") c.in_err-put.ensures.err)))

pub returns-clause-ok : goal.returns-clause-ok
returns-clause-ok c =
    let so_far_2 = written_behind c.args.out.now (term_text (rule_of c.args.rule.now).nodes c.args.term.now) (codes ".") c.in_ok-print_term.ensures.ok c.in_ok-put.ensures.ok in
    on_ok_weaker c.print_embed_name.result
    (λ (more : c.print_embed_name.new.out ≡ c.put.new.self ++ (embed_name c.args.schema.now.embeds c.args.embed)). written_behind c.args.out.now (term_text (rule_of c.args.rule.now).nodes c.args.term.now ++ codes ".") (embed_name c.args.schema.now.embeds c.args.embed) so_far_2 more)
    c.print_embed_name.ensures.ok

pub returns-clause-err : goal.returns-clause-err
returns-clause-err c =
    let so_far_2 = written_behind c.args.out.now (term_text (rule_of c.args.rule.now).nodes c.args.term.now) (codes ".") c.in_ok-print_term.ensures.ok c.in_ok-put.ensures.ok in
    on_err_weaker c.print_embed_name.result
    (λ (same : c.print_embed_name.new.out ≡ c.put.new.self). cut_behind c.args.out.now (term_text (rule_of c.args.rule.now).nodes c.args.term.now ++ codes ".") so_far_2 (cut_at_once (embed_name c.args.schema.now.embeds c.args.embed) same))
    c.print_embed_name.ensures.err
