use Rattle.std.proofs.Common.{subst}
use Rattle.std.specs.Prelude.{OnErr}
use Rattle.std.proofs.lemmas.Result.{on_err_weaker}
use Rattle.gm_model.specs.Rules.{name_at, rule_of}
use Rattle.gm_text.specs.inner.SchemaPrinting.{IsCut}
use Rattle.gm_expr.specs.ExprText.{path_text}
use Rattle.gm_text.proofs.Cuts.{cut_behind}
use Rattle.gm_expr.proofs.terms.print_term.Goals as goal

pub returns-clause-err : goal.returns-clause-err
returns-clause-err c =
    let path = path_text c.args.term.now.path in
    on_err_weaker c.print_path.result
    (λ (cut : IsCut c.print_node_name.new.out path c.print_path.new.out). cut_behind c.args.out.now (name_at (rule_of c.args.rule.now).nodes c.args.term.now.node) c.in_ok-print_node_name.ensures.ok cut)
    (subst (λ labels. OnErr c.print_path.result (IsCut c.print_node_name.new.out (path_text labels) c.print_path.new.out)) c.as_slice.ensures c.print_path.ensures.err)
