use Rattle.std.proofs.Common.{ℕ, ◌≤◌, length, subst}
use Rattle.gm_forms.specs.declared.form.Span.{Span}
use Rattle.gm_forms.proofs.ValuesRead.{gone_over, span_in}
use Rattle.gm_model.proofs.Exits.{unless_ok}
use Rattle.gm_forms.proofs.exprs.skip_value.Goals as goal

pub returns-clause-inside : goal.returns-clause-inside
returns-clause-inside c =
    let span : Span = record { start = c.place-start.result; end = c.next_place.result; dim = c.args.dim } in
    span_in c.args.lexer.now c.skip_expr.new.lexer span c.place-start.ensures.value c.next_place.ensures c.in_ok-skip_expr.ensures.expr (subst (λ (p : ℕ). p ≤ length c.args.lexer.now.text) c.place-start.ensures.value c.place-start.ensures.within)

pub returns-clause-over : goal.returns-clause-over
returns-clause-over c =
    let span : Span = record { start = c.place-start.result; end = c.next_place.result; dim = c.args.dim } in
    gone_over c.args.lexer.now c.skip_expr.new.lexer span c.place-start.ensures.value c.next_place.ensures c.in_ok-skip_expr.ensures.runs

pub returns-in_err-skip_expr-clause-inside : goal.returns-in_err-skip_expr-clause-inside
returns-in_err-skip_expr-clause-inside c = unless_ok _ c.from_residual.result c.from_residual.ensures.0

pub returns-in_err-skip_expr-clause-onward : goal.returns-in_err-skip_expr-clause-onward
returns-in_err-skip_expr-clause-onward c = unless_ok _ c.from_residual.result c.from_residual.ensures.0

pub returns-in_err-skip_expr-clause-dim : goal.returns-in_err-skip_expr-clause-dim
returns-in_err-skip_expr-clause-dim c = unless_ok _ c.from_residual.result c.from_residual.ensures.0

pub returns-in_err-skip_expr-clause-over : goal.returns-in_err-skip_expr-clause-over
returns-in_err-skip_expr-clause-over c = unless_ok _ c.from_residual.result c.from_residual.ensures.0
