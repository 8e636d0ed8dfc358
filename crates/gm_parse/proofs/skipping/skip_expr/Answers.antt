use Rattle.std.proofs.Common.{subst}
use Rattle.std.proofs.lemmas.Result.{err_from_is_err_and}
use Rattle.gm_text.specs.inner.Cursor.{Cursor}
use Rattle.gm_parse.specs.inner.Reading.{first_spot}
use Rattle.gm_parse.specs.inner.Answers.{SkipsExpr, Stops}
use Rattle.gm_parse.proofs.Steps.{skip_stands, skip_fault, whole_behind}
use Rattle.gm_parse.proofs.skipping.skip_expr.Goals as goal

pub returns-in_err-skip_ahead-clause-fault : goal.returns-in_err-skip_ahead-clause-fault
returns-in_err-skip_ahead-clause-fault c =
    let p = err_from_is_err_and c.from_residual.result c.from_residual.ensures.1 in
    let stops = subst (λ (cursor : Cursor). Stops c.args.dim first_spot cursor c.in_err-skip_ahead.field-0.0) c.fork-ahead.ensures c.in_err-skip_ahead.ensures.stops in
    rw (p.1, p.2) (skip_fault c.args.dim c.args.lexer.now c.in_err-skip_ahead.field-0.0 stops)

pub returns-clause-expr : goal.returns-clause-expr
returns-clause-expr c = skip_stands c.args.dim c.args.lexer.now c.skip_ahead.new.lexer (subst (λ (cursor : Cursor). SkipsExpr c.args.dim cursor c.skip_ahead.new.lexer) c.fork-ahead.ensures c.in_ok-skip_ahead.ensures.runs)

pub returns-clause-behind : goal.returns-clause-behind
returns-clause-behind c =
    let skips = subst (λ (cursor : Cursor). SkipsExpr c.args.dim cursor c.skip_ahead.new.lexer) c.fork-ahead.ensures c.in_ok-skip_ahead.ensures.runs in
    whole_behind c.args.dim skips.last c.args.lexer.now c.skip_ahead.new.lexer skips.whole skips.reads
