use Rattle.std.proofs.Common.{sym, subst}
use Rattle.std.proofs.lemmas.Result.{IfOk-weaker, IfErr-weaker}
use Rattle.gm_model.specs.declared.expr.Expr.{Expr}
use Rattle.gm_model.specs.Trees.{tree_of}
use Rattle.gm_text.specs.inner.SchemaAnswers.{marks_left}
use Rattle.gm_parse.specs.inner.Answers.{HasExpr, IsExprRead, IsExprFault}
use Rattle.gm_tree.specs.inner.FirstNames.{first_names}
use Rattle.gm_forms.specs.inner.Forms.{value_of}
use Rattle.gm_book.specs.inner.Values.{IsValueRead, IsReadFault}
use Rattle.gm_book.proofs.ValueTokens.{has_expr, read_is, fault_is}
use Rattle.gm_book.proofs.values.read_value.Goals as goal

pub read_expr-requires : goal.read_expr-requires
read_expr-requires c =
    let n = c.args.env.now.schema.now.dim in
    subst (HasExpr n) (sym c.at-lexer.ensures) (has_expr c.args.text.now c.args.value.now n c.requires.within c.requires.expr)

pub returns-clause-expr : goal.returns-clause-expr
returns-clause-expr c =
    let n = c.args.env.now.schema.now.dim in
    let names = first_names c.args.env.now.schema.now c.args.env.now.params.now c.args.env.now.nodes.now in
    let tokens = value_of c.args.text.now c.args.value.now in
    let old = c.at-lexer.result in
    let new = c.read_expr.new.lexer in
    IfOk-weaker c.read_expr.result (λ (expr : Expr). IsExprRead n names old new (tree_of expr)) (λ (expr : Expr). IsValueRead n names tokens (tree_of expr))
    (λ expr read. read_is c.args.text.now c.args.value.now n names c.requires.within c.requires.expr old c.at-lexer.ensures new (tree_of expr) read) c.read_expr.ensures.expr

pub returns-clause-fault : goal.returns-clause-fault
returns-clause-fault c =
    let n = c.args.env.now.schema.now.dim in
    let names = first_names c.args.env.now.schema.now c.args.env.now.params.now c.args.env.now.nodes.now in
    let tokens = value_of c.args.text.now c.args.value.now in
    let old = c.at-lexer.result in
    IfErr-weaker c.read_expr.result (IsExprFault n names (marks_left old)) (IsReadFault n names tokens)
    (fault_is c.args.text.now c.args.value.now n names c.requires.within c.requires.expr old c.at-lexer.ensures) c.read_expr.ensures.fault
