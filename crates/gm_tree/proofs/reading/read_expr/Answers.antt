use Rattle.std.proofs.Common.{refl, subst}
use Rattle.std.proofs.lemmas.Result.{err_from_is_err_and}
use Rattle.gm_model.specs.Trees.{tree_of}
use Rattle.gm_text.specs.inner.Cursor.{Cursor}
use Rattle.gm_model.proofs.Exits.{on_err, unless_ok}
use Rattle.gm_tree.specs.inner.Building.{work_of}
use Rattle.gm_tree.specs.inner.Built.{IsBuiltOver}
use Rattle.gm_tree.specs.inner.FirstNames.{first_names}
use Rattle.gm_tree.proofs.ReadForms.{expr_is, fault_is, read_unsigned, read_in_range}
use Rattle.gm_tree.proofs.reading.read_expr.Goals as goal

pub returns-in_err-expr-clause-fault : goal.returns-in_err-expr-clause-fault
returns-in_err-expr-clause-fault c =
    let n = c.args.env.now.schema.now.dim in
    let names = first_names c.args.env.now.schema.now c.args.env.now.params.now c.args.env.now.nodes.now in
    let over = subst (λ (cursor : Cursor). IsBuiltOver n names cursor c.build.new.lexer (work_of c.in_ok-built.built.builder c.in_ok-built.built.partial)) c.fork-ahead.ensures c.in_ok-built.ensures.over in
    let p = err_from_is_err_and c.from_residual-in_err-expr.result c.from_residual-in_err-expr.ensures.1 in
    rw (p.1, p.2) (fault_is n names c.in_ok-built.ensures.top c.args.lexer.now c.build.new.lexer (work_of c.in_ok-built.built.builder c.in_ok-built.built.partial) over c.in_err-expr.field-0.0 c.in_err-expr.ensures.fault)

pub returns-clause-expr : goal.returns-clause-expr
returns-clause-expr c =
    let n = c.args.env.now.schema.now.dim in
    let names = first_names c.args.env.now.schema.now c.args.env.now.params.now c.args.env.now.nodes.now in
    let over = subst (λ (cursor : Cursor). IsBuiltOver n names cursor c.build.new.lexer (work_of c.in_ok-built.built.builder c.in_ok-built.built.partial)) c.fork-ahead.ensures c.in_ok-built.ensures.over in
    expr_is n names c.in_ok-built.ensures.top c.args.lexer.now c.build.new.lexer (work_of c.in_ok-built.built.builder c.in_ok-built.built.partial) over (tree_of c.in_ok-expr.expr) c.in_ok-expr.ensures.tree c.in_ok-expr.ensures.known

pub returns-clause-unsigned : goal.returns-clause-unsigned
returns-clause-unsigned c =
    let n = c.args.env.now.schema.now.dim in
    let names = first_names c.args.env.now.schema.now c.args.env.now.params.now c.args.env.now.nodes.now in
    let over = subst (λ (cursor : Cursor). IsBuiltOver n names cursor c.build.new.lexer (work_of c.in_ok-built.built.builder c.in_ok-built.built.partial)) c.fork-ahead.ensures c.in_ok-built.ensures.over in
    read_unsigned n names c.args.lexer.now c.build.new.lexer (tree_of c.in_ok-expr.expr)
    (expr_is n names c.in_ok-built.ensures.top c.args.lexer.now c.build.new.lexer (work_of c.in_ok-built.built.builder c.in_ok-built.built.partial) over (tree_of c.in_ok-expr.expr) c.in_ok-expr.ensures.tree c.in_ok-expr.ensures.known)

pub returns-clause-in_range : goal.returns-clause-in_range
returns-clause-in_range c =
    let schema = c.args.env.now.schema.now in
    let params = c.args.env.now.params.now in
    let nodes = c.args.env.now.nodes.now in
    let names = first_names schema params nodes in
    let over = subst (λ (cursor : Cursor). IsBuiltOver schema.dim names cursor c.build.new.lexer (work_of c.in_ok-built.built.builder c.in_ok-built.built.partial)) c.fork-ahead.ensures c.in_ok-built.ensures.over in
    read_in_range schema params nodes c.args.lexer.now c.build.new.lexer (tree_of c.in_ok-expr.expr)
    (expr_is schema.dim names c.in_ok-built.ensures.top c.args.lexer.now c.build.new.lexer (work_of c.in_ok-built.built.builder c.in_ok-built.built.partial) over (tree_of c.in_ok-expr.expr) c.in_ok-expr.ensures.tree c.in_ok-expr.ensures.known)

pub returns-clause-behind : goal.returns-clause-behind
returns-clause-behind c =
    let n = c.args.env.now.schema.now.dim in
    let names = first_names c.args.env.now.schema.now c.args.env.now.params.now c.args.env.now.nodes.now in
    let over = subst (λ (cursor : Cursor). IsBuiltOver n names cursor c.build.new.lexer (work_of c.in_ok-built.built.builder c.in_ok-built.built.partial)) c.fork-ahead.ensures c.in_ok-built.ensures.over in
    over.behind

pub returns-in_err-built-clause-expr : goal.returns-in_err-built-clause-expr
returns-in_err-built-clause-expr c = unless_ok _ c.from_residual.result c.from_residual.ensures.0

pub returns-in_err-built-clause-behind : goal.returns-in_err-built-clause-behind
returns-in_err-built-clause-behind c = unless_ok _ c.from_residual.result c.from_residual.ensures.0

pub returns-in_err-built-clause-unsigned : goal.returns-in_err-built-clause-unsigned
returns-in_err-built-clause-unsigned c = unless_ok _ c.from_residual.result c.from_residual.ensures.0

pub returns-in_err-built-clause-in_range : goal.returns-in_err-built-clause-in_range
returns-in_err-built-clause-in_range c = unless_ok _ c.from_residual.result c.from_residual.ensures.0

pub returns-in_err-built-clause-text : goal.returns-in_err-built-clause-text
returns-in_err-built-clause-text c = refl

pub returns-in_err-built-clause-refused : goal.returns-in_err-built-clause-refused
returns-in_err-built-clause-refused c = on_err c.from_residual.result refl

pub returns-in_err-expr-clause-expr : goal.returns-in_err-expr-clause-expr
returns-in_err-expr-clause-expr c = unless_ok _ c.from_residual-in_err-expr.result c.from_residual-in_err-expr.ensures.0

pub returns-in_err-expr-clause-behind : goal.returns-in_err-expr-clause-behind
returns-in_err-expr-clause-behind c = unless_ok _ c.from_residual-in_err-expr.result c.from_residual-in_err-expr.ensures.0

pub returns-in_err-expr-clause-unsigned : goal.returns-in_err-expr-clause-unsigned
returns-in_err-expr-clause-unsigned c = unless_ok _ c.from_residual-in_err-expr.result c.from_residual-in_err-expr.ensures.0

pub returns-in_err-expr-clause-in_range : goal.returns-in_err-expr-clause-in_range
returns-in_err-expr-clause-in_range c = unless_ok _ c.from_residual-in_err-expr.result c.from_residual-in_err-expr.ensures.0

pub returns-in_err-expr-clause-text : goal.returns-in_err-expr-clause-text
returns-in_err-expr-clause-text c = refl

pub returns-in_err-expr-clause-refused : goal.returns-in_err-expr-clause-refused
returns-in_err-expr-clause-refused c = on_err c.from_residual-in_err-expr.result refl
