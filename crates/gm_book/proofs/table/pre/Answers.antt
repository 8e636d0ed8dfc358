use Rattle.std.proofs.Common.{Option, Some, None, refl, sym, subst}
use Rattle.std.specs.Option.{option_map}
use Rattle.gm_model.proofs.Exits.{unless_ok}
use Rattle.gm_model.specs.Trees.{tree_of}
use Rattle.gm_tree.specs.inner.FirstNames.{first_names}
use Rattle.gm_forms.specs.declared.form.Span.{Span}
use Rattle.gm_forms.specs.BookText.{IsPre}
use Rattle.gm_forms.specs.inner.Forms.{IsPreIn, value_of}
use Rattle.gm_book.specs.inner.Building.{IsSoundPre}
use Rattle.gm_book.specs.inner.FirstNameFault.{IsPreFault}
use Rattle.gm_book.proofs.Checked.{least_at, ok_at}
use Rattle.gm_book.proofs.table.pre.Goals as goal

pub checked_value-requires-clause-within : goal.checked_value-requires-clause-within
checked_value-requires-clause-within c = subst (IsPreIn c.args.text.now) c.in-Some.is c.requires.within

pub checked_value-requires-clause-expr : goal.checked_value-requires-clause-expr
checked_value-requires-clause-expr c =
    subst (λ (form : Option Span). IsPre c.args.env.now.schema.now.dim (option_map (value_of c.args.text.now) form)) c.in-Some.is c.requires.expr

pub returns-in_err-expr-in-Some : goal.returns-in_err-expr-in-Some
returns-in_err-expr-in-Some c = unless_ok _ c.from_residual.result c.from_residual.ensures.0

pub returns-in-Ok : goal.returns-in-Ok
returns-in-Ok c =
    let env = c.args.env.now in
    let names = first_names env.schema.now env.params.now env.nodes.now in
    let value = ok_at _ c.in_ok-expr-in-Some.field-0 c.in-Ok.expr c.in-Ok.is c.in_ok-expr-in-Some.ensures.expr in
    let least = least_at _ c.in_ok-expr-in-Some.field-0 _ c.in-Ok.is c.in_ok-expr-in-Some.ensures.fault in
    subst (λ (form : Option Span). IsSoundPre env.schema.now.dim env.schema.now.embeds env.params.now names (option_map (value_of c.args.text.now) form) (Some (tree_of c.in-Ok.expr))) (sym c.in-Some.is)
    (record { means = (tree_of c.in-Ok.expr, refl, record { form = value.form; value = value.value; means = value.means }); sound = least })

pub returns-in-Err : goal.returns-in-Err
returns-in-Err c =
    let env = c.args.env.now in
    let names = first_names env.schema.now env.params.now env.nodes.now in
    let least = least_at _ c.in_ok-expr-in-Some.field-0 _ c.in-Err.is c.in_ok-expr-in-Some.ensures.fault in
    subst (λ (form : Option Span). IsPreFault env.schema.now.dim env.schema.now.embeds env.params.now names (option_map (value_of c.args.text.now) form) c.in-Err.fault) (sym c.in-Some.is) least.0

pub returns-in-None : goal.returns-in-None
returns-in-None c =
    let env = c.args.env.now in
    let names = first_names env.schema.now env.params.now env.nodes.now in
    subst (λ (form : Option Span). IsSoundPre env.schema.now.dim env.schema.now.embeds env.params.now names (option_map (value_of c.args.text.now) form) None) (sym c.in-None.is)
    (record { means = refl; sound = λ fault found. found })
