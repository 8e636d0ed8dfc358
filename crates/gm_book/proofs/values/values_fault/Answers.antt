use Rattle.std.proofs.Common.{◌≡◌, List, map, sym, ap, subst, ◌∙◌}
use Rattle.std.specs.List.{AllByRecursion}
use Rattle.gm_model.specs.Rules.{node_of}
use Rattle.gm_tree.specs.inner.FirstNames.{first_names}
use Rattle.gm_forms.specs.declared.form.Item.{Item}
use Rattle.gm_forms.specs.BookText.{names_for, param_of}
use Rattle.gm_forms.specs.inner.Forms.{IsItemIn, item_of, rule_form_of}
use Rattle.gm_book.specs.inner.FirstNameFault.{IsLeast, IsAssignedFault, IsFaultOfValues}
use Rattle.gm_book.proofs.ValueFaults.{least_of_values}
use Rattle.gm_book.proofs.ValueNames.{names_same}
use Rattle.gm_model.proofs.Exits.{unless_ok}
use Rattle.gm_book.proofs.values.values_fault.Goals as goal

pub returns : goal.returns
returns c =
    let bytes = c.args.text.now in
    let schema = c.args.schema.now in
    let n = schema.dim in
    let embeds = schema.embeds in
    let rule = rule_form_of bytes c.args.rule.now in
    let params = c.as_slice.result.now in
    let nodes = c.as_slice-2.result.now in
    let names = first_names schema params nodes in
    let params_are : params ≡ map param_of rule.params = c.as_slice.ensures.value ∙ c.in_ok-params.ensures.params in
    let nodes_are = ap (map node_of) c.as_slice-2.ensures.value ∙ c.in_ok-params.ensures.nodes in
    let same : names ≡ names_for embeds rule = names_same schema rule params nodes c.requires.schema.count c.requires.fits.params c.requires.fits.nodes params_are nodes_are in
    let sets = subst (λ (items : List Item). IsLeast (IsAssignedFault n embeds params names (map (item_of bytes) items)) c.in_ok-sets.sets) c.as_slice-3.ensures.value c.in_ok-sets.ensures in
    subst (IsLeast (IsFaultOfValues n embeds rule)) (sym c.earlier.ensures) (least_of_values n embeds params names rule params_are same c.in_ok-sets.sets c.in_ok-pre_fault.field-0 sets c.in_ok-pre_fault.ensures)

pub returns-in_err-params : goal.returns-in_err-params
returns-in_err-params c = unless_ok _ c.from_residual.result c.from_residual.ensures.0

pub returns-in_err-sets : goal.returns-in_err-sets
returns-in_err-sets c = unless_ok _ c.from_residual-in_err-sets.result c.from_residual-in_err-sets.ensures.0

pub returns-in_err-pre_fault : goal.returns-in_err-pre_fault
returns-in_err-pre_fault c = unless_ok _ c.from_residual-in_err-pre_fault.result c.from_residual-in_err-pre_fault.ensures.0

pub parts_of-requires : goal.parts_of-requires
parts_of-requires c = c.requires.within

pub items_fault-requires-clause-within : goal.items_fault-requires-clause-within
items_fault-requires-clause-within c = subst (AllByRecursion (IsItemIn c.args.text.now)) (sym c.as_slice-3.ensures.value) c.requires.within.3

pub items_fault-requires-clause-exprs : goal.items_fault-requires-clause-exprs
items_fault-requires-clause-exprs c = rw c.as_slice-3.ensures.value c.requires.exprs.sets

pub pre_fault-requires-clause-within : goal.pre_fault-requires-clause-within
pre_fault-requires-clause-within c = c.requires.within.4

pub pre_fault-requires-clause-expr : goal.pre_fault-requires-clause-expr
pre_fault-requires-clause-expr c = c.requires.exprs.pre
