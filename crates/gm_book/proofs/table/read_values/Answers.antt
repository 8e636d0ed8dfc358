use Rattle.std.proofs.Common.{◌≡◌, ℕ, List, [], map, sym, ap, subst, ◌∙◌}
use Rattle.std.specs.List.{AllByRecursion}
use Rattle.std.specs.Option.{option_map}
use Rattle.gm_model.specs.declared.rule.Node.{Node}
use Rattle.gm_model.specs.declared.rule.Param.{Param}
use Rattle.gm_model.specs.declared.schema.Schema.{Schema}
use Rattle.gm_model.specs.Maps.{IsSchema}
use Rattle.gm_model.specs.Rules.{node_of}
use Rattle.gm_model.specs.Trees.{tree_of}
use Rattle.gm_parse.specs.Meaning.{Names}
use Rattle.gm_tree.specs.inner.FirstNames.{first_names}
use Rattle.gm_forms.specs.BookText.{RuleForm, names_for, param_of, nodes_of, node_in}
use Rattle.gm_forms.specs.inner.Forms.{rule_form_of}
use Rattle.gm_forms.specs.inner.Held.{names_at}
use Rattle.gm_book.specs.inner.Building.{HasKnownSets}
use Rattle.gm_book.specs.inner.Fitting.{IsFitting}
use Rattle.gm_book.proofs.Checked.{at_ok, at_err, embed_there, values_of, set_fault_in, pre_fault_in}
use Rattle.gm_book.proofs.ReadSets.{all_known}
use Rattle.gm_book.proofs.ValueNames.{names_same}
use Rattle.gm_model.proofs.Exits.{unless_ok}
use Rattle.gm_book.proofs.table.read_values.Goals as goal

-- the names of what was lent are those of the form
module _ (schema : Schema) (form : RuleForm) (good : IsSchema schema) (fits : IsFitting schema.dim form) where
  names_are : (params : List Param) (nodes made : List Node) (keys : List (List ℕ)) → params ≡ map param_of form.params → nodes ≡ made → map node_of made ≡ map (node_in form (λ node. [])) keys → keys ≡ nodes_of form → first_names schema params nodes ≡ names_for schema.embeds form
  names_are params nodes made keys declared lent is numbered = names_same schema form params nodes good.count fits.params fits.nodes declared (ap (map node_of) lent ∙ is ∙ ap (map (node_in form (λ node. []))) numbered)

pub assigned-requires-clause-known : goal.assigned-requires-clause-known
assigned-requires-clause-known c =
    let schema = c.args.schema.now in
    let form = rule_form_of c.args.text.now c.args.rule.now in
    let declared : c.as_slice.result.now ≡ map param_of form.params = c.as_slice.ensures.value ∙ c.in_ok-params.ensures.params in
    let same = names_are schema form c.requires.schema c.requires.fits c.as_slice.result.now c.as_slice-2.result.now c.in_ok-params.field-0.nodes.items (names_at c.args.names.now) declared c.as_slice-2.ensures.value c.in_ok-params.ensures.nodes c.requires.numbered in
    subst (λ (ns : Names). AllByRecursion (HasKnownSets schema.dim ns) form.right) (sym same) (all_known schema.dim schema.embeds form (embed_there schema.dim schema.embeds form c.requires.sound) c.requires.exprs)

pub returns-in-Ok-2-clause-values : goal.returns-in-Ok-2-clause-values
returns-in-Ok-2-clause-values c =
    let schema = c.args.schema.now in
    let form = rule_form_of c.args.text.now c.args.rule.now in
    let params = c.as_slice.result.now in
    let declared : params ≡ map param_of form.params = c.as_slice.ensures.value ∙ c.in_ok-params.ensures.params in
    let same = names_are schema form c.requires.schema c.requires.fits params c.as_slice-2.result.now c.in_ok-params.field-0.nodes.items (names_at c.args.names.now) declared c.as_slice-2.ensures.value c.in_ok-params.ensures.nodes c.requires.numbered in
    values_of schema.dim schema.embeds form params (first_names schema params c.as_slice-2.result.now) declared same (names_at c.args.names.now) (map node_of c.in-Ok.assigned.items) (option_map tree_of c.in-Ok-2.pre) c.requires.numbered
    (at_ok _ _ c.in_ok-assigned.field-0 c.in-Ok.assigned c.in-Ok.is c.in_ok-assigned.ensures) (at_ok _ _ c.in_ok-pre-in-Ok.field-0 c.in-Ok-2.pre c.in-Ok-2.is c.in_ok-pre-in-Ok.ensures)

pub returns-in-Err-2-clause-values : goal.returns-in-Err-2-clause-values
returns-in-Err-2-clause-values c =
    let schema = c.args.schema.now in
    let form = rule_form_of c.args.text.now c.args.rule.now in
    let params = c.as_slice.result.now in
    let declared : params ≡ map param_of form.params = c.as_slice.ensures.value ∙ c.in_ok-params.ensures.params in
    let same = names_are schema form c.requires.schema c.requires.fits params c.as_slice-2.result.now c.in_ok-params.field-0.nodes.items (names_at c.args.names.now) declared c.as_slice-2.ensures.value c.in_ok-params.ensures.nodes c.requires.numbered in
    pre_fault_in schema.dim schema.embeds form params (first_names schema params c.as_slice-2.result.now) declared same c.in-Err-2.fault (at_err _ _ c.in_ok-pre-in-Ok.field-0 c.in-Err-2.fault c.in-Err-2.is c.in_ok-pre-in-Ok.ensures)

pub returns-in-Err-clause-values : goal.returns-in-Err-clause-values
returns-in-Err-clause-values c =
    let schema = c.args.schema.now in
    let form = rule_form_of c.args.text.now c.args.rule.now in
    let params = c.as_slice.result.now in
    let declared : params ≡ map param_of form.params = c.as_slice.ensures.value ∙ c.in_ok-params.ensures.params in
    let same = names_are schema form c.requires.schema c.requires.fits params c.as_slice-2.result.now c.in_ok-params.field-0.nodes.items (names_at c.args.names.now) declared c.as_slice-2.ensures.value c.in_ok-params.ensures.nodes c.requires.numbered in
    set_fault_in schema.dim schema.embeds form params (first_names schema params c.as_slice-2.result.now) declared same c.in-Err.fault (at_err _ _ c.in_ok-assigned.field-0 c.in-Err.fault c.in-Err.is c.in_ok-assigned.ensures)

pub returns-in_err-params-clause-params : goal.returns-in_err-params-clause-params
returns-in_err-params-clause-params c = unless_ok _ c.from_residual.result c.from_residual.ensures.0

pub returns-in_err-params-clause-values : goal.returns-in_err-params-clause-values
returns-in_err-params-clause-values c = unless_ok _ c.from_residual.result c.from_residual.ensures.0

pub returns-in_err-assigned-clause-params : goal.returns-in_err-assigned-clause-params
returns-in_err-assigned-clause-params c = unless_ok _ c.from_residual-in_err-assigned.result c.from_residual-in_err-assigned.ensures.0

pub returns-in_err-assigned-clause-values : goal.returns-in_err-assigned-clause-values
returns-in_err-assigned-clause-values c = unless_ok _ c.from_residual-in_err-assigned.result c.from_residual-in_err-assigned.ensures.0

pub returns-in_err-pre-in-Ok-clause-params : goal.returns-in_err-pre-in-Ok-clause-params
returns-in_err-pre-in-Ok-clause-params c = unless_ok _ c.from_residual-in_err-pre-in-Ok.result c.from_residual-in_err-pre-in-Ok.ensures.0

pub returns-in_err-pre-in-Ok-clause-values : goal.returns-in_err-pre-in-Ok-clause-values
returns-in_err-pre-in-Ok-clause-values c = unless_ok _ c.from_residual-in_err-pre-in-Ok.result c.from_residual-in_err-pre-in-Ok.ensures.0

pub numbered_parts-requires-clause-good : goal.numbered_parts-requires-clause-good
numbered_parts-requires-clause-good c = c.requires.good

pub assigned-requires-clause-good : goal.assigned-requires-clause-good
assigned-requires-clause-good c = c.requires.good

pub pre-requires-clause-within : goal.pre-requires-clause-within
pre-requires-clause-within c = c.requires.within.4

pub pre-requires-clause-expr : goal.pre-requires-clause-expr
pre-requires-clause-expr c = c.requires.exprs.pre

pub returns-in-Ok-2-clause-params : goal.returns-in-Ok-2-clause-params
returns-in-Ok-2-clause-params c = c.in_ok-params.ensures.params

pub returns-in-Err-2-clause-params : goal.returns-in-Err-2-clause-params
returns-in-Err-2-clause-params c = tt

pub returns-in-Err-clause-params : goal.returns-in-Err-clause-params
returns-in-Err-clause-params c = tt
