use Rattle.std.proofs.Common.{◌≡◌, ◌≤◌, ℕ, List, length, map, Result, sym, ap, ap₂, subst, ◌∙◌, rules}
use Rattle.std.specs.List.{AllByRecursion, AllZip}
use Rattle.std.specs.Option.{option_map}
use Rattle.std.specs.Prelude.{IfOk}
use Rattle.gm_model.specs.Rules.{node_of}
use Rattle.gm_model.specs.Trees.{tree_of}
use Rattle.gm_forms.specs.declared.form.Item.{Item}
use Rattle.gm_forms.specs.BookText.{RuleForm, param_of, nodes_of, links_in, hooks_in, names_for}
use Rattle.gm_forms.specs.inner.Forms.{IsItemIn, item_of, rule_form_of}
use Rattle.gm_book.specs.declared.names.NameFault.{NameFault}
use Rattle.gm_book.specs.declared.table.Values.{Values}
use Rattle.gm_book.specs.inner.Building.{AreSoundValues}
use Rattle.gm_book.proofs.Checked.{at_ok, at_err, nodes_mean, rule_sound, values_fault_there}
use Rattle.gm_book.proofs.ReadSets.{IsAssigned, means_rule}
use Rattle.gm_model.proofs.Exits.{unless_ok}
use Rattle.gm_model.specs.Names.{IsName}
use Rattle.gm_forms.specs.declared.key.NameKey.{NameKey}
use Rattle.gm_forms.specs.inner.Held.{names_at}
use Rattle.gm_book.proofs.table.numbered_table.Goals as goal

pub returns-in-Ok : goal.returns-in-Ok
returns-in-Ok c =
    let form = rule_form_of c.args.text.now c.args.rule.now in
    let schema = c.args.schema.now in
    let read = c.in-Ok.field-0 in
    let values : AreSoundValues schema.dim schema.embeds form (map node_of read.nodes.items) (option_map tree_of read.pre) = at_ok _ _ c.in_ok-params.field-0 read c.in-Ok.is c.in_ok-params.ensures.values in
    let declared = subst (λ (r : Result Values NameFault). IfOk r (λ values. values.params.items ≡ map param_of form.params)) c.in-Ok.is c.in_ok-params.ensures.params in
    let name : c.unwrap.result ≡ form.name.name = search rules in
    let params : c.new-in-Ok.result ≡ map param_of form.params = c.new-in-Ok.ensures ∙ declared in
    let nodes : c.new-in-Ok-2.result ≡ read.nodes.items = c.new-in-Ok-2.ensures in
    let left : c.new-in-Ok-3.result ≡ links_in (nodes_of form) form.left =
    c.new-in-Ok-3.ensures ∙ (c.in_ok-left_links.ensures ∙ ap₂ (λ (ns : List (List ℕ)) (items : List Item). links_in ns (map (item_of c.args.text.now) items)) c.in_ok-take_in_rule.ensures.nodes c.as_slice.ensures.value) in
    let right : c.new-in-Ok-4.result ≡ links_in (nodes_of form) form.right =
    c.new-in-Ok-4.ensures ∙ (c.in_ok-right_links.ensures ∙ ap₂ (λ (ns : List (List ℕ)) (items : List Item). links_in ns (map (item_of c.args.text.now) items)) c.in_ok-take_in_rule.ensures.nodes c.as_slice-2.ensures.value) in
    let hooks : c.new-in-Ok-5.result ≡ hooks_in (nodes_of form) form.left =
    c.new-in-Ok-5.ensures ∙ (c.in_ok-hooks.ensures ∙ ap₂ (λ (ns : List (List ℕ)) (items : List Item). hooks_in ns (map (item_of c.args.text.now) items)) c.in_ok-take_in_rule.ensures.nodes c.as_slice-3.ensures.value) in
    let same : map node_of read.nodes.items ≡ map node_of c.new-in-Ok-2.result = ap (map node_of) (sym nodes) in
    record {
      means = means_rule schema.dim schema.embeds form c.unwrap.result c.new-in-Ok.result (map node_of c.new-in-Ok-2.result) c.new-in-Ok-3.result c.new-in-Ok-4.result c.new-in-Ok-5.result (option_map tree_of read.pre)
          name params (subst (λ ns. AllZip (IsAssigned schema.dim (names_for schema.embeds form) form) (nodes_of form) ns) same (nodes_mean schema.dim schema.embeds (map param_of form.params) (names_for schema.embeds form) form (nodes_of form) (map node_of read.nodes.items) values.nodes_are)) left right hooks values.pre_is.means;
      sound = rule_sound schema.dim schema.embeds form c.requires.sound (map node_of read.nodes.items) (option_map tree_of read.pre) values;
    }

pub returns-in-Err : goal.returns-in-Err
returns-in-Err c =
    let schema = c.args.schema.now in
    values_fault_there schema.dim schema.embeds (rule_form_of c.args.text.now c.args.rule.now) c.in-Err.fault (at_err _ _ c.in_ok-params.field-0 c.in-Err.fault c.in-Err.is c.in_ok-params.ensures.values)

-- what is asked of the items of a side, which are lent, and of the names in the table
asked : (text : List ℕ) (items lent : List Item) (names : List (List ℕ)) (form : RuleForm) → lent ≡ items → AllByRecursion (IsItemIn text) items → names ≡ nodes_of form → length (nodes_of form) ≤ 32
    → AllByRecursion (IsItemIn text) lent × (length names ≤ 32)
asked text items lent names form same within is few = (subst (AllByRecursion (IsItemIn text)) (sym same) within, subst (λ (ns : List (List ℕ)). length ns ≤ 32) (sym is) few)

pub links-requires : goal.links-requires
links-requires c =
    let (within, few) = asked c.args.text.now c.args.rule.now.left.items c.as_slice.result.now _ (rule_form_of c.args.text.now c.args.rule.now) c.as_slice.ensures.value c.requires.within.2 c.in_ok-take_in_rule.ensures.nodes c.requires.fits.nodes in
    record { within = within; few = few }

pub links-requires-2 : goal.links-requires-2
links-requires-2 c =
    let (within, few) = asked c.args.text.now c.args.rule.now.right.items c.as_slice-2.result.now _ (rule_form_of c.args.text.now c.args.rule.now) c.as_slice-2.ensures.value c.requires.within.3 c.in_ok-take_in_rule.ensures.nodes c.requires.fits.nodes in
    record { within = within; few = few }

pub hooks-requires : goal.hooks-requires
hooks-requires c =
    let (within, few) = asked c.args.text.now c.args.rule.now.left.items c.as_slice-3.result.now _ (rule_form_of c.args.text.now c.args.rule.now) c.as_slice-3.ensures.value c.requires.within.2 c.in_ok-take_in_rule.ensures.nodes c.requires.fits.nodes in
    record { within = within; few = few }

pub returns-in_err-take_in_rule : goal.returns-in_err-take_in_rule
returns-in_err-take_in_rule c = unless_ok _ c.from_residual.result c.from_residual.ensures.0

pub returns-in_err-left_links : goal.returns-in_err-left_links
returns-in_err-left_links c = unless_ok _ c.from_residual-in_err-left_links.result c.from_residual-in_err-left_links.ensures.0

pub returns-in_err-right_links : goal.returns-in_err-right_links
returns-in_err-right_links c = unless_ok _ c.from_residual-in_err-right_links.result c.from_residual-in_err-right_links.ensures.0

pub returns-in_err-hooks : goal.returns-in_err-hooks
returns-in_err-hooks c = unless_ok _ c.from_residual-in_err-hooks.result c.from_residual-in_err-hooks.ensures.0

pub returns-in_err-params : goal.returns-in_err-params
returns-in_err-params c = unless_ok _ c.from_residual-in_err-params.result c.from_residual-in_err-params.ensures.0

pub read_values-requires-clause-numbered : goal.read_values-requires-clause-numbered
read_values-requires-clause-numbered c = ap names_at c.as_slice-4.ensures.keys ∙ c.in_ok-take_in_rule.ensures.nodes

pub read_values-requires-clause-good : goal.read_values-requires-clause-good
read_values-requires-clause-good c = subst (λ (keys : List NameKey). AllByRecursion IsName (names_at keys)) (sym c.as_slice-4.ensures.keys) c.in_ok-take_in_rule.ensures.good

pub read_values-requires-clause-within : goal.read_values-requires-clause-within
read_values-requires-clause-within c = c.requires.within

pub read_values-requires-clause-schema : goal.read_values-requires-clause-schema
read_values-requires-clause-schema c = c.requires.schema

pub read_values-requires-clause-fits : goal.read_values-requires-clause-fits
read_values-requires-clause-fits c = c.requires.fits

pub read_values-requires-clause-exprs : goal.read_values-requires-clause-exprs
read_values-requires-clause-exprs c = c.requires.exprs

pub read_values-requires-clause-sound : goal.read_values-requires-clause-sound
read_values-requires-clause-sound c = c.requires.sound

pub bytes_in-requires : goal.bytes_in-requires
bytes_in-requires c = c.requires.within.0
