use Rattle.std.proofs.Common.{List, map, refl, sym, subst}
use Rattle.gm_model.specs.Rules.{node_of, assignment_of}
use Rattle.gm_tree.specs.inner.FirstNames.{first_names}
use Rattle.gm_forms.specs.declared.key.NameKey.{NameKey}
use Rattle.gm_book.specs.inner.Building.{IsSoundNode}
use Rattle.gm_book.proofs.Checked.{at_ok, at_err, node_sound, set_fault_of}
use Rattle.gm_book.proofs.ReadSets.{zip_more}
use Rattle.gm_book.proofs.RuleNames.{good_at}
use Rattle.gm_model.proofs.Exits.{unless_ok}
use Rattle.std.proofs.lemmas.List.{take_all}
use Rattle.std.specs.List.{AllByRecursion, AllZip}
use Rattle.gm_forms.specs.declared.form.Item.{Item}
use Rattle.gm_forms.specs.inner.Forms.{IsItemIn, rule_form_of}
use Rattle.gm_forms.specs.inner.Held.{names_at}
use Rattle.gm_book.proofs.table.assigned.Goals as goal

pub node-requires-clause-good : goal.node-requires-clause-good
node-requires-clause-good c = good_at c.args.names.now c.loop-name.name-index _ c.requires.good c.loop-name-test.true

pub loop-name-preserved : goal.loop-name-preserved
loop-name-preserved c =
    let env = c.args.env.now in
    let n = env.schema.now.dim in
    let embeds = env.schema.now.embeds in
    let names = first_names env.schema.now env.params.now env.nodes.now in
    let text = c.args.text.now in
    let rule = rule_form_of text c.args.rule.now in
    let made = map assignment_of c.in-Ok.sets.items in
    let sets = rw c.as_slice.ensures.value at (at_ok _ _ c.in_ok-sets.field-0 c.in-Ok.sets c.in-Ok.is c.in_ok-sets.ensures) in
    zip_more (IsSoundNode n embeds env.params.now names rule) (λ (key : NameKey). key.bytes.now) node_of c.args.names.now c.loop-name.nodes.items c.push.new.self.items c.loop-name.name-index _ _ c.node.result c.loop-name-test.true refl c.loop-name.invariant
    (node_sound n embeds env.params.now names rule _ (node_of c.node.result) made c.node.ensures sets) c.in_ok-push-in-Ok.ensures.items

pub returns-in-Err : goal.returns-in-Err
returns-in-Err c =
    let env = c.args.env.now in
    let n = env.schema.now.dim in
    let embeds = env.schema.now.embeds in
    let names = first_names env.schema.now env.params.now env.nodes.now in
    let text = c.args.text.now in
    let fault = c.in-Err.fault in
    let found = rw c.as_slice.ensures.value at (at_err _ _ c.in_ok-sets.field-0 fault c.in-Err.is c.in_ok-sets.ensures) in
    set_fault_of n embeds env.params.now names (rule_form_of text c.args.rule.now).right _ fault found

pub returns-in_err-sets : goal.returns-in_err-sets
returns-in_err-sets c = unless_ok _ c.from_residual.result c.from_residual.ensures.0

pub returns-in_err-push-in-Ok : goal.returns-in_err-push-in-Ok
returns-in_err-push-in-Ok c = unless_ok _ c.from_residual-in_err-push-in-Ok.result c.from_residual-in_err-push-in-Ok.ensures.0

pub loop-name-init : goal.loop-name-init
loop-name-init c = rw c.new-nodes.ensures.items tt

pub sets_of-requires-clause-within : goal.sets_of-requires-clause-within
sets_of-requires-clause-within c = subst (AllByRecursion (IsItemIn c.args.text.now)) (sym c.as_slice.ensures.value) c.requires.within.3

pub sets_of-requires-clause-known : goal.sets_of-requires-clause-known
sets_of-requires-clause-known c = rw c.as_slice.ensures.value c.requires.known

pub returns : goal.returns
returns c =
    let env = c.args.env.now in
    let names = first_names env.schema.now env.params.now env.nodes.now in
    let rule = rule_form_of c.args.text.now c.args.rule.now in
    subst (λ (keys : List NameKey). AllZip (IsSoundNode env.schema.now.dim env.schema.now.embeds env.params.now names rule) (names_at keys) (map node_of c.loop-name.nodes.items))
    (take_all c.loop-name.name-index c.args.names.now c.loop-name-test.false) c.loop-name.invariant
