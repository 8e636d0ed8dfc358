use Rattle.std.proofs.Common.{◌≡◌, ◌+◌, ◌∷◌, List, [], Option, None, map, drop, sym, ap, subst, ◌∙◌}
use Rattle.std.proofs.lemmas.List.{drop_all}
use Rattle.std.specs.List.{AllByRecursion}
use Rattle.gm_model.specs.declared.rule.Side.TheVariants.{Right}
use Rattle.gm_tree.specs.inner.FirstNames.{first_names}
use Rattle.gm_forms.specs.declared.form.Item.{Item}
use Rattle.gm_forms.specs.declared.form.SetForm.{SetForm}
use Rattle.gm_forms.specs.BookText.{IsSet, IsItem}
use Rattle.gm_forms.specs.BookText as books
use Rattle.gm_forms.specs.inner.Forms.{IsSetIn, IsItemIn, set_form_of, item_of}
use Rattle.gm_book.specs.declared.names.NameFault.{NameFault}
use Rattle.gm_book.specs.inner.FirstNameFault.{IsLeast, IsSetFault, IsAssignedFault, least_of}
use Rattle.gm_book.proofs.Items.{node_assigns, link_assigns_nothing}
use Rattle.gm_book.proofs.LeastOf.{least_regrouped, least_with_none}
use Rattle.gm_book.proofs.Onward.{left_on, each_on}
use Rattle.gm_book.proofs.ReadSets.{each_read}
use Rattle.gm_book.proofs.ValueFaults.{no_set, least_of_items}
use Rattle.gm_book.proofs.values.items_fault.Goals as goal
use Rattle.gm_book.proofs.values.items_fault.Goals.{in-Node+in_ok-sets_fault, in_default}

pub sets_fault-requires-clause-within : goal.sets_fault-requires-clause-within
sets_fault-requires-clause-within c =
    let here = subst (IsItemIn c.args.text.now) c.in-Node.is (each_on (IsItemIn c.args.text.now) c.args.items.now c.loop-item.item-index c.item-item.result c.item-item.result c.requires.within c.loop-item-test.true c.item-item.is) in
    subst (AllByRecursion (IsSetIn c.args.text.now)) (sym c.as_slice.ensures.value) here.1

pub sets_fault-requires-clause-exprs : goal.sets_fault-requires-clause-exprs
sets_fault-requires-clause-exprs c =
    let text = c.args.text.now in
    let n = c.args.env.now.schema.now.dim in
    let here = each_read (IsItem n Right) (item_of text) c.args.items.now c.loop-item.item-index c.item-item.result c.item-item.result c.requires.exprs c.loop-item-test.true c.item-item.is in
    let sets = subst (λ (item : Item). IsItem n Right (item_of text item)) c.in-Node.is here in
    subst (λ (forms : List SetForm). AllByRecursion (IsSet n) (map (set_form_of text) forms)) (sym c.as_slice.ensures.value) sets.2

pub loop-item-preserved : goal.loop-item-preserved
loop-item-preserved c = λ behind least.
    let text = c.args.text.now in
    let schema = c.args.env.now.schema.now in
    let n = schema.dim in
    let embeds = schema.embeds in
    let params = c.args.env.now.params.now in
    let names = first_names schema params c.args.env.now.nodes.now in
    let items = c.args.items.now in
    let item = c.item-item.result in
    let l = c.loop-item in
    let others = map (item_of text) (drop (l.item-index + 1) items) in
    let left : drop l.item-index items ≡ item ∷ drop (l.item-index + 1) items = left_on items l.item-index item c.loop-item-test.true c.item-item.is in
    let whole = λ (found : Option NameFault) (joined : IsLeast (IsAssignedFault n embeds params names (item_of text item ∷ others)) (least_of found behind)).
    l.invariant (least_of found behind) (subst (λ (is : List Item). IsLeast (IsAssignedFault n embeds params names (map (item_of text) is)) (least_of found behind)) (sym left) joined) in
    elim c.match-item.branch [
      | in-Node+in_ok-sets_fault w ↦
          let node = w.in-Node in
          let found = w.in_ok-sets_fault.field-0 in
          let one = subst (λ (forms : List SetForm). IsLeast (IsSetFault n embeds params names (map (set_form_of text) forms)) found) w.as_slice.ensures.value w.in_ok-sets_fault.ensures in
          let joined = least_of_items n embeds params names (map (set_form_of text) node.sets.items) (item_of text item) others found behind (node_assigns text others item node.name node.word node.hook node.sets node.is) one least in
          let said : least_of c.match-item.fault behind ≡ least_of l.fault (least_of found behind) = ap (λ (f : Option NameFault). least_of f behind) (w.fault-is ∙ w.earlier-fault.ensures) ∙ least_regrouped l.fault found behind in
          subst (IsLeast (IsAssignedFault n embeds params names (map (item_of text) items))) (sym said) (whole found joined)
      | in_default w ↦
          let link = w.in_default in
          let joined = subst (λ (sets : List books.SetForm). IsLeast (IsSetFault n embeds params names sets) behind) (sym (link_assigns_nothing text others item link.field-0 link.field-1 link.field-2 link.is)) least in
          subst (IsLeast (IsAssignedFault n embeds params names (map (item_of text) items))) (sym (ap (λ (f : Option NameFault). least_of f behind) w.fault-is)) (whole None joined)
    ]

pub returns : goal.returns
returns c =
    let text = c.args.text.now in
    let schema = c.args.env.now.schema.now in
    let params = c.args.env.now.params.now in
    let names = first_names schema params c.args.env.now.nodes.now in
    let l = c.loop-item in
    let none : [] ≡ drop l.item-index c.args.items.now = sym (drop_all l.item-index c.args.items.now c.loop-item-test.false) in
    let there = subst (λ (is : List Item). IsLeast (IsAssignedFault schema.dim schema.embeds params names (map (item_of text) is)) None) none (no_set schema.dim schema.embeds params names) in
    subst (IsLeast (IsAssignedFault schema.dim schema.embeds params names (map (item_of text) c.args.items.now))) (least_with_none l.fault) (l.invariant None there)
