use Rattle.std.proofs.Common.{◌≡◌, ◌+◌, List, [], Option, map, drop, sym, ap, subst, ◌∙◌}
use Rattle.std.specs.List.{AllByRecursion}
use Rattle.gm_forms.specs.declared.form.SetForm.{SetForm}
use Rattle.gm_forms.specs.inner.Forms.{IsSetIn, IsItemIn, set_form_of, item_of}
use Rattle.gm_book.specs.declared.names.NameFault.{NameFault}
use Rattle.gm_book.specs.inner.FirstNameFault.{embed_names, least_of, least_set, least_assigned}
use Rattle.gm_book.proofs.Items.{node_names_sets, link_names_no_set}
use Rattle.gm_book.proofs.LeastOf.{least_on}
use Rattle.gm_book.proofs.Onward.{each_on, passed_on}
use Rattle.gm_book.proofs.names.assigned_fault.Goals as goal
use Rattle.gm_book.proofs.names.assigned_fault.Goals.{in-Node+in_ok-sets_fault, in_default}

pub sets_fault-requires : goal.sets_fault-requires
sets_fault-requires c =
    let here = subst (IsItemIn c.args.text.now) c.in-Node.is (each_on (IsItemIn c.args.text.now) c.args.items.now c.loop-item.item-index c.item-item.result c.item-item.result c.requires c.loop-item-test.true c.item-item.is) in
    subst (AllByRecursion (IsSetIn c.args.text.now)) (sym c.as_slice.ensures.value) here.1

pub loop-item-preserved : goal.loop-item-preserved
loop-item-preserved c =
    let text = c.args.text.now in
    let items = c.args.items.now in
    let item = c.item-item.result in
    let l = c.loop-item in
    let known = embed_names c.args.schema.now in
    let behind = map (item_of text) (drop (l.item-index + 1) items) in
    elim c.match-item.branch [
      | in-Node+in_ok-sets_fault w ↦
          let n = w.in-Node in
          let one = least_set known [] (map (set_form_of text) n.sets.items) in
          let found : w.in_ok-sets_fault.field-0 ≡ one = w.in_ok-sets_fault.ensures ∙ ap (λ (sets : List SetForm). least_set known [] (map (set_form_of text) sets)) w.as_slice.ensures.value in
          least_on (item_of text) (least_assigned known) items l.item-index l.fault _ item one (least_assigned known behind) c.match-item.fault c.loop-item-test.true c.item-item.is
          (node_names_sets text behind item n.name n.word n.hook n.sets n.is known) (w.fault-is ∙ (w.earlier-fault.ensures ∙ ap (least_of l.fault) found)) l.invariant
      | in_default w ↦
          let n = w.in_default in
          ap (λ (f : Option NameFault). least_of f (least_assigned known behind)) w.fault-is
          ∙ passed_on (item_of text) (λ is. least_of l.fault (least_assigned known is)) items l.item-index _ item c.loop-item-test.true c.item-item.is
          (ap (least_of l.fault) (link_names_no_set text behind item n.field-0 n.field-1 n.field-2 n.is known)) l.invariant
    ]
