use Rattle.std.proofs.Common.{◌≡◌, ◌+◌, Option, map, drop, ap, subst, ◌∙◌}
use Rattle.gm_forms.specs.inner.Forms.{IsItemIn, item_of, mention_of}
use Rattle.gm_forms.specs.inner.Held.{names_held}
use Rattle.gm_book.specs.declared.names.NameFault.{NameFault}
use Rattle.gm_book.specs.inner.FirstNameFault.{least_of, unknown_at, least_unknown}
use Rattle.gm_book.proofs.Items.{node_all_known, link_unknown}
use Rattle.gm_book.proofs.LeastOf.{least_on}
use Rattle.gm_book.proofs.Onward.{each_on, passed_on}
use Rattle.gm_book.proofs.names.first_unknown.Goals as goal
use Rattle.gm_book.proofs.names.first_unknown.Goals.{in-Link, in_default}

pub unknown-requires : goal.unknown-requires
unknown-requires c =
    (subst (IsItemIn c.args.text.now) c.in-Link.is (each_on (IsItemIn c.args.text.now) c.args.items.now c.loop-item.item-index c.item-item.result c.item-item.result c.requires c.loop-item-test.true c.item-item.is)).0

pub unknown-requires-in-Link : goal.unknown-requires-in-Link
unknown-requires-in-Link c =
    (subst (IsItemIn c.args.text.now) c.in-Link.is (each_on (IsItemIn c.args.text.now) c.args.items.now c.loop-item.item-index c.item-item.result c.item-item.result c.requires c.loop-item-test.true c.item-item.is)).1

pub loop-item-preserved : goal.loop-item-preserved
loop-item-preserved c =
    let text = c.args.text.now in
    let items = c.args.items.now in
    let item = c.item-item.result in
    let l = c.loop-item in
    let names = names_held c.args.table.now in
    let behind = map (item_of text) (drop (l.item-index + 1) items) in
    elim c.match-item.branch [
      | in-Link w ↦
          let n = w.in-Link in
          let ends = least_of (unknown_at names (mention_of text n.from)) (unknown_at names (mention_of text n.to)) in
          let both : w.earlier-ends.result ≡ ends = w.earlier-ends.ensures ∙ ap (λ (f : Option NameFault). least_of f w.unknown-in-Link.result) w.unknown.ensures ∙ ap (least_of (unknown_at names (mention_of text n.from))) w.unknown-in-Link.ensures in
          least_on (item_of text) (least_unknown names) items l.item-index l.fault _ item ends (least_unknown names behind) c.match-item.fault c.loop-item-test.true c.item-item.is
          (link_unknown text behind item n.from n.label n.to n.is names) (w.fault-is ∙ (w.earlier-fault.ensures ∙ ap (least_of l.fault) both)) l.invariant
      | in_default w ↦
          let n = w.in_default in
          ap (λ (f : Option NameFault). least_of f (least_unknown names behind)) w.fault-is
          ∙ passed_on (item_of text) (λ is. least_of l.fault (least_unknown names is)) items l.item-index _ item c.loop-item-test.true c.item-item.is
          (ap (least_of l.fault) (node_all_known text behind item n.field-0 n.field-1 n.field-2 n.field-3 n.is names)) l.invariant
    ]
