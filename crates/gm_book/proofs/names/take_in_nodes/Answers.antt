use Rattle.std.proofs.Common.{◌≡◌, ◌+◌, Option, map, drop, ap, subst, ◌∙◌}
use Rattle.gm_model.specs.Tokens.{bytes_of}
use Rattle.gm_forms.specs.BookText.{with_name}
use Rattle.gm_forms.specs.inner.Forms.{IsItemIn, item_of, mention_of}
use Rattle.gm_forms.specs.inner.Held.{names_held}
use Rattle.gm_book.specs.declared.names.NameFault.{NameFault}
use Rattle.gm_book.specs.inner.FirstNameFault.{least_of, with_items, again_at, least_again}
use Rattle.gm_book.proofs.Items.{node_taken_in, node_again, link_not_taken_in, link_not_again}
use Rattle.gm_book.proofs.LeastOf.{least_on}
use Rattle.gm_book.proofs.Onward.{each_on, passed_on, found_on}
use Rattle.gm_book.proofs.names.take_in_nodes.Goals as goal
use Rattle.gm_book.proofs.names.take_in_nodes.Goals.{in-Node+in_ok-take_in, in_default}

pub take_in-requires : goal.take_in-requires
take_in-requires c =
    (subst (IsItemIn c.args.text.now) c.in-Node.is (each_on (IsItemIn c.args.text.now) c.args.items.now c.loop-item.item-index c.item-item.result c.item-item.result c.requires c.loop-item-test.true c.item-item.is)).0

pub loop-item-preserved : goal.loop-item-preserved
loop-item-preserved c =
    let text = c.args.text.now in
    let items = c.args.items.now in
    let item = c.item-item.result in
    let l = c.loop-item in
    let names = names_held l.table in
    let behind = map (item_of text) (drop (l.item-index + 1) items) in
    elim c.match-item.branch [
      | in-Node+in_ok-take_in w ↦
          let n = w.in-Node in
          let after = with_name names (bytes_of text n.name) in
          let held : names_held c.match-item.table ≡ after = ap (λ table. names_held table) w.table-is ∙ w.in_ok-take_in.ensures.held in
          let said : c.match-item.fault ≡ least_of l.fault (again_at names (mention_of text n.name)) = w.fault-is ∙ (w.earlier-fault.ensures ∙ ap (least_of l.fault) w.in_ok-take_in.ensures.fault) in
          record {
            held = ap (λ ns. with_items ns behind) held
                ∙ found_on (item_of text) (with_items names) items l.item-index _ item (with_items after behind) c.loop-item-test.true c.item-item.is (node_taken_in text behind item n.name n.word n.hook n.sets n.is names) l.invariant.held;
            least = ap (λ ns. least_of c.match-item.fault (least_again ns behind)) held
                ∙ least_on (item_of text) (least_again names) items l.item-index l.fault _ item (again_at names (mention_of text n.name)) (least_again after behind) c.match-item.fault c.loop-item-test.true c.item-item.is
                (node_again text behind item n.name n.word n.hook n.sets n.is names) said l.invariant.least;
          }
      | in_default w ↦
          let n = w.in_default in
          let held : names_held c.match-item.table ≡ names = ap (λ table. names_held table) w.table-is in
          record {
            held = ap (λ ns. with_items ns behind) held
                ∙ passed_on (item_of text) (with_items names) items l.item-index _ item c.loop-item-test.true c.item-item.is (link_not_taken_in text behind item n.field-0 n.field-1 n.field-2 n.is names) l.invariant.held;
            least = ap (λ ns. least_of c.match-item.fault (least_again ns behind)) held ∙ ap (λ (f : Option NameFault). least_of f (least_again names behind)) w.fault-is
                ∙ passed_on (item_of text) (λ is. least_of l.fault (least_again names is)) items l.item-index _ item c.loop-item-test.true c.item-item.is
                (ap (least_of l.fault) (link_not_again text behind item n.field-0 n.field-1 n.field-2 n.is names)) l.invariant.least;
          }
    ]
