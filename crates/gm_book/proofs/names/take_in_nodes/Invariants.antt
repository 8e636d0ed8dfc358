use Rattle.std.proofs.Common.{◌≡◌, map, drop}
use Rattle.gm_forms.specs.inner.Forms.{item_of}
use Rattle.gm_forms.specs.inner.Held.{names_held}
use Rattle.gm_book.specs.inner.FirstNameFault.{least_of, with_items, least_again}
use Rattle.gm_book.proofs.names.take_in_nodes.Given as goal

abbrev pub invariant-loop-item : goal.invariant-loop-item
invariant-loop-item l =
    let rest = map (item_of l.text) (drop l.item-index l.items) in
    let items = map (item_of l.text) l.items in
    record {
      held : with_items (names_held l.table) rest ≡ with_items (names_held l.fn.table) items;
      least : least_of l.fault (least_again (names_held l.table) rest) ≡ least_again (names_held l.fn.table) items;
    }
