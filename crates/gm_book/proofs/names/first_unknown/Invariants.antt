use Rattle.std.proofs.Common.{◌≡◌, map, drop}
use Rattle.gm_forms.specs.inner.Forms.{item_of}
use Rattle.gm_forms.specs.inner.Held.{names_held}
use Rattle.gm_book.specs.inner.FirstNameFault.{least_of, least_unknown}
use Rattle.gm_book.proofs.names.first_unknown.Given as goal

abbrev pub invariant-loop-item : goal.invariant-loop-item
invariant-loop-item l =
    least_of l.fault (least_unknown (names_held l.table) (map (item_of l.text) (drop l.item-index l.items))) ≡ least_unknown (names_held l.table) (map (item_of l.text) l.items)
