use Rattle.std.proofs.Common.{◌≡◌, map, drop}
use Rattle.gm_forms.specs.inner.Forms.{item_of}
use Rattle.gm_book.specs.inner.FirstNameFault.{embed_names, least_of, least_assigned}
use Rattle.gm_book.proofs.names.assigned_fault.Given as goal

abbrev pub invariant-loop-item : goal.invariant-loop-item
invariant-loop-item l =
    let known = embed_names l.schema in
    least_of l.fault (least_assigned known (map (item_of l.text) (drop l.item-index l.items))) ≡ least_assigned known (map (item_of l.text) l.items)
