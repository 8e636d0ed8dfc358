use Rattle.std.proofs.Common.{Option, map, drop}
use Rattle.gm_tree.specs.inner.FirstNames.{first_names}
use Rattle.gm_forms.specs.inner.Forms.{item_of}
use Rattle.gm_book.specs.declared.names.NameFault.{NameFault}
use Rattle.gm_book.specs.inner.FirstNameFault.{IsLeast, IsAssignedFault, least_of}
use Rattle.gm_book.proofs.values.items_fault.Given as goal

abbrev pub invariant-loop-item : goal.invariant-loop-item
invariant-loop-item l =
    let schema = l.env.schema.now in
    let params = l.env.params.now in
    let names = first_names schema params l.env.nodes.now in
    (behind : Option NameFault) → IsLeast (IsAssignedFault schema.dim schema.embeds params names (map (item_of l.text) (drop l.item-index l.items))) behind
    → IsLeast (IsAssignedFault schema.dim schema.embeds params names (map (item_of l.text) l.items)) (least_of l.fault behind)
