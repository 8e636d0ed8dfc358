use Rattle.std.proofs.Common.{Option, map, drop}
use Rattle.gm_tree.specs.inner.FirstNames.{first_names}
use Rattle.gm_forms.specs.inner.Forms.{set_form_of}
use Rattle.gm_book.specs.declared.names.NameFault.{NameFault}
use Rattle.gm_book.specs.inner.FirstNameFault.{IsLeast, IsSetFault, least_of}
use Rattle.gm_book.proofs.values.sets_fault.Given as goal

abbrev pub invariant-loop-set : goal.invariant-loop-set
invariant-loop-set l =
    let schema = l.env.schema.now in
    let params = l.env.params.now in
    let names = first_names schema params l.env.nodes.now in
    (behind : Option NameFault) → IsLeast (IsSetFault schema.dim schema.embeds params names (map (set_form_of l.text) (drop l.set-index l.sets))) behind
    → IsLeast (IsSetFault schema.dim schema.embeds params names (map (set_form_of l.text) l.sets)) (least_of l.fault behind)
