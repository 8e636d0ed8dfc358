use Rattle.std.proofs.Common.{◌≡◌, [], map, drop}
use Rattle.gm_forms.specs.inner.Forms.{set_form_of}
use Rattle.gm_forms.specs.inner.Held.{names_held}
use Rattle.gm_book.specs.inner.FirstNameFault.{embed_names, least_of, least_set}
use Rattle.gm_book.proofs.names.sets_fault.Given as goal

abbrev pub invariant-loop-set : goal.invariant-loop-set
invariant-loop-set l =
    let known = embed_names l.schema in
    least_of l.fault (least_set known (names_held l.table) (map (set_form_of l.text) (drop l.set-index l.sets))) ≡ least_set known [] (map (set_form_of l.text) l.sets)
