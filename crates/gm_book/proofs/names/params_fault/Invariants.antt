use Rattle.std.proofs.Common.{◌≡◌, [], map, drop}
use Rattle.gm_forms.specs.inner.Forms.{param_form_of}
use Rattle.gm_forms.specs.inner.Held.{names_held}
use Rattle.gm_book.specs.inner.FirstNameFault.{least_of, least_param}
use Rattle.gm_book.proofs.names.params_fault.Given as goal

abbrev pub invariant-loop-param : goal.invariant-loop-param
invariant-loop-param l =
    least_of l.fault (least_param (names_held l.table) (map (param_form_of l.text) (drop l.param-index l.params))) ≡ least_param [] (map (param_form_of l.text) l.params)
