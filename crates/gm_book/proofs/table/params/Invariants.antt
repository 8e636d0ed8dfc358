use Rattle.std.proofs.Common.{◌≡◌, map, take}
use Rattle.gm_forms.specs.BookText.{param_of}
use Rattle.gm_forms.specs.inner.Forms.{param_form_of}
use Rattle.gm_book.proofs.table.params.Given as goal

abbrev pub invariant-loop-form : goal.invariant-loop-form
invariant-loop-form l = l.params.items ≡ map param_of (map (param_form_of l.text) (take l.form-index l.forms))
