use Rattle.std.proofs.Common.{map, take}
use Rattle.std.specs.List.{AllZip}
use Rattle.gm_model.specs.Rules.{assignment_of}
use Rattle.gm_tree.specs.inner.FirstNames.{first_names}
use Rattle.gm_forms.specs.inner.Forms.{set_form_of}
use Rattle.gm_book.specs.inner.Building.{IsSoundSet}
use Rattle.gm_book.proofs.table.sets.Given as goal

abbrev pub invariant-loop-form : goal.invariant-loop-form
invariant-loop-form l =
    AllZip (IsSoundSet l.env.schema.now.dim l.env.schema.now.embeds l.env.params.now (first_names l.env.schema.now l.env.params.now l.env.nodes.now)) (map (set_form_of l.text) (take l.form-index l.forms)) (map assignment_of l.sets.items)
