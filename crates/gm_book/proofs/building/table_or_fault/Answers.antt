use Rattle.std.proofs.Common.{sym, ◌∙◌}
use Rattle.gm_forms.specs.inner.Forms.{rule_form_of}
use Rattle.gm_book.proofs.Checked.{names_fault_there}
use Rattle.gm_model.proofs.Exits.{unless_ok}
use Rattle.gm_book.proofs.building.table_or_fault.Goals as goal

pub returns-in-Some : goal.returns-in-Some
returns-in-Some c =
    let schema = c.args.schema.now in
    names_fault_there schema.dim schema.embeds (rule_form_of c.args.text.now c.args.rule.now) c.in-Some.fault (sym c.in-Some.is ∙ c.in_ok-fault.ensures)

pub returns-in_err-fault : goal.returns-in_err-fault
returns-in_err-fault c = unless_ok _ c.from_residual.result c.from_residual.ensures.0
