use Rattle.std.proofs.Common.{sym, subst}
use Rattle.gm_forms.specs.inner.Forms.{rule_form_of}
use Rattle.gm_book.specs.inner.FirstNameFault.{IsLeast, IsFaultInRule}
use Rattle.gm_book.proofs.RuleFaults.{least_in_rule}
use Rattle.gm_model.proofs.Exits.{unless_ok}
use Rattle.gm_book.proofs.names.rule_fault.Goals as goal

pub returns : goal.returns
returns c =
    let n = c.args.schema.now.dim in
    let embeds = c.args.schema.now.embeds in
    let rule = rule_form_of c.args.text.now c.args.rule.now in
    subst (IsLeast (IsFaultInRule n embeds rule)) (sym c.earlier.ensures) (least_in_rule n embeds rule c.in_ok-names.names c.in_ok-values_fault.field-0 c.in_ok-names.ensures c.in_ok-values_fault.ensures)

pub returns-in_err-names : goal.returns-in_err-names
returns-in_err-names c = unless_ok _ c.from_residual.result c.from_residual.ensures.0

pub returns-in_err-values_fault : goal.returns-in_err-values_fault
returns-in_err-values_fault c = unless_ok _ c.from_residual-in_err-values_fault.result c.from_residual-in_err-values_fault.ensures.0

pub rule_names_fault-requires : goal.rule_names_fault-requires
rule_names_fault-requires c = c.requires.within

pub values_fault-requires-clause-within : goal.values_fault-requires-clause-within
values_fault-requires-clause-within c = c.requires.within

pub values_fault-requires-clause-fits : goal.values_fault-requires-clause-fits
values_fault-requires-clause-fits c = c.requires.fits

pub values_fault-requires-clause-exprs : goal.values_fault-requires-clause-exprs
values_fault-requires-clause-exprs c = c.requires.exprs

pub values_fault-requires-clause-schema : goal.values_fault-requires-clause-schema
values_fault-requires-clause-schema c = c.requires.schema
