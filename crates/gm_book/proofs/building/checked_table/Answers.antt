use Rattle.std.proofs.Common.{Some, sym, ap, subst}
use Rattle.gm_model.proofs.Exits.{unless_ok}
use Rattle.gm_model.specs.Rules.{rule_of}
use Rattle.gm_model.specs.declared.rule.RuleTable.{RuleTable}
use Rattle.gm_forms.specs.inner.Forms.{rule_form_of}
use Rattle.gm_book.specs.inner.Building.{IsSoundRule}
use Rattle.gm_book.specs.inner.FirstNameFault.{IsLeast, IsFaultInRule}
use Rattle.gm_book.proofs.Checked.{at_ok, at_err, least_or}
use Rattle.gm_book.proofs.building.checked_table.Goals as goal

pub returns-in_err-table-clause-table : goal.returns-in_err-table-clause-table
returns-in_err-table-clause-table c = unless_ok _ c.from_residual.result c.from_residual.ensures.0

pub returns-in_err-table-clause-fault : goal.returns-in_err-table-clause-fault
returns-in_err-table-clause-fault c = unless_ok _ c.from_residual.result c.from_residual.ensures.0

pub returns-in_err-first-in-Err-clause-table : goal.returns-in_err-first-in-Err-clause-table
returns-in_err-first-in-Err-clause-table c = unless_ok _ c.from_residual-in_err-first-in-Err.result c.from_residual-in_err-first-in-Err.ensures.0

pub returns-in_err-first-in-Err-clause-fault : goal.returns-in_err-first-in-Err-clause-fault
returns-in_err-first-in-Err-clause-fault c = unless_ok _ c.from_residual-in_err-first-in-Err.result c.from_residual-in_err-first-in-Err.ensures.0

pub returns-in-Ok-clause-table : goal.returns-in-Ok-clause-table
returns-in-Ok-clause-table c =
    let s = c.args.schema.now in
    let rule = rule_form_of c.args.text.now c.args.rule.now in
    (at_ok (λ (table : RuleTable). IsSoundRule s.dim s.embeds rule (rule_of table)) (IsFaultInRule s.dim s.embeds rule) c.in_ok-table.field-0 c.in-Ok.table c.in-Ok.is c.in_ok-table.ensures).means

pub returns-in-Ok-clause-fault : goal.returns-in-Ok-clause-fault
returns-in-Ok-clause-fault c =
    let s = c.args.schema.now in
    let rule = rule_form_of c.args.text.now c.args.rule.now in
    (at_ok (λ (table : RuleTable). IsSoundRule s.dim s.embeds rule (rule_of table)) (IsFaultInRule s.dim s.embeds rule) c.in_ok-table.field-0 c.in-Ok.table c.in-Ok.is c.in_ok-table.ensures).sound

pub returns-in_ok-first-in-Err-clause-fault : goal.returns-in_ok-first-in-Err-clause-fault
returns-in_ok-first-in-Err-clause-fault c =
    let s = c.args.schema.now in
    let rule = rule_form_of c.args.text.now c.args.rule.now in
    let found = at_err (λ (table : RuleTable). IsSoundRule s.dim s.embeds rule (rule_of table)) (IsFaultInRule s.dim s.embeds rule) c.in_ok-table.field-0 c.in-Err.fault c.in-Err.is c.in_ok-table.ensures in
    subst (IsLeast (IsFaultInRule s.dim s.embeds rule)) (ap Some (sym c.unwrap_or.ensures)) (least_or (IsFaultInRule s.dim s.embeds rule) c.in_ok-first-in-Err.first c.in-Err.fault c.in_ok-first-in-Err.ensures found)
