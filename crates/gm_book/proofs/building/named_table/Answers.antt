use Rattle.std.proofs.Common.{◌≡◌, Option, Some, None, Result, sym, ap, subst, ◌∙◌}
use Rattle.std.specs.Prelude.{IfOk}
use Rattle.std.specs.Option.{unwrap_or}
use Rattle.std.specs.Result.{result_err}
use Rattle.gm_model.specs.Rules.{rule_of}
use Rattle.gm_model.specs.declared.rule.RuleTable.{RuleTable}
use Rattle.gm_forms.specs.BookText.{MeansRule}
use Rattle.gm_forms.specs.inner.Forms.{rule_form_of}
use Rattle.gm_forms.specs.inner.Held.{names_held}
use Rattle.gm_book.specs.declared.names.NameFault.{NameFault}
use Rattle.gm_book.specs.inner.FirstNameFault.{IsLeast, IsFaultInRule, IsRuleFault}
use Rattle.gm_book.proofs.Checked.{earlier_or}
use Rattle.gm_book.proofs.RuleFaults.{least_of_rule}
use Rattle.gm_model.proofs.Exits.{unless_ok, never_ok}
use Rattle.gm_book.proofs.building.named_table.Goals as goal

pub returns-in-Err-clause-fault : goal.returns-in-Err-clause-fault
returns-in-Err-clause-fault c =
    let n = c.args.schema.now.dim in
    let embeds = c.args.schema.now.embeds in
    let rule = rule_form_of c.args.text.now c.args.rule.now in
    let names = names_held c.args.names.now in
    let fault = c.in-Err.fault in
    let here = subst (λ (r : Result RuleTable NameFault). IsLeast (IsFaultInRule n embeds rule) (result_err r)) c.in-Err.is c.in_ok-table.ensures.fault in
    let least = least_of_rule n embeds names rule c.in_ok-again.again (Some fault) c.in_ok-again.ensures.fault here in
    let told : c.unwrap_or.result ≡ unwrap_or c.earlier.result fault = c.unwrap_or.ensures in
    subst (IsLeast (IsRuleFault n embeds names rule)) (earlier_or c.in_ok-again.again fault ∙ ap Some (sym (told ∙ ap (λ (o : Option NameFault). unwrap_or o fault) c.earlier.ensures))) least

pub returns-in_err-again-clause-held : goal.returns-in_err-again-clause-held
returns-in_err-again-clause-held c = never_ok _ c.from_residual.result c.from_residual.ensures.0

pub returns-in_err-again-clause-table : goal.returns-in_err-again-clause-table
returns-in_err-again-clause-table c = unless_ok _ c.from_residual.result c.from_residual.ensures.0

pub returns-in_err-again-clause-fault : goal.returns-in_err-again-clause-fault
returns-in_err-again-clause-fault c = unless_ok _ c.from_residual.result c.from_residual.ensures.0

pub returns-in_err-table-clause-held : goal.returns-in_err-table-clause-held
returns-in_err-table-clause-held c = never_ok _ c.from_residual-in_err-table.result c.from_residual-in_err-table.ensures.0

pub returns-in_err-table-clause-table : goal.returns-in_err-table-clause-table
returns-in_err-table-clause-table c = unless_ok _ c.from_residual-in_err-table.result c.from_residual-in_err-table.ensures.0

pub returns-in_err-table-clause-fault : goal.returns-in_err-table-clause-fault
returns-in_err-table-clause-fault c = unless_ok _ c.from_residual-in_err-table.result c.from_residual-in_err-table.ensures.0

pub returns-in-Some-clause-held : goal.returns-in-Some-clause-held
returns-in-Some-clause-held c = c.in_ok-again.ensures.held

pub returns-in-None-clause-held : goal.returns-in-None-clause-held
returns-in-None-clause-held c = c.in_ok-again.ensures.held

pub returns-in-Err-clause-held : goal.returns-in-Err-clause-held
returns-in-Err-clause-held c = c.in_ok-again.ensures.held

pub returns-in-Some-clause-fault : goal.returns-in-Some-clause-fault
returns-in-Some-clause-fault c =
    let n = c.args.schema.now.dim in
    let embeds = c.args.schema.now.embeds in
    let rule = rule_form_of c.args.text.now c.args.rule.now in
    let here = subst (λ (r : Result RuleTable NameFault). IsLeast (IsFaultInRule n embeds rule) (result_err r)) c.in-Ok.is c.in_ok-table.ensures.fault in
    least_of_rule n embeds (names_held c.args.names.now) rule (Some c.in-Some.fault) None (sym c.in-Some.is ∙ c.in_ok-again.ensures.fault) here

pub returns-in-None-clause-fault : goal.returns-in-None-clause-fault
returns-in-None-clause-fault c =
    let n = c.args.schema.now.dim in
    let embeds = c.args.schema.now.embeds in
    let rule = rule_form_of c.args.text.now c.args.rule.now in
    let here = subst (λ (r : Result RuleTable NameFault). IsLeast (IsFaultInRule n embeds rule) (result_err r)) c.in-Ok.is c.in_ok-table.ensures.fault in
    least_of_rule n embeds (names_held c.args.names.now) rule None None (sym c.in-None.is ∙ c.in_ok-again.ensures.fault) here

pub returns-in-None-clause-table : goal.returns-in-None-clause-table
returns-in-None-clause-table c =
    let s = c.args.schema.now in
    subst (λ (r : Result RuleTable NameFault). IfOk r (λ table. MeansRule s.dim s.embeds (rule_form_of c.args.text.now c.args.rule.now) (rule_of table))) c.in-Ok.is c.in_ok-table.ensures.table
