use Rattle.std.proofs.Common.{List, map, refl, sym, ap, subst}
use Rattle.std.specs.Result.{result_err}
use Rattle.gm_forms.specs.declared.form.RuleForm.{RuleForm}
use Rattle.gm_forms.specs.inner.Forms.{IsRuleIn, forms_of}
use Rattle.gm_book.specs.inner.Building.{HasNoFaultInRules, IsFaultOfNames}
use Rattle.gm_book.specs.inner.FirstNameFault.{IsLeastFault}
use Rattle.gm_book.proofs.Built.{no_fault, first_fault}
use Rattle.gm_book.proofs.RuleFaults.{least_of_all}
use Rattle.gm_model.proofs.Exits.{unless_ok}
use Rattle.std.specs.List.{AllByRecursion, AllZip}
use Rattle.gm_model.specs.declared.rule.RuleTable.{RuleTable}
use Rattle.gm_model.specs.Rules.{rule_of}
use Rattle.gm_forms.specs.BookText.{MeansRule}
use Rattle.gm_book.proofs.Checked.{ok_at}
use Rattle.gm_book.proofs.building.build.Goals as goal

pub returns-in-Err-clause-fault : goal.returns-in-Err-clause-fault
returns-in-Err-clause-fault c =
    let n = c.args.schema.dim in
    let embeds = c.args.schema.embeds in
    let rules = forms_of c.args.text.now c.deref.result.now in
    let read = c.in_ok-tables.field-0 in
    let least = least_of_all n embeds rules (result_err read) c.in_ok-tables.ensures.fault in
    let found = subst (IsFaultOfNames n embeds rules) (sym c.from.ensures) (first_fault n embeds rules c.in-Err.fault (subst (IsLeastFault n embeds rules) (ap result_err c.in-Err.is) least)) in
    subst (λ (forms : List RuleForm). IsFaultOfNames n embeds (forms_of c.args.text.now forms) c.from.result) c.deref.ensures.value found

pub returns-in-Ok-clause-sound : goal.returns-in-Ok-clause-sound
returns-in-Ok-clause-sound c =
    let n = c.args.schema.dim in
    let embeds = c.args.schema.embeds in
    let rules = forms_of c.args.text.now c.deref.result.now in
    let read = c.in_ok-tables.field-0 in
    let least = least_of_all n embeds rules (result_err read) c.in_ok-tables.ensures.fault in
    subst (λ (forms : List RuleForm). HasNoFaultInRules n embeds (forms_of c.args.text.now forms)) c.deref.ensures.value
    (no_fault n embeds rules (subst (IsLeastFault n embeds rules) (ap result_err c.in-Ok.is) least))

pub returns-in_err-tables-clause-version : goal.returns-in_err-tables-clause-version
returns-in_err-tables-clause-version c = unless_ok _ c.from_residual.result c.from_residual.ensures.0

pub returns-in_err-tables-clause-schema : goal.returns-in_err-tables-clause-schema
returns-in_err-tables-clause-schema c = unless_ok _ c.from_residual.result c.from_residual.ensures.0

pub returns-in_err-tables-clause-rules : goal.returns-in_err-tables-clause-rules
returns-in_err-tables-clause-rules c = unless_ok _ c.from_residual.result c.from_residual.ensures.0

pub returns-in_err-tables-clause-sound : goal.returns-in_err-tables-clause-sound
returns-in_err-tables-clause-sound c = unless_ok _ c.from_residual.result c.from_residual.ensures.0

pub read_tables-requires-clause-within : goal.read_tables-requires-clause-within
read_tables-requires-clause-within c = subst (AllByRecursion (IsRuleIn c.args.text.now)) (sym c.deref.ensures.value) c.requires.names

pub read_tables-requires-clause-schema : goal.read_tables-requires-clause-schema
read_tables-requires-clause-schema c = c.requires.schema

pub read_tables-requires-clause-fits : goal.read_tables-requires-clause-fits
read_tables-requires-clause-fits c = rw c.deref.ensures.value c.requires.fits

pub read_tables-requires-clause-exprs : goal.read_tables-requires-clause-exprs
read_tables-requires-clause-exprs c = rw c.deref.ensures.value c.requires.exprs

pub returns-in-Ok-clause-version : goal.returns-in-Ok-clause-version
returns-in-Ok-clause-version c = refl

pub returns-in-Ok-clause-schema : goal.returns-in-Ok-clause-schema
returns-in-Ok-clause-schema c = refl

pub returns-in-Ok-clause-rules : goal.returns-in-Ok-clause-rules
returns-in-Ok-clause-rules c =
    let n = c.args.schema.dim in
    let embeds = c.args.schema.embeds in
    let text = c.args.text.now in
    let lent = c.deref.result.now in
    let read = ok_at _ c.in_ok-tables.field-0 c.in-Ok.tables c.in-Ok.is c.in_ok-tables.ensures.tables in
    subst (λ (forms : List RuleForm). AllZip (MeansRule n embeds) (forms_of text forms) (map rule_of c.new.result)) c.deref.ensures.value
    (subst (λ (rules : List RuleTable). AllZip (MeansRule n embeds) (forms_of text lent) (map rule_of rules)) (sym c.new.ensures) read)

pub returns-in-Ok-clause-fault : goal.returns-in-Ok-clause-fault
returns-in-Ok-clause-fault c = tt

pub returns-in-Err-clause-version : goal.returns-in-Err-clause-version
returns-in-Err-clause-version c = tt

pub returns-in-Err-clause-schema : goal.returns-in-Err-clause-schema
returns-in-Err-clause-schema c = tt

pub returns-in-Err-clause-rules : goal.returns-in-Err-clause-rules
returns-in-Err-clause-rules c = tt

pub returns-in-Err-clause-sound : goal.returns-in-Err-clause-sound
returns-in-Err-clause-sound c = tt
