use Rattle.std.proofs.lemmas.Result.{err_from_is_err_and}
use Rattle.gm_model.proofs.Exits.{unless_ok}
use Rattle.gm_text.specs.inner.SchemaAnswers.{marks_left}
use Rattle.gm_forms.specs.inner.Standing.{rules_of, current_of}
use Rattle.gm_forms.proofs.Run.{are_rules_read, is_rules_fault}
use Rattle.gm_forms.proofs.first_pass.read_forms_by.Goals as goal

pub returns-in_err-read_rules-clause-forms : goal.returns-in_err-read_rules-clause-forms
returns-in_err-read_rules-clause-forms c = unless_ok _ c.from_residual.result c.from_residual.ensures.0

pub returns-in_err-read_rules-clause-within : goal.returns-in_err-read_rules-clause-within
returns-in_err-read_rules-clause-within c = unless_ok _ c.from_residual.result c.from_residual.ensures.0

pub returns-in_err-read_rules-clause-fault : goal.returns-in_err-read_rules-clause-fault
returns-in_err-read_rules-clause-fault c =
    let p = err_from_is_err_and c.from_residual.result c.from_residual.ensures.1 in
    rw (p.1, p.2) (is_rules_fault c.args.heading (marks_left c.args.lexer.now) c.in_err-read_rules.field-0.0 c.in_err-read_rules.ensures.read)

pub returns-clause-forms : goal.returns-clause-forms
returns-clause-forms c =
    let text = c.args.lexer.now.text in
    let draft = c.read_rules.new.reader.draft in
    rw c.replace.ensures.value (are_rules_read c.args.heading (marks_left c.args.lexer.now) _ (rules_of text draft) (current_of text draft) c.in_ok-read_rules.ensures.read)
