use Rattle.std.proofs.lemmas.Result.{IfErr-weaker}
use Rattle.gm_text.specs.inner.Nested.{Outside}
use Rattle.gm_forms.specs.declared.form_fault.FormFault.{FormFault}
use Rattle.gm_forms.specs.inner.Reading.{AtFormat, AtVersion}
use Rattle.gm_text.specs.inner.SchemaAnswers.{marks_left}
use Rattle.gm_forms.specs.inner.Standing.{IsHeadFault}
use Rattle.gm_forms.proofs.HeadRead.{fault_behind}
use Rattle.gm_forms.proofs.headers.read_version.Goals as goal

pub returns-clause-fault : goal.returns-clause-fault
returns-clause-fault c =
    IfErr-weaker c.read_number.result (IsHeadFault (Outside AtVersion) (marks_left c.read_format.new.lexer)) (IsHeadFault (Outside AtFormat) (marks_left c.args.lexer.now))
    (λ (fault : FormFault) is. fault_behind (marks_left c.args.lexer.now) (marks_left c.read_format.new.lexer) fault c.in_ok-read_format.ensures.read is) c.read_number.ensures.fault
