use Rattle.std.proofs.Common.{◌≡◌, ℕ, List, sym, ap, subst, ◌∙◌}
use Rattle.std.specs.List.{AllByRecursion}
use Rattle.std.proofs.lemmas.Result.{err_from_is_err_and}
use Rattle.gm_model.specs.Symbols.{Mark}
use Rattle.gm_text.specs.inner.Cursor.{Cursor}
use Rattle.gm_text.specs.inner.Nested.{Outside}
use Rattle.gm_text.specs.inner.SchemaAnswers.{marks_left, IsSchemaRead}
use Rattle.gm_text.proofs.OneSchema.{one_skipped}
use Rattle.gm_forms.specs.inner.Forms.{forms_of}
use Rattle.gm_forms.specs.inner.Reading.{AtFormat, heading_at}
use Rattle.gm_forms.specs.inner.Standing.{IsHeaded, IsHeadFault, AreRulesRead}
use Rattle.gm_book.specs.inner.Fitting.{IsFitting, HasExprs}
use Rattle.gm_book.proofs.ReadBook.{rules_there, fitting_there, exprs_there, head_fault, skip_fault, rules_fault, names_in_schema, answer_stands, answer_faults, answer_in_range, answer_within_limits, answer_typed, answer_unsigned}
use Rattle.gm_model.proofs.Exits.{unless_ok}
use Rattle.gm_book.proofs.reading.read_book.Goals as goal

pub returns-in_err-version-clause-fault : goal.returns-in_err-version-clause-fault
returns-in_err-version-clause-fault c =
    let p = err_from_is_err_and c.from_residual.result c.from_residual.ensures.1 in
    let fault = c.in_err-version.field-0.0 in
    rw (p.1, p.2) (head_fault c.args.bytes.now fault (subst (λ (ms : List Mark). IsHeadFault (Outside AtFormat) ms fault) (ap marks_left c.new-lexer.ensures) c.in_err-version.ensures.fault))

pub returns-in_err-dim-clause-fault : goal.returns-in_err-dim-clause-fault
returns-in_err-dim-clause-fault c =
    let p = err_from_is_err_and c.from_residual-in_err-dim.result c.from_residual-in_err-dim.ensures.1 in
    let text = c.args.bytes.now in
    let version = c.in_ok-version.version in
    let old = c.read_version.new.lexer in
    let headed = subst (λ (ms : List Mark). IsHeaded ms version (marks_left old)) (ap marks_left c.new-lexer.ensures) c.in_ok-version.ensures.read in
    rw (p.1, p.2) (skip_fault text version old headed c.in_err-dim.field-0.0 c.in_err-dim.ensures.stops)

pub returns-in_err-forms-clause-fault : goal.returns-in_err-forms-clause-fault
returns-in_err-forms-clause-fault c =
    let p = err_from_is_err_and c.from_residual-in_err-forms.result c.from_residual-in_err-forms.ensures.1 in
    let text = c.args.bytes.now in
    let version = c.in_ok-version.version in
    let old = c.read_version.new.lexer in
    let headed = subst (λ (ms : List Mark). IsHeaded ms version (marks_left old)) (ap marks_left c.new-lexer.ensures) c.in_ok-version.ensures.read in
    let new = c.skip_schema.new.lexer in
    let n = c.in_ok-dim.dim in
    rw (p.1, p.2) (rules_fault text version old headed new n c.in_ok-dim.ensures.runs c.in_ok-dim.ensures.dim c.in_err-forms.field-0.0 c.in_err-forms.ensures.fault)

pub returns-in_err-schema-clause-fault : goal.returns-in_err-schema-clause-fault
returns-in_err-schema-clause-fault c =
    let p = err_from_is_err_and c.from_residual-in_err-schema.result c.from_residual-in_err-schema.ensures.1 in
    let text = c.args.bytes.now in
    let version = c.in_ok-version.version in
    let old = c.read_version.new.lexer in
    let headed = subst (λ (ms : List Mark). IsHeaded ms version (marks_left old)) (ap marks_left c.new-lexer.ensures) c.in_ok-version.ensures.read in
    let new = c.skip_schema.new.lexer in
    let n = c.in_ok-dim.dim in
    let same = c.in_ok-dim.ensures.text ∙ c.in_ok-version.ensures.text ∙ ap (λ (cursor : Cursor). cursor.text) c.new-lexer.ensures in
    let forms = c.in_ok-forms.forms.items in
    let read = subst (λ (t : List ℕ). AreRulesRead (heading_at version n) (marks_left new) (forms_of t forms)) same c.in_ok-forms.ensures.forms in
    let there = rules_there version n (marks_left new) (forms_of text forms) read in
    rw (p.1, p.2) (names_in_schema text version old headed new n c.in_ok-dim.ensures.runs c.in_ok-dim.ensures.dim (forms_of text forms) there c.fork-again.result c.in_err-schema.field-0.0 c.fork-again.ensures c.in_err-schema.ensures.stops)

pub build-requires-clause-fits : goal.build-requires-clause-fits
build-requires-clause-fits c =
    let text = c.args.bytes.now in
    let version = c.in_ok-version.version in
    let old = c.read_version.new.lexer in
    let new = c.skip_schema.new.lexer in
    let n = c.in_ok-dim.dim in
    let same = c.in_ok-dim.ensures.text ∙ c.in_ok-version.ensures.text ∙ ap (λ (cursor : Cursor). cursor.text) c.new-lexer.ensures in
    let forms = c.in_ok-forms.forms.items in
    let read = subst (λ (t : List ℕ). AreRulesRead (heading_at version n) (marks_left new) (forms_of t forms)) same c.in_ok-forms.ensures.forms in
    let there = rules_there version n (marks_left new) (forms_of text forms) read in
    let declared = c.in_ok-schema.schema in
    let found = subst (λ (cursor : Cursor). IsSchemaRead cursor c.read_schema.new.lexer declared) c.fork-again.ensures c.in_ok-schema.ensures.schema in
    let dim : declared.dim ≡ n = (one_skipped old c.read_schema.new.lexer new declared n found c.in_ok-dim.ensures.dim).0 in
    subst (λ m. AllByRecursion (IsFitting m) (forms_of text forms)) (sym dim) (fitting_there version n new (forms_of text forms) there)

pub build-requires-clause-exprs : goal.build-requires-clause-exprs
build-requires-clause-exprs c =
    let text = c.args.bytes.now in
    let version = c.in_ok-version.version in
    let old = c.read_version.new.lexer in
    let new = c.skip_schema.new.lexer in
    let n = c.in_ok-dim.dim in
    let same = c.in_ok-dim.ensures.text ∙ c.in_ok-version.ensures.text ∙ ap (λ (cursor : Cursor). cursor.text) c.new-lexer.ensures in
    let forms = c.in_ok-forms.forms.items in
    let read = subst (λ (t : List ℕ). AreRulesRead (heading_at version n) (marks_left new) (forms_of t forms)) same c.in_ok-forms.ensures.forms in
    let there = rules_there version n (marks_left new) (forms_of text forms) read in
    let declared = c.in_ok-schema.schema in
    let found = subst (λ (cursor : Cursor). IsSchemaRead cursor c.read_schema.new.lexer declared) c.fork-again.ensures c.in_ok-schema.ensures.schema in
    let dim : declared.dim ≡ n = (one_skipped old c.read_schema.new.lexer new declared n found c.in_ok-dim.ensures.dim).0 in
    subst (λ m. AllByRecursion (HasExprs m) (forms_of text forms)) (sym dim) (exprs_there version n (marks_left new) (forms_of text forms) there)

pub returns-clause-book : goal.returns-clause-book
returns-clause-book c =
    let text = c.args.bytes.now in
    let version = c.in_ok-version.version in
    let old = c.read_version.new.lexer in
    let headed = subst (λ (ms : List Mark). IsHeaded ms version (marks_left old)) (ap marks_left c.new-lexer.ensures) c.in_ok-version.ensures.read in
    let new = c.skip_schema.new.lexer in
    let n = c.in_ok-dim.dim in
    let same = c.in_ok-dim.ensures.text ∙ c.in_ok-version.ensures.text ∙ ap (λ (cursor : Cursor). cursor.text) c.new-lexer.ensures in
    let forms = c.in_ok-forms.forms.items in
    let read = subst (λ (t : List ℕ). AreRulesRead (heading_at version n) (marks_left new) (forms_of t forms)) same c.in_ok-forms.ensures.forms in
    let there = rules_there version n (marks_left new) (forms_of text forms) read in
    let declared = c.in_ok-schema.schema in
    let found = subst (λ (cursor : Cursor). IsSchemaRead cursor c.read_schema.new.lexer declared) c.fork-again.ensures c.in_ok-schema.ensures.schema in
    answer_stands text version old headed new n c.in_ok-dim.ensures.runs c.in_ok-dim.ensures.dim (forms_of text forms) there declared c.read_schema.new.lexer found c.build.result c.build.ensures.version c.build.ensures.schema c.build.ensures.rules c.build.ensures.sound

pub returns-clause-in_range : goal.returns-clause-in_range
returns-clause-in_range c = answer_in_range c.args.bytes.now c.build.result (returns-clause-book c)

pub returns-clause-limits : goal.returns-clause-limits
returns-clause-limits c = answer_within_limits c.args.bytes.now c.build.result (returns-clause-book c)

pub returns-clause-typed : goal.returns-clause-typed
returns-clause-typed c = answer_typed c.args.bytes.now c.build.result (returns-clause-book c)

pub returns-clause-unsigned : goal.returns-clause-unsigned
returns-clause-unsigned c = answer_unsigned c.args.bytes.now c.build.result (returns-clause-book c)

pub returns-clause-fault : goal.returns-clause-fault
returns-clause-fault c =
    let text = c.args.bytes.now in
    let version = c.in_ok-version.version in
    let old = c.read_version.new.lexer in
    let headed = subst (λ (ms : List Mark). IsHeaded ms version (marks_left old)) (ap marks_left c.new-lexer.ensures) c.in_ok-version.ensures.read in
    let new = c.skip_schema.new.lexer in
    let n = c.in_ok-dim.dim in
    let same = c.in_ok-dim.ensures.text ∙ c.in_ok-version.ensures.text ∙ ap (λ (cursor : Cursor). cursor.text) c.new-lexer.ensures in
    let forms = c.in_ok-forms.forms.items in
    let read = subst (λ (t : List ℕ). AreRulesRead (heading_at version n) (marks_left new) (forms_of t forms)) same c.in_ok-forms.ensures.forms in
    let there = rules_there version n (marks_left new) (forms_of text forms) read in
    let declared = c.in_ok-schema.schema in
    let found = subst (λ (cursor : Cursor). IsSchemaRead cursor c.read_schema.new.lexer declared) c.fork-again.ensures c.in_ok-schema.ensures.schema in
    answer_faults text version old headed new n c.in_ok-dim.ensures.runs c.in_ok-dim.ensures.dim (forms_of text forms) there declared c.read_schema.new.lexer found c.build.result c.build.ensures.fault

pub returns-in_err-version-clause-book : goal.returns-in_err-version-clause-book
returns-in_err-version-clause-book c = unless_ok _ c.from_residual.result c.from_residual.ensures.0

pub returns-in_err-version-clause-schema : goal.returns-in_err-version-clause-schema
returns-in_err-version-clause-schema c = unless_ok _ c.from_residual.result c.from_residual.ensures.0

pub returns-in_err-version-clause-in_range : goal.returns-in_err-version-clause-in_range
returns-in_err-version-clause-in_range c = unless_ok _ c.from_residual.result c.from_residual.ensures.0

pub returns-in_err-version-clause-limits : goal.returns-in_err-version-clause-limits
returns-in_err-version-clause-limits c = unless_ok _ c.from_residual.result c.from_residual.ensures.0

pub returns-in_err-version-clause-typed : goal.returns-in_err-version-clause-typed
returns-in_err-version-clause-typed c = unless_ok _ c.from_residual.result c.from_residual.ensures.0

pub returns-in_err-version-clause-unsigned : goal.returns-in_err-version-clause-unsigned
returns-in_err-version-clause-unsigned c = unless_ok _ c.from_residual.result c.from_residual.ensures.0

pub returns-in_err-dim-clause-book : goal.returns-in_err-dim-clause-book
returns-in_err-dim-clause-book c = unless_ok _ c.from_residual-in_err-dim.result c.from_residual-in_err-dim.ensures.0

pub returns-in_err-dim-clause-schema : goal.returns-in_err-dim-clause-schema
returns-in_err-dim-clause-schema c = unless_ok _ c.from_residual-in_err-dim.result c.from_residual-in_err-dim.ensures.0

pub returns-in_err-dim-clause-in_range : goal.returns-in_err-dim-clause-in_range
returns-in_err-dim-clause-in_range c = unless_ok _ c.from_residual-in_err-dim.result c.from_residual-in_err-dim.ensures.0

pub returns-in_err-dim-clause-limits : goal.returns-in_err-dim-clause-limits
returns-in_err-dim-clause-limits c = unless_ok _ c.from_residual-in_err-dim.result c.from_residual-in_err-dim.ensures.0

pub returns-in_err-dim-clause-typed : goal.returns-in_err-dim-clause-typed
returns-in_err-dim-clause-typed c = unless_ok _ c.from_residual-in_err-dim.result c.from_residual-in_err-dim.ensures.0

pub returns-in_err-dim-clause-unsigned : goal.returns-in_err-dim-clause-unsigned
returns-in_err-dim-clause-unsigned c = unless_ok _ c.from_residual-in_err-dim.result c.from_residual-in_err-dim.ensures.0

pub returns-in_err-forms-clause-book : goal.returns-in_err-forms-clause-book
returns-in_err-forms-clause-book c = unless_ok _ c.from_residual-in_err-forms.result c.from_residual-in_err-forms.ensures.0

pub returns-in_err-forms-clause-schema : goal.returns-in_err-forms-clause-schema
returns-in_err-forms-clause-schema c = unless_ok _ c.from_residual-in_err-forms.result c.from_residual-in_err-forms.ensures.0

pub returns-in_err-forms-clause-in_range : goal.returns-in_err-forms-clause-in_range
returns-in_err-forms-clause-in_range c = unless_ok _ c.from_residual-in_err-forms.result c.from_residual-in_err-forms.ensures.0

pub returns-in_err-forms-clause-limits : goal.returns-in_err-forms-clause-limits
returns-in_err-forms-clause-limits c = unless_ok _ c.from_residual-in_err-forms.result c.from_residual-in_err-forms.ensures.0

pub returns-in_err-forms-clause-typed : goal.returns-in_err-forms-clause-typed
returns-in_err-forms-clause-typed c = unless_ok _ c.from_residual-in_err-forms.result c.from_residual-in_err-forms.ensures.0

pub returns-in_err-forms-clause-unsigned : goal.returns-in_err-forms-clause-unsigned
returns-in_err-forms-clause-unsigned c = unless_ok _ c.from_residual-in_err-forms.result c.from_residual-in_err-forms.ensures.0

pub returns-in_err-schema-clause-book : goal.returns-in_err-schema-clause-book
returns-in_err-schema-clause-book c = unless_ok _ c.from_residual-in_err-schema.result c.from_residual-in_err-schema.ensures.0

pub returns-in_err-schema-clause-schema : goal.returns-in_err-schema-clause-schema
returns-in_err-schema-clause-schema c = unless_ok _ c.from_residual-in_err-schema.result c.from_residual-in_err-schema.ensures.0

pub returns-in_err-schema-clause-in_range : goal.returns-in_err-schema-clause-in_range
returns-in_err-schema-clause-in_range c = unless_ok _ c.from_residual-in_err-schema.result c.from_residual-in_err-schema.ensures.0

pub returns-in_err-schema-clause-limits : goal.returns-in_err-schema-clause-limits
returns-in_err-schema-clause-limits c = unless_ok _ c.from_residual-in_err-schema.result c.from_residual-in_err-schema.ensures.0

pub returns-in_err-schema-clause-typed : goal.returns-in_err-schema-clause-typed
returns-in_err-schema-clause-typed c = unless_ok _ c.from_residual-in_err-schema.result c.from_residual-in_err-schema.ensures.0

pub returns-in_err-schema-clause-unsigned : goal.returns-in_err-schema-clause-unsigned
returns-in_err-schema-clause-unsigned c = unless_ok _ c.from_residual-in_err-schema.result c.from_residual-in_err-schema.ensures.0
