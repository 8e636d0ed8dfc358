use Rattle.gm_model.proofs.Exits.{unless_ok}
use Rattle.std.specs.Prelude.{IfOk, IfErr}
use Rattle.std.proofs.Common.{false, subst, ◌∙◌}
use Rattle.std.proofs.lemmas.Result.{err_from_is_err_and}
use Rattle.gm_text.specs.inner.Cursor.{Cursor}
use Rattle.gm_mapfile.specs.inner.Words.{IsSignedNext, IsNoSignedNext}
use Rattle.gm_mapfile.proofs.WordTokens.{plain_next, sign_next, minus_next, minus_lacks}
use Rattle.gm_mapfile.proofs.values.read_signed.Goals as goal

pub returns-in_err-value-clause-none : goal.returns-in_err-value-clause-none
returns-in_err-value-clause-none c =
    let p = err_from_is_err_and c.from_residual.result c.from_residual.ensures.1 in
    let minus = c.small_sign.ensures.read c.if-small_sign.true in
    rw (p.1, p.2) (minus_lacks c.args.lexer.now c.small_sign.new.self minus.place c.in_err-value.field-0.0 (sign_next 45 c.args.lexer.now c.small_sign.new.self minus) c.in_err-value.ensures.none)

pub returns-in-Some-clause-next : goal.returns-in-Some-clause-next
returns-in-Some-clause-next c =
    let found = c.in-Some.field-0 in
    let between = c.small_sign.new.self in
    let new = c.small_numeral.new.lexer in
    subst (λ (old : Cursor). IsSignedNext old false found.value found.place new) (c.small_sign.ensures.none c.if-small_sign.false)
    (plain_next between new found.value found.place c.in-Some.ensures.next)

pub returns-in_err-value-clause-next : goal.returns-in_err-value-clause-next
returns-in_err-value-clause-next c = unless_ok _ c.from_residual.result c.from_residual.ensures.0

pub returns-then-small_sign-clause-next : goal.returns-then-small_sign-clause-next
returns-then-small_sign-clause-next c =
    let minus = c.small_sign.ensures.read c.if-small_sign.true in
    let found = c.in_ok-value.field-0 in
    minus_next c.args.lexer.now c.small_sign.new.self c.read_number.new.lexer minus.place found.value found.place (sign_next 45 c.args.lexer.now c.small_sign.new.self minus) c.in_ok-value.ensures.next

pub returns-clause-next : goal.returns-clause-next
returns-clause-next c =
    let back = c.in_default.ensures.none ∙ c.small_sign.ensures.none c.if-small_sign.false in
    subst (λ (old : Cursor). IfOk c.read_signed_numeral.result (λ found. IsSignedNext old found.minus found.size found.place c.read_signed_numeral.new.lexer)) back c.read_signed_numeral.ensures.next

pub returns-clause-none : goal.returns-clause-none
returns-clause-none c =
    let back = c.in_default.ensures.none ∙ c.small_sign.ensures.none c.if-small_sign.false in
    subst (λ (old : Cursor). IfErr c.read_signed_numeral.result (IsNoSignedNext old)) back c.read_signed_numeral.ensures.none
