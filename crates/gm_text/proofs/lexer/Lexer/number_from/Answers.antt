use Rattle.std.proofs.Common.{◌≡◌, ◌+◌, ◌≤◌, length, subst, sym, arith}
use Rattle.gm_model.specs.Tokens.{items_at}
use Rattle.gm_text.specs.inner.Cursor.{Cursor}
use Rattle.gm_text.specs.inner.Lexing.{IsNumberRead, rest_of}
use Rattle.gm_text.proofs.SmallTokens.{number_read}
use Rattle.gm_text.proofs.lexer.Lexer.number_from.Goals as goal

pub returns-clause-number : goal.returns-clause-number
returns-clause-number c =
    let text = c.self.inside.source.now in
    let place = c.args.place in
    let small = c.in_ok-value.field-0 in
    let told = c.in_ok-value.ensures in
    let view = c.self.view_is in
    let room = subst (λ (old : Cursor). place + 16 ≤ length old.text) (sym view) c.requires.room in
    let same = subst (λ (old : Cursor). rest_of old ≡ items_at old.text place) (sym view) c.requires.same in
    subst (λ (old : Cursor). IsNumberRead small.value place old (record { text = text; place = small.end })) view
    (number_read text c.self.inside.at place small.end small.value same (omega (arith, room)) told.digit told.end told.within told.value)
