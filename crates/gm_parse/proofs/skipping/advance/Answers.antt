use Rattle.std.proofs.Common.{sym, subst, ◌∙◌}
use Rattle.gm_text.specs.inner.Cursor.{Cursor}
use Rattle.gm_text.specs.inner.SchemaAnswers.{IsNext, IsNoneNext}
use Rattle.gm_parse.proofs.Steps.{none_ok, none_err, none_stays, token_ok, token_err, token_stays, token_left, token_passes, token_on}
use Rattle.gm_parse.proofs.skipping.advance.Goals as goal

pub returns-in-Err-clause-on : goal.returns-in-Err-clause-on
returns-in-Err-clause-on c =
    let none = subst (λ (cursor : Cursor). IsNoneNext cursor c.in-Err.place) c.fork-ahead.ensures c.in-Err.ensures.none in
    none_ok c.args.dim c.args.count c.args.state.now c.args.lexer.now c.in-Err.place c.end_before.result c.end_before.ensures.ok none

pub returns-in-Err-clause-stops : goal.returns-in-Err-clause-stops
returns-in-Err-clause-stops c =
    let none = subst (λ (cursor : Cursor). IsNoneNext cursor c.in-Err.place) c.fork-ahead.ensures c.in-Err.ensures.none in
    none_err c.args.dim c.args.count c.args.state.now c.args.lexer.now c.in-Err.place c.end_before.result c.end_before.ensures.err none

pub returns-then-not-go_on-clause-on : goal.returns-then-not-go_on-clause-on
returns-then-not-go_on-clause-on c =
    let next = subst (λ (cursor : Cursor). IsNext cursor c.in-Ok.token c.token.new.self) c.fork-ahead.ensures c.in-Ok.ensures.next in
    token_ok c.args.dim c.args.count c.args.state.now c.go_on.new.self c.args.lexer.now c.token.new.self c.in-Ok.token c.key_at-key.result next c.key_at-key.ensures c.go_on.result c.end_before-then-not-go_on.result c.if-not-go_on.true c.go_on.ensures c.end_before-then-not-go_on.ensures.ok

pub returns-then-not-go_on-clause-stops : goal.returns-then-not-go_on-clause-stops
returns-then-not-go_on-clause-stops c =
    let next = subst (λ (cursor : Cursor). IsNext cursor c.in-Ok.token c.token.new.self) c.fork-ahead.ensures c.in-Ok.ensures.next in
    token_err c.args.dim c.args.count c.args.state.now c.go_on.new.self c.args.lexer.now c.token.new.self c.in-Ok.token c.key_at-key.result next c.key_at-key.ensures c.go_on.result c.end_before-then-not-go_on.result c.if-not-go_on.true c.go_on.ensures c.end_before-then-not-go_on.ensures.err

pub returns-in-Some-clause-stops : goal.returns-in-Some-clause-stops
returns-in-Some-clause-stops c =
    let next = subst (λ (cursor : Cursor). IsNext cursor c.in-Ok.token c.token.new.self) c.fork-ahead.ensures c.in-Ok.ensures.next in
    token_passes c.args.dim c.args.count c.args.state.now c.go_on.new.self c.args.lexer.now c.token.new.self c.in-Ok.token c.key_at-key.result next c.key_at-key.ensures c.place-place.result c.place-place.ensures c.go_on.result c.if-not-go_on.false c.go_on.ensures c.in-Some.what (sym c.in-Some.is ∙ c.limit_passed.ensures)

pub returns-clause-on : goal.returns-clause-on
returns-clause-on c =
    let next = subst (λ (cursor : Cursor). IsNext cursor c.in-Ok.token c.token.new.self) c.fork-ahead.ensures c.in-Ok.ensures.next in
    token_on c.args.dim c.args.count c.args.state.now c.go_on.new.self c.args.lexer.now c.token.new.self c.in-Ok.token c.key_at-key.result next c.key_at-key.ensures c.place-place.result c.place-place.ensures c.go_on.result c.if-not-go_on.false c.go_on.ensures (sym c.in_default.is ∙ c.limit_passed.ensures) c.requires.room

pub returns-in-Err-clause-left : goal.returns-in-Err-clause-left
returns-in-Err-clause-left c = none_stays c.args.state.now c.args.lexer.now c.in-Err.place c.end_before.result c.end_before.ensures.err

pub returns-then-not-go_on-clause-left : goal.returns-then-not-go_on-clause-left
returns-then-not-go_on-clause-left c =
    let next = subst (λ (cursor : Cursor). IsNext cursor c.in-Ok.token c.token.new.self) c.fork-ahead.ensures c.in-Ok.ensures.next in
    token_stays c.args.dim c.args.count c.args.state.now c.go_on.new.self c.args.lexer.now c.token.new.self c.in-Ok.token c.key_at-key.result next c.key_at-key.ensures c.go_on.result c.end_before-then-not-go_on.result c.if-not-go_on.true c.go_on.ensures c.end_before-then-not-go_on.ensures.err

pub returns-in-Some-clause-left : goal.returns-in-Some-clause-left
returns-in-Some-clause-left c =
    let next = subst (λ (cursor : Cursor). IsNext cursor c.in-Ok.token c.token.new.self) c.fork-ahead.ensures c.in-Ok.ensures.next in
    token_left c.args.dim c.args.count c.args.state.now c.go_on.new.self c.args.lexer.now c.token.new.self c.in-Ok.token c.key_at-key.result next c.key_at-key.ensures c.place-place.result c.place-place.ensures c.go_on.result c.if-not-go_on.false c.go_on.ensures c.in-Some.what
