use Rattle.std.proofs.Common.{subst, ◌+◌, ◌<◌, length, arith}
use Rattle.gm_text.specs.inner.Cursor.{Cursor}
use Rattle.gm_text.specs.inner.Lexing.{IsSignRead}
use Rattle.gm_text.proofs.SmallTokens.{sign_read}
use Rattle.gm_text.proofs.lexer.Lexer.sign_behind.Goals as goal

pub returns-then-self-start-clause-read : goal.returns-then-self-start-clause-read
returns-then-self-start-clause-read c _ =
    let text = c.self.inside.source.now in
    let place = c.in-Some.start in
    let inside : place < length text = omega (arith, c.in-Some.ensures.near, c.if-self.false) in
    subst (λ (old : Cursor). IsSignRead c.args.sign old (record { text = text; place = place + 1 })) c.self.view_is
    (sign_read text c.self.inside.at place c.args.sign c.in-Some.ensures.same inside c.if-self-start.true c.requires.sign c.requires.alone)

pub behind_this-requires-clause-inside : goal.behind_this-requires-clause-inside
behind_this-requires-clause-inside c = omega (arith, c.if-self.false)

pub bounds-self-inside-start : goal.bounds-self-inside-start
bounds-self-inside-start c = omega (arith, c.in-Some.ensures.near, c.if-self.false)

pub invariant_of-self : goal.invariant_of-self
invariant_of-self c = omega (arith, c.in-Some.ensures.near, c.if-self.false)

pub returns-then-self-start-clause-none : goal.returns-then-self-start-clause-none
returns-then-self-start-clause-none c = λ none. absurd cc
