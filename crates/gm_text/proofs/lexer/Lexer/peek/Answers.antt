use Rattle.std.proofs.Common.{◌<◌, length, sym, subst, ◌∙◌, arith}
use Rattle.gm_text.specs.inner.Lexing.{IsGap}
use Rattle.gm_text.proofs.Items.{items_at-end, items_at-stray, items_at-token}
use Rattle.gm_text.proofs.Longest.{IsLongest-at, HasNoLexeme-at}
use Rattle.gm_text.proofs.lexer.Lexer.peek.Goals as goal

pub returns-in-Some-clause-answer : goal.returns-in-Some-clause-answer
returns-in-Some-clause-answer c =
    let there = c.in-Some.ensures.token in
    rw (← c.self.view_is) (c.in-Some.ensures.same ∙ items_at-token _ _ _ (omega (arith, there.not_empty, there.within)) there)

pub returns-in-Some-clause-longest : goal.returns-in-Some-clause-longest
returns-in-Some-clause-longest c = rw (← c.self.view_is) (IsLongest-at _ _ _ c.in-Some.ensures.token)

pub returns-in-Some-token_at-clause-answer : goal.returns-in-Some-token_at-clause-answer
returns-in-Some-token_at-clause-answer c =
    rw (← c.self.view_is) (c.gap_end-start.ensures.same ∙ items_at-token _ _ _ (omega (arith, c.in-Some-token_at.ensures.not_empty, c.in-Some-token_at.ensures.within)) c.in-Some-token_at.ensures)

pub returns-in-Some-token_at-clause-longest : goal.returns-in-Some-token_at-clause-longest
returns-in-Some-token_at-clause-longest c = rw (← c.self.view_is) (IsLongest-at _ _ _ c.in-Some-token_at.ensures)

pub returns-in-None-clause-longest : goal.returns-in-None-clause-longest
returns-in-None-clause-longest c =
    rw (← c.self.view_is) (HasNoLexeme-at c.self.inside.source.now c.gap_end-start.result (omega (arith, c.gap_end-start.ensures.within)) c.in-None.ensures)

pub returns-in-Some-clause-span : goal.returns-in-Some-clause-span
returns-in-Some-clause-span c =
    let there = c.in-Some.ensures.token in
    rw (← c.self.view_is) (c.in-Some.ensures.behind, omega (arith, there.not_empty), there.within)

pub returns-in-Some-clause-gap : goal.returns-in-Some-clause-gap
returns-in-Some-clause-gap c = rw (← c.self.view_is) c.in-Some.ensures.gap

pub returns-then-start-self-clause-answer : goal.returns-then-start-self-clause-answer
returns-then-start-self-clause-answer c =
    rw (← c.self.view_is) (c.gap_end-start.ensures.same ∙ items_at-end c.self.inside.source.now c.gap_end-start.result c.if-start-self.true)

pub returns-then-start-self-clause-span : goal.returns-then-start-self-clause-span
returns-then-start-self-clause-span c = rw (← c.self.view_is) (omega (arith, c.gap_end-start.ensures.behind, c.if-start-self.true))

pub returns-then-start-self-clause-gap : goal.returns-then-start-self-clause-gap
returns-then-start-self-clause-gap c = rw (← c.self.view_is) (subst (IsGap c.self.inside.source.now c.self.inside.at) c.if-start-self.true c.gap_end-start.ensures.gap)

pub returns-in-Some-token_at-clause-span : goal.returns-in-Some-token_at-clause-span
returns-in-Some-token_at-clause-span c =
    let there = c.in-Some-token_at.ensures in
    rw (← c.self.view_is) (omega (arith, c.gap_end-start.ensures.behind, there.start), omega (arith, there.not_empty, there.start), there.within)

pub returns-in-Some-token_at-clause-gap : goal.returns-in-Some-token_at-clause-gap
returns-in-Some-token_at-clause-gap c =
    let start = c.in-Some-token_at.ensures.start in
    rw (← c.self.view_is) (subst (IsGap c.self.inside.source.now c.self.inside.at) (sym start) c.gap_end-start.ensures.gap)

pub returns-in-None-clause-answer : goal.returns-in-None-clause-answer
returns-in-None-clause-answer c =
    let inside : c.gap_end-start.result < length c.self.inside.source.now = omega (arith, c.gap_end-start.ensures.within, c.if-start-self.false) in
    rw (← c.self.view_is) (c.gap_end-start.ensures.same ∙ items_at-stray c.self.inside.source.now c.gap_end-start.result inside c.in-None.ensures)

pub returns-in-None-clause-gap : goal.returns-in-None-clause-gap
returns-in-None-clause-gap c = rw (← c.self.view_is) c.gap_end-start.ensures.gap

pub token_at-requires : goal.token_at-requires
token_at-requires c =
    let inside : c.gap_end-start.result < length c.self.inside.source.now = omega (arith, c.gap_end-start.ensures.within, c.if-start-self.false) in
    let stops = c.gap_end-start.ensures.stops inside in
    record { inside = inside; no_blank = stops.0; no_comment = stops.1 }
