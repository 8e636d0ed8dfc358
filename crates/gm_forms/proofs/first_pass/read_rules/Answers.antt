use Rattle.std.proofs.Common.{ℕ, ◌≤◌, List, length, ◌∙◌, Option, Ok, subst, arith}
use Rattle.std.proofs.lemmas.Result.{err_from_is_err_and}
use Rattle.gm_model.specs.declared.token.Token.{Token}
use Rattle.gm_text.specs.inner.SchemaAnswers.{marks_left}
use Rattle.gm_forms.specs.inner.Standing.{IsNext, IsStateIn, IsDraftIn, rules_stand, stand_of, read_on}
use Rattle.gm_forms.proofs.Onward.{goes_on, stops_here, keeps_on, past_on, past_stops, stray_stops}
use Rattle.gm_model.proofs.Exits.{unless_ok}
use Rattle.gm_forms.proofs.first_pass.read_rules.Goals as goal

pub returns-in_err-token-clause-read : goal.returns-in_err-token-clause-read
returns-in_err-token-clause-read c =
    let p = err_from_is_err_and c.from_residual.result c.from_residual.ensures.1 in
    let text = c.args.lexer.now.text in
    let l = c.loop-token in
    let so_far = l.invariant.1 in
    let whole = read_on (rules_stand c.args.heading) (marks_left c.args.lexer.now) in
    rw (p.1, p.2)
    (stray_stops l.lexer c.next_token.new.lexer c.in_err-token.field-0.0 (stand_of text l.reader.nodes l.reader.draft l.state l.last) whole c.in_err-token.ensures.next so_far)

pub returns-in_err-next-clause-read : goal.returns-in_err-next-clause-read
returns-in_err-next-clause-read c =
    let p = err_from_is_err_and c.from_residual-in_err-next.result c.from_residual-in_err-next.ensures.1 in
    let text = c.args.lexer.now.text in
    let l = c.loop-token in
    let is = subst (λ (found : Option Token). IsNext l.lexer (Ok found) c.next_token.new.lexer) c.in-Some.is c.in_ok-token.ensures.next in
    let so_far = l.invariant.1 in
    let whole = read_on (rules_stand c.args.heading) (marks_left c.args.lexer.now) in
    rw (p.1, p.2)
    (stops_here text l.lexer c.next_token.new.lexer l.invariant.0 c.in_ok-token.ensures.text c.in-Some.token l.reader.nodes c.step.new.self.nodes l.reader.draft c.step.new.self.draft l.state l.last whole
    c.in_err-next.field-0.0 is c.in_err-next.ensures.moves so_far)

pub returns-in_err-state-clause-read : goal.returns-in_err-state-clause-read
returns-in_err-state-clause-read c =
    let p = err_from_is_err_and c.from_residual-in_err-state.result c.from_residual-in_err-state.ensures.1 in
    let text = c.args.lexer.now.text in
    let l = c.loop-token in
    let is = subst (λ (found : Option Token). IsNext l.lexer (Ok found) c.next_token.new.lexer) c.in-Some.is c.in_ok-token.ensures.next in
    let still = c.in_ok-token.ensures.text in
    let new = c.step.new.self in
    let put = c.past_value.new.self in
    let whole = read_on (rules_stand c.args.heading) (marks_left c.args.lexer.now) in
    let on = goes_on text l.lexer c.next_token.new.lexer l.invariant.0 still c.in-Some.token l.reader.nodes new.nodes l.reader.draft new.draft l.state l.last whole c.in_ok-next.next is c.in_ok-next.ensures.moves l.invariant.1 in
    rw (p.1, p.2)
    (past_stops text c.next_token.new.lexer c.past_value.new.lexer (still ∙ l.invariant.0) new.nodes put.nodes new.draft put.draft c.in_ok-next.next c.in-Some.token.start whole
    c.in_err-state.field-0.0 (c.in_err-state.ensures.past c.in-Some.token.start) on)

pub loop-token-preserved : goal.loop-token-preserved
loop-token-preserved c =
    let text = c.args.lexer.now.text in
    let l = c.loop-token in
    let is = subst (λ (found : Option Token). IsNext l.lexer (Ok found) c.next_token.new.lexer) c.in-Some.is c.in_ok-token.ensures.next in
    let still = c.in_ok-token.ensures.text in
    let same = still ∙ l.invariant.0 in
    let new = c.step.new.self in
    let put = c.past_value.new.self in
    let next = c.in_ok-next.next in
    let whole = read_on (rules_stand c.args.heading) (marks_left c.args.lexer.now) in
    let within = keeps_on text l.lexer c.next_token.new.lexer l.invariant.0 still c.in-Some.token l.reader.nodes new.nodes l.reader.draft new.draft l.state l.last whole next c.in_ok-next.ensures.within l.invariant.2 l.invariant.3 in
    let kept = subst (λ (t : List ℕ). IsStateIn t next → IsDraftIn t new.draft → IsStateIn t c.in_ok-state.state × IsDraftIn t put.draft) same c.in_ok-state.ensures.within within.0 within.1 in
    let on = goes_on text l.lexer c.next_token.new.lexer l.invariant.0 still c.in-Some.token l.reader.nodes new.nodes l.reader.draft new.draft l.state l.last whole next is c.in_ok-next.ensures.moves l.invariant.1 in (
      c.in_ok-state.ensures.text ∙ same,
      past_on text c.next_token.new.lexer c.past_value.new.lexer same new.nodes put.nodes new.draft put.draft next c.in-Some.token.start whole c.in_ok-state.state (c.in_ok-state.ensures.past c.in-Some.token.start) on,
      kept.0,
      kept.1,
      c.in_ok-state.ensures.outside,
    )

pub step-requires-clause-outside : goal.step-requires-clause-outside
step-requires-clause-outside c = c.loop-token.invariant.4

pub end-requires : goal.end-requires
end-requires c = c.loop-token.invariant.4

pub loop-token-smaller : goal.loop-token-smaller
loop-token-smaller c =
    let l = c.loop-token in
    let is = subst (λ (found : Option Token). IsNext l.lexer (Ok found) c.next_token.new.lexer) c.in-Some.is c.in_ok-token.ensures.next in
    let within = subst (λ (text : List ℕ). c.in-Some.token.end ≤ length text) l.invariant.0 is.0.within in
    omega (arith, is.2, is.3, within, c.in_ok-state.ensures.onward)

pub returns-in_err-token-clause-within : goal.returns-in_err-token-clause-within
returns-in_err-token-clause-within c = unless_ok _ c.from_residual.result c.from_residual.ensures.0

pub returns-in_err-next-clause-within : goal.returns-in_err-next-clause-within
returns-in_err-next-clause-within c = unless_ok _ c.from_residual-in_err-next.result c.from_residual-in_err-next.ensures.0

pub returns-in_err-state-clause-within : goal.returns-in_err-state-clause-within
returns-in_err-state-clause-within c = unless_ok _ c.from_residual-in_err-state.result c.from_residual-in_err-state.ensures.0
