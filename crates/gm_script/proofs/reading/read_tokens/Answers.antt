use Rattle.std.proofs.Common.{◌≡◌, length, map, ap, ◌∙◌, arith}
use Rattle.std.proofs.lemmas.Result.{err_from_is_err_and}
use Rattle.gm_model.proofs.Exits.{never_ok}
use Rattle.gm_model.specs.Rules.{rule_of}
use Rattle.gm_text.specs.inner.Lexing.{rest_of}
use Rattle.gm_script.specs.inner.SoFar.{IsSoFar, IsOneOn}
use Rattle.gm_script.proofs.Hooks.{hooks_fail, reads_on}
use Rattle.gm_script.proofs.reading.read_tokens.Goals as goal

pub read_next-requires-clause-text : goal.read_next-requires-clause-text
read_next-requires-clause-text c = c.loop-lexer.invariant.text

pub read_next-requires-clause-known : goal.read_next-requires-clause-known
read_next-requires-clause-known c = c.loop-lexer.invariant.known

pub read_next-requires-clause-so_far : goal.read_next-requires-clause-so_far
read_next-requires-clause-so_far c = c.loop-lexer.invariant.so_far

pub returns-in_err-read_next-clause-so_far : goal.returns-in_err-read_next-clause-so_far
returns-in_err-read_next-clause-so_far c = never_ok _ c.from_residual.result c.from_residual.ensures.0

pub returns-in_err-read_next-clause-fault : goal.returns-in_err-read_next-clause-fault
returns-in_err-read_next-clause-fault c =
    let p = err_from_is_err_and c.from_residual.result c.from_residual.ensures.1 in
    rw (p.1, p.2) (rw c.top-top.ensures.value at c.in_err-read_next.ensures)

pub read_on-requires-clause-text : goal.read_on-requires-clause-text
read_on-requires-clause-text c =
    let one : IsOneOn c.top-top.result c.args.bytes.now (map rule_of c.args.rules.now) c.loop-lexer.lexer c.read_next.new.reader c.read_next.new.lexer c.read_next.new.compared = rw c.if-branch.true at c.in_ok-read_next.ensures in
    one.text ∙ c.loop-lexer.invariant.text

pub read_on-requires-clause-known : goal.read_on-requires-clause-known
read_on-requires-clause-known c = c.loop-lexer.invariant.known

pub loop-lexer-smaller : goal.loop-lexer-smaller
loop-lexer-smaller c =
    let one : IsOneOn c.top-top.result c.args.bytes.now (map rule_of c.args.rules.now) c.loop-lexer.lexer c.read_next.new.reader c.read_next.new.lexer c.read_next.new.compared = rw c.if-branch.true at c.in_ok-read_next.ensures in
    let on = c.in_ok-read_on.ensures.ok in
    let long : length c.read_on.new.lexer.text ≡ length c.loop-lexer.lexer.text = ap length (on.text ∙ one.text) in
    omega (arith, one.inside, one.moved, on.goes_on, long)

pub loop-lexer-preserved : goal.loop-lexer-preserved
loop-lexer-preserved c =
    let one : IsOneOn c.top-top.result c.args.bytes.now (map rule_of c.args.rules.now) c.loop-lexer.lexer c.read_next.new.reader c.read_next.new.lexer c.read_next.new.compared = rw c.if-branch.true at c.in_ok-read_next.ensures in
    let text = one.text ∙ c.loop-lexer.invariant.text in
    let on = c.in_ok-read_on.ensures.ok in
    record {
      text = on.text ∙ text;
      so_far = reads_on c.args.bytes.now (map rule_of c.args.rules.now) c.top-top.result c.read_next.new.reader c.read_next.new.lexer text c.read_next.new.compared one.so_far c.read_on.new.reader c.read_on.new.lexer on;
      known = c.read_on.ensures.known;
    }

pub returns-in_err-read_on-clause-so_far : goal.returns-in_err-read_on-clause-so_far
returns-in_err-read_on-clause-so_far c = never_ok _ c.from_residual-in_err-read_on.result c.from_residual-in_err-read_on.ensures.0

pub returns-in_err-read_on-clause-fault : goal.returns-in_err-read_on-clause-fault
returns-in_err-read_on-clause-fault c =
    let one : IsOneOn c.top-top.result c.args.bytes.now (map rule_of c.args.rules.now) c.loop-lexer.lexer c.read_next.new.reader c.read_next.new.lexer c.read_next.new.compared = rw c.if-branch.true at c.in_ok-read_next.ensures in
    let p = err_from_is_err_and c.from_residual-in_err-read_on.result c.from_residual-in_err-read_on.ensures.1 in
    let so_far : IsSoFar c.args.dim c.args.bytes.now (map rule_of c.args.rules.now) c.read_next.new.reader (rest_of c.read_next.new.lexer) c.read_next.new.compared = rw c.top-top.ensures.value at one.so_far in
    rw (p.1, p.2) (hooks_fail c.args.bytes.now (map rule_of c.args.rules.now) c.args.dim c.read_next.new.reader c.read_next.new.lexer (one.text ∙ c.loop-lexer.invariant.text) c.read_next.new.compared so_far c.in_err-read_on.field-0.0 c.in_err-read_on.ensures.err)

pub returns-clause-so_far : goal.returns-clause-so_far
returns-clause-so_far c = rw (c.if-branch.false, c.top-top.ensures.value) at c.in_ok-read_next.ensures
