use Rattle.std.proofs.Common.{◌∙◌, map, ap, subst}
use Rattle.std.proofs.lemmas.Result.{err_from_is_err_and}
use Rattle.gm_model.specs.Rules.{rule_of}
use Rattle.gm_text.specs.inner.Cursor.{Cursor}
use Rattle.gm_script.specs.inner.SoFar.{ReadsNext}
use Rattle.gm_script.proofs.reading.read_next.Goals as goal

pub begin_line-requires-clause-text : goal.begin_line-requires-clause-text
begin_line-requires-clause-text c = c.requires.text

pub begin_line-requires-clause-known : goal.begin_line-requires-clause-known
begin_line-requires-clause-known c = c.requires.known

pub begin_line-requires-clause-named : goal.begin_line-requires-clause-named
begin_line-requires-clause-named c = c.requires.so_far.named

pub returns-in_err-begin_line : goal.returns-in_err-begin_line
returns-in_err-begin_line c =
    let p = err_from_is_err_and c.from_residual.result c.from_residual.ensures.1 in
    rw (p.1, p.2) (c.in_err-begin_line.ensures c.args.top c.requires.so_far)

pub returns-then-branch : goal.returns-then-branch
returns-then-branch c = rw c.if-branch.true at (c.in_ok-begin_line.ensures c.args.top c.requires.so_far)

pub read_token-requires-clause-text : goal.read_token-requires-clause-text
read_token-requires-clause-text c =
    let same = rw c.if-branch.false at (c.in_ok-begin_line.ensures c.args.top c.requires.so_far) in
    ap (λ (lexer : Cursor). lexer.text) same.0 ∙ c.requires.text

pub read_token-requires-clause-known : goal.read_token-requires-clause-known
read_token-requires-clause-known c = c.requires.known

pub read_token-requires-clause-so_far : goal.read_token-requires-clause-so_far
read_token-requires-clause-so_far c =
    let same = rw c.if-branch.false at (c.in_ok-begin_line.ensures c.args.top c.requires.so_far) in
    same.1

pub returns : goal.returns
returns c =
    let same = rw c.if-branch.false at (c.in_ok-begin_line.ensures c.args.top c.requires.so_far) in
    subst (λ (old : Cursor). ReadsNext c.args.top c.args.bytes.now (map rule_of c.args.rules.now) old c.read_token.new.reader c.read_token.new.lexer c.read_token.new.compared c.read_token.result) same.0 c.read_token.ensures
