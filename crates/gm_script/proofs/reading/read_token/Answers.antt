use Rattle.std.proofs.Common.{◌≡◌, map, Ok, sym, ◌∙◌, arith}
use Rattle.std.proofs.lemmas.Result.{err_from_is_err_and}
use Rattle.gm_model.specs.Rules.{rule_of}
use Rattle.gm_text.specs.inner.Lexing.{rest_of}
use Rattle.gm_script.specs.inner.Reading.{IsSeenNext, sight_of, symbol_at, taken_at}
use Rattle.gm_script.proofs.Loop.{stray_fails, token_fails, goes_on}
use Rattle.gm_script.proofs.Tokens.{token_stands}
use Rattle.gm_script.proofs.reading.read_token.Goals as goal

pub next_seen-requires : goal.next_seen-requires
next_seen-requires c = record { bytes = c.requires.text }

pub end_stat-requires-clause-known : goal.end_stat-requires-clause-known
end_stat-requires-clause-known c = c.requires.known

pub end_stat-requires-clause-in_text : goal.end_stat-requires-clause-in_text
end_stat-requires-clause-in_text c = c.requires.so_far.named

pub take-requires-clause-top : goal.take-requires-clause-top
take-requires-clause-top c = c.requires.so_far.low

pub returns-in_err-seen : goal.returns-in_err-seen
returns-in_err-seen c =
    let p = err_from_is_err_and c.from_residual.result c.from_residual.ensures.1 in
    rw (p.1, p.2) (stray_fails c.args.bytes.now (map rule_of c.args.rules.now) c.args.top c.args.reader.now c.args.lexer.now c.args.compared.now c.requires.so_far c.in_err-seen.field-0.0 c.in_err-seen.ensures.stray)

pub returns-in_err-end_stat : goal.returns-in_err-end_stat
returns-in_err-end_stat c =
    let p = err_from_is_err_and c.from_residual-in_err-end_stat.result c.from_residual-in_err-end_stat.ensures.1 in
    rw (p.1, p.2, c.in_err-end_stat.ensures.err) tt

pub returns-in_err-take : goal.returns-in_err-take
returns-in_err-take c =
    let p = err_from_is_err_and c.from_residual-in_err-take.result c.from_residual-in_err-take.ensures.1 in
    let next : IsSeenNext c.args.lexer.now c.in-Some.seen.sight c.in-Some.seen.token c.next_seen.new.lexer = rw c.in-Some.is at c.in_ok-seen.ensures.found in
    let seen : c.in-Some.seen.sight ≡ sight_of (symbol_at c.args.bytes.now c.in-Some.seen.token) = rw c.requires.text at next.seen in
    rw (p.1, p.2)
    (token_fails c.args.bytes.now (map rule_of c.args.rules.now) c.args.top c.args.reader.now c.in-Some.seen.token (rest_of c.next_seen.new.lexer) c.args.compared.now (rw next.items at c.requires.so_far)
    c.in_err-take.field-0.0 (rw (c.end_stat.ensures.next c.args.top c.in-Some.seen.token, seen) at c.in_err-take.ensures))

pub returns : goal.returns
returns c =
    let next : IsSeenNext c.args.lexer.now c.in-Some.seen.sight c.in-Some.seen.token c.next_seen.new.lexer = rw c.in-Some.is at c.in_ok-seen.ensures.found in
    let seen : c.in-Some.seen.sight ≡ sight_of (symbol_at c.args.bytes.now c.in-Some.seen.token) = rw c.requires.text at next.seen in
    let stands = token_stands c.args.lexer.now.text c.args.lexer.now.place c.in-Some.seen.token (rest_of c.next_seen.new.lexer) next.items in
    let taken : taken_at c.args.top c.in-Some.seen.sight c.in-Some.seen.token c.args.reader.now ≡ Ok c.take.new.self = sym (c.end_stat.ensures.next c.args.top c.in-Some.seen.token) ∙ c.in_ok-take.ensures in
    record {
      text = next.text;
      inside = omega (arith, stands.0, stands.1, next.inside.within);
      moved = next.goes_on;
      so_far =
          goes_on c.args.bytes.now (map rule_of c.args.rules.now) c.args.top c.args.reader.now c.take.new.self c.in-Some.seen.token (rest_of c.next_seen.new.lexer) c.args.compared.now c.end_stat.new.compared
          (rw c.requires.text at next.inside) (rw next.items at c.requires.so_far) (rw seen at taken) (rw seen at c.in_ok-end_stat.ensures.added);
    }
