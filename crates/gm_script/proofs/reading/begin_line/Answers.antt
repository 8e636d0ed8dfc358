use Rattle.std.proofs.Common.{◌≡◌, map, Ok, refl, sym, subst, ◌∙◌, arith}
use Rattle.std.proofs.lemmas.Result.{err_from_is_err_and}
use Rattle.gm_model.specs.Rules.{rule_of}
use Rattle.gm_text.specs.inner.Lexing.{rest_of}
use Rattle.gm_script.specs.inner.Reading.{IsSeenNext, sight_of, symbol_at, taken_at, ended_by, Fails}
use Rattle.gm_script.specs.inner.SoFar.{Adds}
use Rattle.gm_script.specs.declared.sight.Head.TheVariants as heads
use Rattle.gm_script.specs.declared.sight.Sight.{Sight}
use Rattle.gm_script.specs.declared.sight.Sight.TheVariants as sights
use Rattle.gm_script.proofs.Loop.{token_fails, goes_on}
use Rattle.gm_script.proofs.Tokens.{token_stands}
use Rattle.gm_script.proofs.reading.begin_line.Goals as goal

pub near_apply-requires : goal.near_apply-requires
near_apply-requires c = record { bytes = c.requires.text }

pub end_stat-requires-clause-known : goal.end_stat-requires-clause-known
end_stat-requires-clause-known c = c.requires.known

pub end_stat-requires-clause-in_text : goal.end_stat-requires-clause-in_text
end_stat-requires-clause-in_text c = c.requires.named

pub returns-then-not-is_whole : goal.returns-then-not-is_whole
returns-then-not-is_whole c = λ n so_far. (refl, so_far)

pub returns-in_default : goal.returns-in_default
returns-in_default c = λ n so_far. (c.in_default.ensures.none, rw c.in_default.ensures.none so_far)

pub returns-in_err-end_stat : goal.returns-in_err-end_stat
returns-in_err-end_stat c = λ n so_far.
    let p = err_from_is_err_and c.from_residual.result c.from_residual.ensures.1 in
    rw (p.1, p.2, c.in_err-end_stat.ensures.err) tt

pub returns-in_err-take_apply : goal.returns-in_err-take_apply
returns-in_err-take_apply c = λ n so_far.
    let p = err_from_is_err_and c.from_residual-in_err-take_apply.result c.from_residual-in_err-take_apply.ensures.1 in
    let apply : Sight = sights.Begins heads.Apply in
    let token = c.in-Some.token in
    let held = c.args.reader.now in
    let next : IsSeenNext c.args.lexer.now apply token c.near_apply.new.lexer = c.in-Some.ensures.seen in
    let seen : apply ≡ sight_of (symbol_at c.args.bytes.now token) = rw c.requires.text at next.seen in
    let failed : Fails c.in_err-take_apply.field-0.0 (taken_at n apply token held) = subst (Fails c.in_err-take_apply.field-0.0) (c.end_stat.ensures.next n token) (c.in_err-take_apply.ensures n) in
    rw (p.1, p.2)
    (token_fails c.args.bytes.now (map rule_of c.args.rules.now) n held token (rest_of c.near_apply.new.lexer) c.args.compared.now (rw next.items at so_far)
    c.in_err-take_apply.field-0.0 (subst (λ (sight : Sight). Fails c.in_err-take_apply.field-0.0 (taken_at n sight token held)) seen failed))

pub returns : goal.returns
returns c = λ n so_far.
    let apply : Sight = sights.Begins heads.Apply in
    let token = c.in-Some.token in
    let held = c.args.reader.now in
    let next : IsSeenNext c.args.lexer.now apply token c.near_apply.new.lexer = c.in-Some.ensures.seen in
    let seen : apply ≡ sight_of (symbol_at c.args.bytes.now token) = rw c.requires.text at next.seen in
    let stands = token_stands c.args.lexer.now.text c.args.lexer.now.place token (rest_of c.near_apply.new.lexer) next.items in
    let taken : taken_at n apply token held ≡ Ok c.take_apply.new.self = sym (c.end_stat.ensures.next n token) ∙ c.in_ok-take_apply.ensures n in
    record {
      text = next.text;
      inside = omega (arith, stands.0, stands.1, next.inside.within);
      moved = next.goes_on;
      so_far =
          goes_on c.args.bytes.now (map rule_of c.args.rules.now) n held c.take_apply.new.self token (rest_of c.near_apply.new.lexer) c.args.compared.now c.end_stat.new.compared
          (rw c.requires.text at next.inside) (rw next.items at so_far) (subst (λ (sight : Sight). taken_at n sight token held ≡ Ok c.take_apply.new.self) seen taken)
          (subst (λ (sight : Sight). Adds c.args.bytes.now (map rule_of c.args.rules.now) (ended_by held.spot sight held.stat) c.args.compared.now c.end_stat.new.compared) seen c.in_ok-end_stat.ensures.added);
    }
