use Rattle.std.proofs.Common.{◌+◌, Option, subst, arith}
use Rattle.gm_model.specs.declared.token.Token.{Token}
use Rattle.std.proofs.lemmas.Result.{err_from_is_err_and}
use Rattle.gm_parse.specs.inner.Answers.{Advances}
use Rattle.gm_parse.specs.inner.Reading.{first_spot, spot_at}
use Rattle.gm_parse.proofs.Steps.{reads_then, stops_then}
use Rattle.gm_parse.proofs.skipping.skip_ahead.Goals as goal

pub returns-in_err-advance-clause-stops : goal.returns-in_err-advance-clause-stops
returns-in_err-advance-clause-stops c =
    let p = err_from_is_err_and c.from_residual.result c.from_residual.ensures.1 in
    let l = c.loop-count in
    rw (p.1, p.2) (stops_then c.args.dim first_spot (spot_at l.count l.state) c.args.lexer.now l.lexer c.in_err-advance.field-0.0 l.invariant.2 c.in_err-advance.ensures.stops)

pub loop-count-preserved : goal.loop-count-preserved
loop-count-preserved c =
    let l = c.loop-count in
    let (reads, onward, within, few, room, next) = subst (λ (found : Option Token). Advances c.args.dim (spot_at l.count l.state) l.lexer found c.advance.new.state c.advance.new.lexer) c.in-Some.is c.in_ok-advance.ensures.on in
    (omega (arith, few), room, reads_then c.args.dim first_spot (spot_at l.count l.state) (spot_at (l.count + 1) c.advance.new.state) c.args.lexer.now l.lexer c.advance.new.lexer l.invariant.2 reads)
