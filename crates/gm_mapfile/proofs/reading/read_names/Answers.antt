use Rattle.std.proofs.Common.{◌≡◌, ℕ, ◌+◌, List, subst, sym, arith}
use Rattle.std.proofs.lemmas.Result.{err_from_is_err_and}
use Rattle.gm_mapfile.specs.MapReading.{ReadsNames}
use Rattle.gm_model.proofs.Exits.{never_ok}
use Rattle.gm_mapfile.proofs.DartReads.{names_more, names_stop}
use Rattle.gm_mapfile.proofs.reading.read_names.Goals as goal

pub loop-init : goal.loop-init
loop-init c = c.read_small_dart_names-first.ensures.reads

pub returns-in_err-read_name-clause-stops : goal.returns-in_err-read_name-clause-stops
returns-in_err-read_name-clause-stops c =
    let p = err_from_is_err_and c.from_residual.result c.from_residual.ensures.1 in
    rw (p.1, p.2) (names_stop c.args.count c.loop.counter c.args.lexer.now c.loop.lexer c.args.names.now.items c.loop.names.items c.in_err-read_name.field-0.0 c.loop-test.true c.loop.invariant c.in_err-read_name.ensures.misses)

pub loop-preserved : goal.loop-preserved
loop-preserved c =
    subst (λ (names : List ℕ). ReadsNames (c.loop.counter + 1) c.args.lexer.now c.read_name.new.lexer c.args.names.now.items names) (sym c.in_ok-push.ensures.items)
    (names_more c.loop.counter c.args.lexer.now c.loop.lexer c.read_name.new.lexer c.args.names.now.items c.loop.names.items c.in_ok-read_name.field-0 c.loop.invariant c.in_ok-read_name.ensures.takes)

pub returns-clause-reads : goal.returns-clause-reads
returns-clause-reads c =
    let all : c.loop.counter ≡ c.args.count = omega (arith, c.loop-test.false, c.loop.auto.counter-end) in
    subst (λ (k : ℕ). ReadsNames k c.args.lexer.now c.loop.lexer c.args.names.now.items c.loop.names.items) all c.loop.invariant

pub returns-in_err-read_name-clause-reads : goal.returns-in_err-read_name-clause-reads
returns-in_err-read_name-clause-reads c = never_ok _ c.from_residual.result c.from_residual.ensures.0

pub returns-in_err-push-clause-reads : goal.returns-in_err-push-clause-reads
returns-in_err-push-clause-reads c = never_ok _ c.from_residual-in_err-push.result c.from_residual-in_err-push.ensures.0
