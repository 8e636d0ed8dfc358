use Rattle.std.proofs.Common.{[], arith}
use Rattle.std.proofs.lemmas.Result.{err_from_is_err_and}
use Rattle.gm_text.specs.inner.Nested.{Outside}
use Rattle.gm_mapfile.specs.MapReading.{AtDarts, AtCount, among, darts_wants}
use Rattle.gm_model.proofs.Exits.{unless_ok}
use Rattle.gm_mapfile.proofs.Joined.{reads_then, stops_then}
use Rattle.gm_mapfile.proofs.MapSteps.{darts_reads, darts_stops, count_reads, count_lacks}
use Rattle.gm_mapfile.proofs.reading.read_count.Goals as goal

pub returns-in_err-read_word-clause-stops : goal.returns-in_err-read_word-clause-stops
returns-in_err-read_word-clause-stops c =
    let p = err_from_is_err_and c.from_residual.result c.from_residual.ensures.1 in
    rw (p.1, p.2) (λ head. darts_stops c.args.lexer.now c.in_err-read_word.field-0.0 head c.in_err-read_word.ensures.other)

pub returns-in_err-value-clause-stops : goal.returns-in_err-value-clause-stops
returns-in_err-value-clause-stops c =
    let p = err_from_is_err_and c.from_residual-in_err-value.result c.from_residual-in_err-value.ensures.1 in
    let fault = c.in_err-value.field-0.0 in
    let there = c.read_word.new.lexer in
    rw (p.1, p.2)
    (λ head. stops_then (Outside (AtDarts head)) (Outside (AtCount head)) c.args.lexer.now there fault (darts_reads c.args.lexer.now there head c.in_ok-read_word.ensures.next) (count_lacks there fault c.in_err-value.ensures.none head))

pub returns-clause-reads : goal.returns-clause-reads
returns-clause-reads c head =
    let there = c.read_word.new.lexer in
    let value = c.in_ok-value.field-0.value in
    reads_then (Outside (AtDarts head)) (Outside (AtCount head)) (among head [] (darts_wants head.schema value)) c.args.lexer.now there c.read_number.new.lexer (darts_reads c.args.lexer.now there head c.in_ok-read_word.ensures.next)
    (count_reads there value c.in_ok-value.field-0.place c.read_number.new.lexer c.in_ok-value.ensures.next head (omega (arith, c.if-value-from.false, c.from.ensures)))

pub returns-in_err-read_word-clause-reads : goal.returns-in_err-read_word-clause-reads
returns-in_err-read_word-clause-reads c = unless_ok _ c.from_residual.result c.from_residual.ensures.0

pub returns-in_err-read_word-clause-most : goal.returns-in_err-read_word-clause-most
returns-in_err-read_word-clause-most c = unless_ok _ c.from_residual.result c.from_residual.ensures.0

pub returns-in_err-value-clause-reads : goal.returns-in_err-value-clause-reads
returns-in_err-value-clause-reads c = unless_ok _ c.from_residual-in_err-value.result c.from_residual-in_err-value.ensures.0

pub returns-in_err-value-clause-most : goal.returns-in_err-value-clause-most
returns-in_err-value-clause-most c = unless_ok _ c.from_residual-in_err-value.result c.from_residual-in_err-value.ensures.0
