use Rattle.std.proofs.Common.{rules, ◌≡◌, true, arith}
use Rattle.std.proofs.lemmas.Result.{err_from_is_err_and}
use Rattle.gm_text.specs.inner.Nested.{Outside}
use Rattle.gm_mapfile.specs.MapText.{Second}
use Rattle.gm_mapfile.specs.MapReading.{AtNext, AtNextName, AtDarts}
use Rattle.gm_model.proofs.Exits.{unless_ok}
use Rattle.gm_mapfile.proofs.Joined.{reads_then, stops_then}
use Rattle.gm_mapfile.proofs.MapSteps.{next_reads, next_stops, next_name_reads, next_name_lacks}
use Rattle.gm_mapfile.proofs.reading.read_next.Goals as goal

pub returns-in_err-read_word-clause-stops : goal.returns-in_err-read_word-clause-stops
returns-in_err-read_word-clause-stops c =
    let p = err_from_is_err_and c.from_residual.result c.from_residual.ensures.1 in
    let second : c.args.second ≡ true = search rules in
    rw (p.1, p.2) (λ schema. rw second (next_stops c.args.lexer.now c.in_err-read_word.field-0.0 schema c.in_err-read_word.ensures.other))

pub returns-in_err-value-clause-stops : goal.returns-in_err-value-clause-stops
returns-in_err-value-clause-stops c =
    let p = err_from_is_err_and c.from_residual-in_err-value.result c.from_residual-in_err-value.ensures.1 in
    let second : c.args.second ≡ true = search rules in
    let fault = c.in_err-value.field-0.0 in
    let there = c.read_word.new.lexer in
    rw (p.1, p.2)
    (λ schema. rw second (stops_then (Outside (AtNext schema)) (Outside (AtNextName schema)) c.args.lexer.now there fault (next_reads c.args.lexer.now there schema c.in_ok-read_word.ensures.next) (next_name_lacks there fault c.in_err-value.ensures.none schema)))

pub returns-clause-reads : goal.returns-clause-reads
returns-clause-reads c schema =
    let second : c.args.second ≡ true = search rules in
    let there = c.read_word.new.lexer in
    let value = c.in_ok-value.field-0.value in
    rw second
    (reads_then (Outside (AtNext schema)) (Outside (AtNextName schema)) (Outside (AtDarts (record { version = Second value; schema = schema }))) c.args.lexer.now there c.read_number.new.lexer (next_reads c.args.lexer.now there schema c.in_ok-read_word.ensures.next)
    (next_name_reads there value c.in_ok-value.field-0.place c.read_number.new.lexer c.in_ok-value.ensures.next schema (omega (arith, c.if-value-from.false, c.from.ensures))))

pub returns-in_err-read_word-clause-reads : goal.returns-in_err-read_word-clause-reads
returns-in_err-read_word-clause-reads c = unless_ok _ c.from_residual.result c.from_residual.ensures.0

pub returns-in_err-read_word-clause-most : goal.returns-in_err-read_word-clause-most
returns-in_err-read_word-clause-most c = unless_ok _ c.from_residual.result c.from_residual.ensures.0

pub returns-in_err-value-clause-reads : goal.returns-in_err-value-clause-reads
returns-in_err-value-clause-reads c = unless_ok _ c.from_residual-in_err-value.result c.from_residual-in_err-value.ensures.0

pub returns-in_err-value-clause-most : goal.returns-in_err-value-clause-most
returns-in_err-value-clause-most c = unless_ok _ c.from_residual-in_err-value.result c.from_residual-in_err-value.ensures.0
