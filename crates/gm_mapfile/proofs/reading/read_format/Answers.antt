use Rattle.std.proofs.Common.{rules, true, false}
use Rattle.std.proofs.lemmas.Result.{err_from_is_err_and}
use Rattle.gm_text.specs.inner.Nested.{Outside}
use Rattle.gm_text.specs.declared.schema_fault.SchemaFault.TheVariants as faults
use Rattle.gm_mapfile.specs.MapReading.{start, into_schema, AtVersion}
use Rattle.gm_model.proofs.Exits.{unless_ok}
use Rattle.gm_mapfile.proofs.Joined.{reads_then, stops_then}
use Rattle.gm_mapfile.proofs.MapSteps.{format_reads, format_stops, first_reads, second_reads, version_stops, version_lacks}
use Rattle.gm_mapfile.proofs.reading.read_format.Goals as goal

pub returns-in_err-read_word-clause-stops : goal.returns-in_err-read_word-clause-stops
returns-in_err-read_word-clause-stops c =
    let p = err_from_is_err_and c.from_residual.result c.from_residual.ensures.1 in
    rw (p.1, p.2) (format_stops c.args.lexer.now c.in_err-read_word.field-0.0 c.in_err-read_word.ensures.other)

pub returns-in_err-value-clause-stops : goal.returns-in_err-value-clause-stops
returns-in_err-value-clause-stops c =
    let p = err_from_is_err_and c.from_residual-in_err-value.result c.from_residual-in_err-value.ensures.1 in
    let fault = c.in_err-value.field-0.0 in
    let there = c.read_word.new.lexer in
    rw (p.1, p.2) (stops_then start (Outside AtVersion) c.args.lexer.now there fault (format_reads c.args.lexer.now there c.in_ok-read_word.ensures.next) (version_lacks there fault c.in_err-value.ensures.none))

pub returns-in-1-clause-reads : goal.returns-in-1-clause-reads
returns-in-1-clause-reads c =
    let there = c.read_word.new.lexer in
    reads_then start (Outside AtVersion) (into_schema false) c.args.lexer.now there c.read_number.new.lexer (format_reads c.args.lexer.now there c.in_ok-read_word.ensures.next)
    (first_reads there c.in_ok-value.field-0.value c.in_ok-value.field-0.place c.read_number.new.lexer c.in_ok-value.ensures.next c.in-1.is)

pub returns-in-2-clause-reads : goal.returns-in-2-clause-reads
returns-in-2-clause-reads c =
    let there = c.read_word.new.lexer in
    reads_then start (Outside AtVersion) (into_schema true) c.args.lexer.now there c.read_number.new.lexer (format_reads c.args.lexer.now there c.in_ok-read_word.ensures.next)
    (second_reads there c.in_ok-value.field-0.value c.in_ok-value.field-0.place c.read_number.new.lexer c.in_ok-value.ensures.next c.in-2.is)

pub returns-in_default-clause-stops : goal.returns-in_default-clause-stops
returns-in_default-clause-stops c =
    let there = c.read_word.new.lexer in
    let fault = version_stops there c.in_ok-value.field-0.value c.in_ok-value.field-0.place c.read_number.new.lexer c.in_ok-value.ensures.next (search rules) (search rules) in
    stops_then start (Outside AtVersion) c.args.lexer.now there (faults.Text c.in_ok-value.field-0.place) (format_reads c.args.lexer.now there c.in_ok-read_word.ensures.next) fault

pub returns-in_err-read_word-clause-reads : goal.returns-in_err-read_word-clause-reads
returns-in_err-read_word-clause-reads c = unless_ok _ c.from_residual.result c.from_residual.ensures.0

pub returns-in_err-value-clause-reads : goal.returns-in_err-value-clause-reads
returns-in_err-value-clause-reads c = unless_ok _ c.from_residual-in_err-value.result c.from_residual-in_err-value.ensures.0
