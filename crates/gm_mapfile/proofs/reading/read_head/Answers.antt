use Rattle.std.proofs.Common.{[]}
use Rattle.std.proofs.lemmas.Result.{err_from_is_err_and}
use Rattle.gm_text.specs.inner.Nested.{Outside}
use Rattle.gm_text.specs.inner.SchemaReading as schema
use Rattle.gm_mapfile.specs.inner.Draft.{version_in}
use Rattle.gm_mapfile.specs.MapReading.{Head, start, into_schema, behind_schema, AtDarts, among, darts_wants}
use Rattle.gm_model.proofs.Exits.{unless_ok}
use Rattle.gm_mapfile.proofs.Joined.{reads_then, stops_then}
use Rattle.gm_mapfile.proofs.SchemaInside.{schema_reads, schema_stops, at_end, behind_reads, behind_stops}
use Rattle.gm_mapfile.proofs.reading.read_head.Goals as goal

pub returns-in_err-schema-clause-stops : goal.returns-in_err-schema-clause-stops
returns-in_err-schema-clause-stops c =
    let p = err_from_is_err_and c.from_residual-in_err-schema.result c.from_residual-in_err-schema.ensures.1 in
    let second = c.in_ok-second.second in
    let there = c.read_format.new.lexer in
    let fault = c.in_err-schema.field-0.0 in
    rw (p.1, p.2) (stops_then start (into_schema second) c.args.lexer.now there fault c.in_ok-second.ensures.reads (schema_stops second there fault c.in_err-schema.ensures.stops))

pub returns-in_err-stated-clause-stops : goal.returns-in_err-stated-clause-stops
returns-in_err-stated-clause-stops c =
    let p = err_from_is_err_and c.from_residual-in_err-stated.result c.from_residual-in_err-stated.ensures.1 in
    let second = c.in_ok-second.second in
    let there = c.read_format.new.lexer in
    let behind = c.read_schema.new.lexer in
    let read = c.in_ok-schema.schema in
    let stands = c.in_ok-schema.ensures.schema.stands in
    let fault = c.in_err-stated.field-0.0 in
    let stops = behind_stops second read behind stands.next stands.others stands.behind stands.ends fault (c.in_err-stated.ensures.stops read) in
    let inside = schema_reads second there behind (schema.AtEmbeds read.dim read.embeds) c.in_ok-schema.ensures.runs in
    rw (p.1, p.2) (stops_then start (into_schema second) c.args.lexer.now there fault c.in_ok-second.ensures.reads (stops_then (into_schema second) (at_end second read) there behind fault inside stops))

pub returns-in_err-count-clause-stops : goal.returns-in_err-count-clause-stops
returns-in_err-count-clause-stops c =
    let p = err_from_is_err_and c.from_residual-in_err-count.result c.from_residual-in_err-count.ensures.1 in
    let second = c.in_ok-second.second in
    let there = c.read_format.new.lexer in
    let behind = c.read_schema.new.lexer in
    let read = c.in_ok-schema.schema in
    let stands = c.in_ok-schema.ensures.schema.stands in
    let fault = c.in_err-count.field-0.0 in
    let head : Head = record { version = version_in c.in_ok-stated.stated; schema = read } in
    let further = stops_then (Outside (behind_schema second read)) (Outside (AtDarts head)) behind c.read_next.new.lexer fault (c.in_ok-stated.ensures.reads read) (c.in_err-count.ensures.stops head) in
    let stops = behind_stops second read behind stands.next stands.others stands.behind stands.ends fault further in
    let inside = schema_reads second there behind (schema.AtEmbeds read.dim read.embeds) c.in_ok-schema.ensures.runs in
    rw (p.1, p.2) (stops_then start (into_schema second) c.args.lexer.now there fault c.in_ok-second.ensures.reads (stops_then (into_schema second) (at_end second read) there behind fault inside stops))

pub returns-clause-reads : goal.returns-clause-reads
returns-clause-reads c =
    let second = c.in_ok-second.second in
    let there = c.read_format.new.lexer in
    let behind = c.read_schema.new.lexer in
    let new = c.read_count.new.lexer in
    let read = c.in_ok-schema.schema in
    let stands = c.in_ok-schema.ensures.schema.stands in
    let head : Head = record { version = version_in c.in_ok-stated.stated; schema = read } in
    let wants = darts_wants read c.in_ok-count.count in
    let further = reads_then (Outside (behind_schema second read)) (Outside (AtDarts head)) (among head [] wants) behind c.read_next.new.lexer new (c.in_ok-stated.ensures.reads read) (c.in_ok-count.ensures.reads head) in
    let reads = behind_reads second read behind stands.next stands.others stands.behind stands.ends new head [] wants further in
    let inside = schema_reads second there behind (schema.AtEmbeds read.dim read.embeds) c.in_ok-schema.ensures.runs in
    reads_then start (into_schema second) (among head [] wants) c.args.lexer.now there new c.in_ok-second.ensures.reads (reads_then (into_schema second) (at_end second read) (among head [] wants) there behind new inside reads)

pub returns-in_err-second-clause-reads : goal.returns-in_err-second-clause-reads
returns-in_err-second-clause-reads c = unless_ok _ c.from_residual.result c.from_residual.ensures.0

pub returns-in_err-second-clause-schema : goal.returns-in_err-second-clause-schema
returns-in_err-second-clause-schema c = unless_ok _ c.from_residual.result c.from_residual.ensures.0

pub returns-in_err-second-clause-next : goal.returns-in_err-second-clause-next
returns-in_err-second-clause-next c = unless_ok _ c.from_residual.result c.from_residual.ensures.0

pub returns-in_err-second-clause-most : goal.returns-in_err-second-clause-most
returns-in_err-second-clause-most c = unless_ok _ c.from_residual.result c.from_residual.ensures.0

pub returns-in_err-schema-clause-reads : goal.returns-in_err-schema-clause-reads
returns-in_err-schema-clause-reads c = unless_ok _ c.from_residual-in_err-schema.result c.from_residual-in_err-schema.ensures.0

pub returns-in_err-schema-clause-schema : goal.returns-in_err-schema-clause-schema
returns-in_err-schema-clause-schema c = unless_ok _ c.from_residual-in_err-schema.result c.from_residual-in_err-schema.ensures.0

pub returns-in_err-schema-clause-next : goal.returns-in_err-schema-clause-next
returns-in_err-schema-clause-next c = unless_ok _ c.from_residual-in_err-schema.result c.from_residual-in_err-schema.ensures.0

pub returns-in_err-schema-clause-most : goal.returns-in_err-schema-clause-most
returns-in_err-schema-clause-most c = unless_ok _ c.from_residual-in_err-schema.result c.from_residual-in_err-schema.ensures.0

pub returns-in_err-stated-clause-reads : goal.returns-in_err-stated-clause-reads
returns-in_err-stated-clause-reads c = unless_ok _ c.from_residual-in_err-stated.result c.from_residual-in_err-stated.ensures.0

pub returns-in_err-stated-clause-schema : goal.returns-in_err-stated-clause-schema
returns-in_err-stated-clause-schema c = unless_ok _ c.from_residual-in_err-stated.result c.from_residual-in_err-stated.ensures.0

pub returns-in_err-stated-clause-next : goal.returns-in_err-stated-clause-next
returns-in_err-stated-clause-next c = unless_ok _ c.from_residual-in_err-stated.result c.from_residual-in_err-stated.ensures.0

pub returns-in_err-stated-clause-most : goal.returns-in_err-stated-clause-most
returns-in_err-stated-clause-most c = unless_ok _ c.from_residual-in_err-stated.result c.from_residual-in_err-stated.ensures.0

pub returns-in_err-count-clause-reads : goal.returns-in_err-count-clause-reads
returns-in_err-count-clause-reads c = unless_ok _ c.from_residual-in_err-count.result c.from_residual-in_err-count.ensures.0

pub returns-in_err-count-clause-schema : goal.returns-in_err-count-clause-schema
returns-in_err-count-clause-schema c = unless_ok _ c.from_residual-in_err-count.result c.from_residual-in_err-count.ensures.0

pub returns-in_err-count-clause-next : goal.returns-in_err-count-clause-next
returns-in_err-count-clause-next c = unless_ok _ c.from_residual-in_err-count.result c.from_residual-in_err-count.ensures.0

pub returns-in_err-count-clause-most : goal.returns-in_err-count-clause-most
returns-in_err-count-clause-most c = unless_ok _ c.from_residual-in_err-count.result c.from_residual-in_err-count.ensures.0
