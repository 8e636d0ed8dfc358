use Rattle.std.proofs.lemmas.Result.{err_from_is_err_and}
use Rattle.gm_text.specs.inner.Cursor.{Cursor}
use Rattle.gm_model.proofs.Exits.{unless_ok}
use Rattle.gm_mapfile.proofs.WholeText.{darts_stop, end_stop, map_reads}
use Rattle.gm_mapfile.proofs.reading.read_all.Goals as goal

pub returns-in_err-numbers-clause-stops : goal.returns-in_err-numbers-clause-stops
returns-in_err-numbers-clause-stops c =
    let p = err_from_is_err_and c.from_residual-in_err-numbers.result c.from_residual-in_err-numbers.ensures.1 in
    let head = c.in_ok-stated.field-0 in
    let old : Cursor = record { text = c.args.bytes.now; place = 0 } in
    let there = c.read_head.new.lexer in
    rw (p.1, p.2) (darts_stop head.stated head.schema head.count old there (rw c.new-lexer.ensures at c.in_ok-stated.ensures.reads) c.in_err-numbers.field-0.0 c.in_err-numbers.ensures.stops)

pub returns-in_err-read_end-clause-stops : goal.returns-in_err-read_end-clause-stops
returns-in_err-read_end-clause-stops c =
    let p = err_from_is_err_and c.from_residual-in_err-read_end.result c.from_residual-in_err-read_end.ensures.1 in
    let head = c.in_ok-stated.field-0 in
    let lines = c.in_ok-numbers.field-0 in
    let old : Cursor = record { text = c.args.bytes.now; place = 0 } in
    let there = c.read_head.new.lexer in
    let behind = c.read_darts.new.lexer in
    rw (p.1, p.2)
    (end_stop head.stated head.schema head.count old there (rw c.new-lexer.ensures at c.in_ok-stated.ensures.reads) behind lines.numbers.items lines.values.items c.in_ok-numbers.ensures.reads c.in_err-read_end.field-0.0 c.in_err-read_end.ensures.more)

pub returns-clause-reads : goal.returns-clause-reads
returns-clause-reads c =
    let head = c.in_ok-stated.field-0 in
    let lines = c.in_ok-numbers.field-0 in
    let old : Cursor = record { text = c.args.bytes.now; place = 0 } in
    let there = c.read_head.new.lexer in
    let behind = c.read_darts.new.lexer in
    map_reads head.stated head.schema head.count old there (rw c.new-lexer.ensures at c.in_ok-stated.ensures.reads) behind lines.numbers.items lines.values.items c.in_ok-numbers.ensures.reads c.in_ok-read_end.ensures.ends

pub returns-in_err-stated-clause-reads : goal.returns-in_err-stated-clause-reads
returns-in_err-stated-clause-reads c = unless_ok _ c.from_residual.result c.from_residual.ensures.0

pub returns-in_err-stated-clause-schema : goal.returns-in_err-stated-clause-schema
returns-in_err-stated-clause-schema c = unless_ok _ c.from_residual.result c.from_residual.ensures.0

pub returns-in_err-stated-clause-next : goal.returns-in_err-stated-clause-next
returns-in_err-stated-clause-next c = unless_ok _ c.from_residual.result c.from_residual.ensures.0

pub returns-in_err-numbers-clause-reads : goal.returns-in_err-numbers-clause-reads
returns-in_err-numbers-clause-reads c = unless_ok _ c.from_residual-in_err-numbers.result c.from_residual-in_err-numbers.ensures.0

pub returns-in_err-numbers-clause-schema : goal.returns-in_err-numbers-clause-schema
returns-in_err-numbers-clause-schema c = unless_ok _ c.from_residual-in_err-numbers.result c.from_residual-in_err-numbers.ensures.0

pub returns-in_err-numbers-clause-next : goal.returns-in_err-numbers-clause-next
returns-in_err-numbers-clause-next c = unless_ok _ c.from_residual-in_err-numbers.result c.from_residual-in_err-numbers.ensures.0

pub returns-in_err-read_end-clause-reads : goal.returns-in_err-read_end-clause-reads
returns-in_err-read_end-clause-reads c = unless_ok _ c.from_residual-in_err-read_end.result c.from_residual-in_err-read_end.ensures.0

pub returns-in_err-read_end-clause-schema : goal.returns-in_err-read_end-clause-schema
returns-in_err-read_end-clause-schema c = unless_ok _ c.from_residual-in_err-read_end.result c.from_residual-in_err-read_end.ensures.0

pub returns-in_err-read_end-clause-next : goal.returns-in_err-read_end-clause-next
returns-in_err-read_end-clause-next c = unless_ok _ c.from_residual-in_err-read_end.result c.from_residual-in_err-read_end.ensures.0

pub returns-in_err-stated-clause-stops : goal.returns-in_err-stated-clause-stops
returns-in_err-stated-clause-stops c =
    let p = err_from_is_err_and c.from_residual.result c.from_residual.ensures.1 in
    rw (p.1, p.2) (rw c.new-lexer.ensures at c.in_err-stated.ensures.stops)

pub read_darts-requires-clause-schema : goal.read_darts-requires-clause-schema
read_darts-requires-clause-schema c = c.in_ok-stated.ensures.schema

pub read_darts-requires-clause-few : goal.read_darts-requires-clause-few
read_darts-requires-clause-few c = c.in_ok-stated.ensures.most

pub returns-clause-schema : goal.returns-clause-schema
returns-clause-schema c = c.in_ok-stated.ensures.schema

pub returns-clause-next : goal.returns-clause-next
returns-clause-next c = c.in_ok-stated.ensures.next
