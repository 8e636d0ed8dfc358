use Rattle.std.proofs.Common.{[]}
use Rattle.gm_text.specs.inner.SchemaReading.{AtDim, AtTop, AtEmbeds}
use Rattle.gm_text.proofs.SchemaSteps.{reads_then, stops_then, if_ok, if_err}
use Rattle.gm_text.proofs.schema_reading.read_dim.Goals as goal

pub returns-clause-reads : goal.returns-clause-reads
returns-clause-reads c =
    if_ok c.read_top.result (λ dim reads strict. reads_then strict AtDim AtTop (AtEmbeds dim []) c.args.lexer.now c.read_dim_word.new.lexer c.read_top.new.lexer (c.in_ok-read_dim_word.ensures.reads strict) (reads strict)) c.read_top.ensures.reads

pub returns-clause-stops : goal.returns-clause-stops
returns-clause-stops c =
    if_err c.read_top.result (λ fault stops strict. stops_then strict AtDim AtTop c.args.lexer.now c.read_dim_word.new.lexer fault (c.in_ok-read_dim_word.ensures.reads strict) (stops strict)) c.read_top.ensures.stops
