use Rattle.std.proofs.Common.{false, [], refl, subst}
use Rattle.std.proofs.lemmas.Result.{err_from_is_err_and}
use Rattle.gm_model.proofs.Exits.{unless_ok, on_err}
use Rattle.gm_text.specs.inner.Cursor.{Cursor}
use Rattle.gm_text.specs.inner.SchemaReading.{AtDim, AtEmbeds}
use Rattle.gm_text.specs.inner.SchemaAnswers.{Stops, SkipsSchema}
use Rattle.gm_text.proofs.SchemaSteps.{reads_then, stops_then, reads_token_behind}
use Rattle.gm_text.proofs.SchemaWhole.{skip_fault, skip_stands}
use Rattle.gm_text.proofs.schema_reading.skip_schema.Goals as goal

pub returns-in_err-dim-clause-dim : goal.returns-in_err-dim-clause-dim
returns-in_err-dim-clause-dim c = unless_ok _ c.from_residual.result c.from_residual.ensures.0

pub returns-in_err-dim-clause-runs : goal.returns-in_err-dim-clause-runs
returns-in_err-dim-clause-runs c = unless_ok _ c.from_residual.result c.from_residual.ensures.0

pub returns-in_err-dim-clause-stops : goal.returns-in_err-dim-clause-stops
returns-in_err-dim-clause-stops c =
    let p = err_from_is_err_and c.from_residual.result c.from_residual.ensures.1 in
    let stops = subst (λ (cursor : Cursor). Stops false AtDim cursor c.in_err-dim.field-0.0) c.fork-ahead.ensures (c.in_err-dim.ensures.stops false) in
    rw (p.1, p.2) stops

pub returns-in_err-dim-clause-fault : goal.returns-in_err-dim-clause-fault
returns-in_err-dim-clause-fault c =
    let p = err_from_is_err_and c.from_residual.result c.from_residual.ensures.1 in
    let stops = subst (λ (cursor : Cursor). Stops false AtDim cursor c.in_err-dim.field-0.0) c.fork-ahead.ensures (c.in_err-dim.ensures.stops false) in
    rw (p.1, p.2) (skip_fault c.args.lexer.now c.in_err-dim.field-0.0 stops)

pub returns-in_err-dim-clause-refused : goal.returns-in_err-dim-clause-refused
returns-in_err-dim-clause-refused c = on_err c.from_residual.result refl

pub returns-in_err-skip_embeds-clause-dim : goal.returns-in_err-skip_embeds-clause-dim
returns-in_err-skip_embeds-clause-dim c = unless_ok _ c.from_residual-in_err-skip_embeds.result c.from_residual-in_err-skip_embeds.ensures.0

pub returns-in_err-skip_embeds-clause-runs : goal.returns-in_err-skip_embeds-clause-runs
returns-in_err-skip_embeds-clause-runs c = unless_ok _ c.from_residual-in_err-skip_embeds.result c.from_residual-in_err-skip_embeds.ensures.0

pub returns-in_err-skip_embeds-clause-stops : goal.returns-in_err-skip_embeds-clause-stops
returns-in_err-skip_embeds-clause-stops c =
    let p = err_from_is_err_and c.from_residual-in_err-skip_embeds.result c.from_residual-in_err-skip_embeds.ensures.1 in
    let stops = subst (λ (cursor : Cursor). Stops false AtDim cursor c.in_err-skip_embeds.field-0.0) c.fork-ahead.ensures (stops_then false AtDim (AtEmbeds c.in_ok-dim.dim []) c.fork-ahead.result c.read_dim.new.lexer c.in_err-skip_embeds.field-0.0 (c.in_ok-dim.ensures.reads false) c.in_err-skip_embeds.ensures.stops) in
    rw (p.1, p.2) stops

pub returns-in_err-skip_embeds-clause-fault : goal.returns-in_err-skip_embeds-clause-fault
returns-in_err-skip_embeds-clause-fault c =
    let p = err_from_is_err_and c.from_residual-in_err-skip_embeds.result c.from_residual-in_err-skip_embeds.ensures.1 in
    let stops = subst (λ (cursor : Cursor). Stops false AtDim cursor c.in_err-skip_embeds.field-0.0) c.fork-ahead.ensures (stops_then false AtDim (AtEmbeds c.in_ok-dim.dim []) c.fork-ahead.result c.read_dim.new.lexer c.in_err-skip_embeds.field-0.0 (c.in_ok-dim.ensures.reads false) c.in_err-skip_embeds.ensures.stops) in
    rw (p.1, p.2) (skip_fault c.args.lexer.now c.in_err-skip_embeds.field-0.0 stops)

pub returns-in_err-skip_embeds-clause-refused : goal.returns-in_err-skip_embeds-clause-refused
returns-in_err-skip_embeds-clause-refused c = on_err c.from_residual-in_err-skip_embeds.result refl

pub returns-clause-runs : goal.returns-clause-runs
returns-clause-runs c =
    let dim = c.in_ok-dim.dim in
    let (declared, behind) = c.in_ok-skip_embeds.ensures.reads in
    let reads = reads_then false AtDim (AtEmbeds dim []) (AtEmbeds dim declared) c.fork-ahead.result c.read_dim.new.lexer c.skip_embeds.new.lexer (c.in_ok-dim.ensures.reads false) behind in
    subst (λ (cursor : Cursor). SkipsSchema cursor c.skip_embeds.new.lexer dim) c.fork-ahead.ensures (declared, reads)

pub returns-clause-dim : goal.returns-clause-dim
returns-clause-dim c = skip_stands c.args.lexer.now c.skip_embeds.new.lexer c.in_ok-dim.dim (returns-clause-runs c) c.in_ok-skip_embeds.ensures.next

pub returns-clause-text : goal.returns-clause-text
returns-clause-text c = (returns-clause-runs c).1.text

pub returns-clause-behind : goal.returns-clause-behind
returns-clause-behind c =
    let (declared, reads) = returns-clause-runs c in
    reads_token_behind false AtDim (AtEmbeds c.in_ok-dim.dim declared) c.args.lexer.now c.skip_embeds.new.lexer (λ e. cc) reads
