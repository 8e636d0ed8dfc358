use Rattle.std.proofs.Common.{List, true, [], refl, sym, subst}
use Rattle.std.proofs.lemmas.Result.{err_from_is_err_and}
use Rattle.gm_model.specs.declared.schema.Embed.{Embed}
use Rattle.gm_model.proofs.Exits.{unless_ok, on_err}
use Rattle.gm_text.specs.inner.Cursor.{Cursor}
use Rattle.gm_text.specs.inner.SchemaReading.{AtDim, AtEmbeds}
use Rattle.gm_text.specs.inner.SchemaAnswers.{Reads, StopsOrLost}
use Rattle.gm_text.proofs.SchemaSteps.{reads_then, or_lost, lost_then, reads_token_behind}
use Rattle.gm_text.proofs.SchemaWhole.{read_fault, read_stands}
use Rattle.gm_text.proofs.SchemaSound.{read_sound}
use Rattle.gm_text.proofs.schema_reading.read_schema.Goals as goal

pub returns-in_err-dim-clause-schema : goal.returns-in_err-dim-clause-schema
returns-in_err-dim-clause-schema c = unless_ok _ c.from_residual.result c.from_residual.ensures.0

pub returns-in_err-dim-clause-sound : goal.returns-in_err-dim-clause-sound
returns-in_err-dim-clause-sound c = unless_ok _ c.from_residual.result c.from_residual.ensures.0

pub returns-in_err-dim-clause-runs : goal.returns-in_err-dim-clause-runs
returns-in_err-dim-clause-runs c = unless_ok _ c.from_residual.result c.from_residual.ensures.0

pub returns-in_err-dim-clause-stops : goal.returns-in_err-dim-clause-stops
returns-in_err-dim-clause-stops c =
    let p = err_from_is_err_and c.from_residual.result c.from_residual.ensures.1 in
    let stops = subst (λ (cursor : Cursor). StopsOrLost true AtDim cursor c.in_err-dim.field-0.0) c.fork-ahead.ensures (or_lost true AtDim c.fork-ahead.result c.in_err-dim.field-0.0 (c.in_err-dim.ensures.stops true)) in
    rw (p.1, p.2) stops

pub returns-in_err-dim-clause-fault : goal.returns-in_err-dim-clause-fault
returns-in_err-dim-clause-fault c =
    let p = err_from_is_err_and c.from_residual.result c.from_residual.ensures.1 in
    let stops = subst (λ (cursor : Cursor). StopsOrLost true AtDim cursor c.in_err-dim.field-0.0) c.fork-ahead.ensures (or_lost true AtDim c.fork-ahead.result c.in_err-dim.field-0.0 (c.in_err-dim.ensures.stops true)) in
    rw (p.1, p.2) (read_fault c.args.lexer.now c.in_err-dim.field-0.0 stops)

pub returns-in_err-dim-clause-refused : goal.returns-in_err-dim-clause-refused
returns-in_err-dim-clause-refused c = on_err c.from_residual.result refl

pub returns-in_err-embeds-clause-schema : goal.returns-in_err-embeds-clause-schema
returns-in_err-embeds-clause-schema c = unless_ok _ c.from_residual-in_err-embeds.result c.from_residual-in_err-embeds.ensures.0

pub returns-in_err-embeds-clause-sound : goal.returns-in_err-embeds-clause-sound
returns-in_err-embeds-clause-sound c = unless_ok _ c.from_residual-in_err-embeds.result c.from_residual-in_err-embeds.ensures.0

pub returns-in_err-embeds-clause-runs : goal.returns-in_err-embeds-clause-runs
returns-in_err-embeds-clause-runs c = unless_ok _ c.from_residual-in_err-embeds.result c.from_residual-in_err-embeds.ensures.0

pub returns-in_err-embeds-clause-stops : goal.returns-in_err-embeds-clause-stops
returns-in_err-embeds-clause-stops c =
    let p = err_from_is_err_and c.from_residual-in_err-embeds.result c.from_residual-in_err-embeds.ensures.1 in
    let stops = subst (λ (cursor : Cursor). StopsOrLost true AtDim cursor c.in_err-embeds.field-0.0) c.fork-ahead.ensures (lost_then true AtDim (AtEmbeds c.in_ok-dim.dim []) c.fork-ahead.result c.read_dim.new.lexer c.in_err-embeds.field-0.0 (c.in_ok-dim.ensures.reads true) c.in_err-embeds.ensures.stops) in
    rw (p.1, p.2) stops

pub returns-in_err-embeds-clause-fault : goal.returns-in_err-embeds-clause-fault
returns-in_err-embeds-clause-fault c =
    let p = err_from_is_err_and c.from_residual-in_err-embeds.result c.from_residual-in_err-embeds.ensures.1 in
    let stops = subst (λ (cursor : Cursor). StopsOrLost true AtDim cursor c.in_err-embeds.field-0.0) c.fork-ahead.ensures (lost_then true AtDim (AtEmbeds c.in_ok-dim.dim []) c.fork-ahead.result c.read_dim.new.lexer c.in_err-embeds.field-0.0 (c.in_ok-dim.ensures.reads true) c.in_err-embeds.ensures.stops) in
    rw (p.1, p.2) (read_fault c.args.lexer.now c.in_err-embeds.field-0.0 stops)

pub returns-in_err-embeds-clause-refused : goal.returns-in_err-embeds-clause-refused
returns-in_err-embeds-clause-refused c = on_err c.from_residual-in_err-embeds.result refl

pub returns-clause-runs : goal.returns-clause-runs
returns-clause-runs c =
    let dim = c.in_ok-dim.dim in
    let all = subst (λ (embeds : List Embed). Reads true (AtEmbeds dim []) c.read_dim.new.lexer c.read_embeds.new.lexer (AtEmbeds dim embeds)) (sym c.new.ensures) c.in_ok-embeds.ensures.reads in
    let reads = reads_then true AtDim (AtEmbeds dim []) (AtEmbeds dim c.new.result) c.fork-ahead.result c.read_dim.new.lexer c.read_embeds.new.lexer (c.in_ok-dim.ensures.reads true) all in
    subst (λ (cursor : Cursor). Reads true AtDim cursor c.read_embeds.new.lexer (AtEmbeds dim c.new.result)) c.fork-ahead.ensures reads

pub returns-clause-schema : goal.returns-clause-schema
returns-clause-schema c = read_stands c.args.lexer.now c.read_embeds.new.lexer c.in_ok-dim.dim c.new.result (returns-clause-runs c) c.in_ok-embeds.ensures.next

pub returns-clause-sound : goal.returns-clause-sound
returns-clause-sound c = read_sound c.args.lexer.now c.read_embeds.new.lexer _ (returns-clause-schema c)

pub returns-clause-text : goal.returns-clause-text
returns-clause-text c = (returns-clause-runs c).text

pub returns-clause-behind : goal.returns-clause-behind
returns-clause-behind c = reads_token_behind true AtDim (AtEmbeds c.in_ok-dim.dim c.new.result) c.args.lexer.now c.read_embeds.new.lexer (λ e. cc) (returns-clause-runs c)
