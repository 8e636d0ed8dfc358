use Rattle.std.proofs.lemmas.Result.{err_from_is_err_and}
use Rattle.gm_text.specs.inner.SchemaReading.{AtName, AtOrbit, AtKind, with_kind}
use Rattle.gm_text.proofs.SchemaSteps.{reads_then, stops_then}
use Rattle.gm_text.proofs.schema_reading.read_embed.Goals as goal

pub returns-in_err-name-clause-stops : goal.returns-in_err-name-clause-stops
returns-in_err-name-clause-stops c =
    let p = err_from_is_err_and c.from_residual.result c.from_residual.ensures.1 in
    rw (p.1, p.2) (λ declared known. c.in_err-name.ensures.stops c.args.dim declared known)

pub returns-in_err-mask-clause-stops : goal.returns-in_err-mask-clause-stops
returns-in_err-mask-clause-stops c =
    let p = err_from_is_err_and c.from_residual-in_err-mask.result c.from_residual-in_err-mask.ensures.1 in
    let name = c.in_ok-name.name in
    rw (p.1, p.2)
    (λ declared known. stops_then c.args.strict (AtName c.args.dim declared) (AtOrbit c.args.dim declared name) c.args.lexer.now c.read_name.new.lexer c.in_err-mask.field-0.0 (c.in_ok-name.ensures.reads c.args.dim declared known) (c.in_err-mask.ensures.stops declared name))

pub returns-in_err-kind-clause-stops : goal.returns-in_err-kind-clause-stops
returns-in_err-kind-clause-stops c =
    let p = err_from_is_err_and c.from_residual-in_err-kind.result c.from_residual-in_err-kind.ensures.1 in
    let name = c.in_ok-name.name in
    let mask = c.in_ok-mask.mask in
    rw (p.1, p.2)
    (λ declared known. stops_then c.args.strict (AtName c.args.dim declared) (AtOrbit c.args.dim declared name) c.args.lexer.now c.read_name.new.lexer c.in_err-kind.field-0.0 (c.in_ok-name.ensures.reads c.args.dim declared known)
    (stops_then c.args.strict (AtOrbit c.args.dim declared name) (AtKind c.args.dim declared name mask) c.read_name.new.lexer c.read_orbit.new.lexer c.in_err-kind.field-0.0 (c.in_ok-mask.ensures.reads declared name) (c.in_err-kind.ensures.stops c.args.strict c.args.dim declared name mask)))

pub returns-clause-reads : goal.returns-clause-reads
returns-clause-reads c =
    let name = c.in_ok-name.name in
    let mask = c.in_ok-mask.mask in
    let kind = c.in_ok-kind.kind in
    λ declared known.
    reads_then c.args.strict (AtName c.args.dim declared) (AtOrbit c.args.dim declared name) (with_kind c.args.dim declared name mask kind) c.args.lexer.now c.read_name.new.lexer c.read_kind.new.lexer (c.in_ok-name.ensures.reads c.args.dim declared known)
    (reads_then c.args.strict (AtOrbit c.args.dim declared name) (AtKind c.args.dim declared name mask) (with_kind c.args.dim declared name mask kind) c.read_name.new.lexer c.read_orbit.new.lexer c.read_kind.new.lexer (c.in_ok-mask.ensures.reads declared name) (c.in_ok-kind.ensures.reads c.args.strict c.args.dim declared name mask))
