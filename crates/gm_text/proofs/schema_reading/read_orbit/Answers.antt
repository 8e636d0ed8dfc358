use Rattle.std.proofs.Common.{◌≤◌, ℕ, List, [], length, sym, subst, ◌∙◌, arith}
use Rattle.std.proofs.lemmas.Result.{err_from_is_err_and}
use Rattle.gm_model.specs.declared.word.Mask.{Mask}
use Rattle.gm_text.specs.inner.SchemaReading.{AtOrbit, AtLabel, AtKind}
use Rattle.gm_text.specs.inner.SchemaAnswers.{Reads, ReadsLabel}
use Rattle.gm_text.proofs.SchemaSteps.{reads_then, stops_then}
use Rattle.gm_text.proofs.schema_reading.read_orbit.Goals as goal

pub returns-in_err-open_orbit-clause-stops : goal.returns-in_err-open_orbit-clause-stops
returns-in_err-open_orbit-clause-stops c =
    let p = err_from_is_err_and c.from_residual.result c.from_residual.ensures.1 in
    rw (p.1, p.2) (λ declared name. c.in_err-open_orbit.ensures.stops c.args.strict c.args.dim declared name)

pub returns-in_err-label-clause-stops : goal.returns-in_err-label-clause-stops
returns-in_err-label-clause-stops c =
    let p = err_from_is_err_and c.from_residual-in_err-label.result c.from_residual-in_err-label.ensures.1 in
    let l = c.loop-label in
    rw (p.1, p.2)
    (λ declared name. stops_then c.args.strict (AtOrbit c.args.dim declared name) (AtLabel c.args.dim declared name l.mask) c.args.lexer.now l.lexer c.in_err-label.field-0.0 (l.invariant declared name) (c.in_err-label.ensures.stops declared name))

pub loop-label-smaller : goal.loop-label-smaller
loop-label-smaller c =
    let text = c.in_ok-label.ensures.text ∙ (c.loop-label.invariant [] []).text in
    omega (arith, c.in_ok-label.ensures.onward, subst (λ (t : List ℕ). c.read_label.new.lexer.place ≤ length t) text c.in_ok-label.ensures.within)

pub loop-label-preserved : goal.loop-label-preserved
loop-label-preserved c =
    let l = c.loop-label in
    let reads = subst (ReadsLabel c.args.strict c.args.dim l.mask l.lexer c.read_label.new.lexer) c.in-Some.is c.in_ok-label.ensures.reads in
    λ declared name.
    reads_then c.args.strict (AtOrbit c.args.dim declared name) (AtLabel c.args.dim declared name l.mask) (AtLabel c.args.dim declared name c.with_label-mask.result) c.args.lexer.now l.lexer c.read_label.new.lexer (l.invariant declared name)
    (subst (λ (m : Mask). Reads c.args.strict (AtLabel c.args.dim declared name l.mask) l.lexer c.read_label.new.lexer (AtLabel c.args.dim declared name m)) (sym c.with_label-mask.ensures) (reads declared name))

pub returns-clause-reads : goal.returns-clause-reads
returns-clause-reads c =
    let l = c.loop-label in
    let reads = subst (ReadsLabel c.args.strict c.args.dim l.mask l.lexer c.read_label.new.lexer) c.in_default.is c.in_ok-label.ensures.reads in
    λ declared name.
    reads_then c.args.strict (AtOrbit c.args.dim declared name) (AtLabel c.args.dim declared name l.mask) (AtKind c.args.dim declared name l.mask) c.args.lexer.now l.lexer c.read_label.new.lexer (l.invariant declared name) (reads declared name)
