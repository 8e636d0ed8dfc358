use Rattle.std.proofs.Common.{◌<◌, ◌≤◌, ◌++◌, [], ◌∷◌, refl, ap, ◌∙◌, codes, arith}
use Rattle.std.proofs.lemmas.Result.{err_from_is_err_and}
use Rattle.gm_model.specs.Symbols.{Word, Mark}
use Rattle.gm_text.specs.inner.Cursor.{Cursor}
use Rattle.gm_text.specs.inner.SchemaReading.{AtEmbeds, AtName}
use Rattle.gm_model.proofs.Exits.{unless_ok}
use Rattle.gm_text.proofs.SchemaReaders.{embed_free, embed_past}
use Rattle.gm_text.proofs.SchemaSteps.{reads_behind, stops_behind, known_self}
use Rattle.gm_text.proofs.schema_reading.next_embed.Goals as goal

pub returns-in_err-embed-clause-stops : goal.returns-in_err-embed-clause-stops
returns-in_err-embed-clause-stops c =
    let p = err_from_is_err_and c.from_residual.result c.from_residual.ensures.1 in
    let word = c.in-Some.ensures in
    let mark : Mark = record { symbol = Word (codes "embed"); place = c.in-Some.place } in
    let few : c.args.count < 8 = omega (arith, c.if-count-ge-MOST_EMBEDS.false) in
    rw (p.1, p.2)
    (λ declared count known. stops_behind c.args.strict (AtEmbeds c.args.dim declared) (AtName c.args.dim declared) c.args.lexer.now c.embed_word.new.lexer c.in_err-embed.field-0.0 mark word.marks word.text (omega (arith, word.onward)) word.behind refl
    (embed_free c.args.strict declared (omega (arith, count, few))) (c.in_err-embed.ensures.stops declared known))

pub returns-clause-reads : goal.returns-clause-reads
returns-clause-reads c =
    let word = c.in-Some.ensures in
    let mark : Mark = record { symbol = Word (codes "embed"); place = c.in-Some.place } in
    let few : c.args.count < 8 = omega (arith, c.if-count-ge-MOST_EMBEDS.false) in
    λ declared count known.
    reads_behind c.args.strict (AtEmbeds c.args.dim declared) (AtName c.args.dim declared) (AtEmbeds c.args.dim (declared ++ c.in_ok-embed.embed ∷ [])) c.args.lexer.now c.embed_word.new.lexer c.read_embed.new.lexer mark word.marks word.text (omega (arith, word.onward)) word.behind refl
    (embed_free c.args.strict declared (omega (arith, count, few))) (c.in_ok-embed.ensures.reads declared known)

pub returns-clause-text : goal.returns-clause-text
returns-clause-text c = (c.in_ok-embed.ensures.reads c.args.known.now (known_self c.args.strict c.args.known.now)).text ∙ c.in-Some.ensures.text

pub returns-clause-onward : goal.returns-clause-onward
returns-clause-onward c = omega (arith, (c.in_ok-embed.ensures.reads c.args.known.now (known_self c.args.strict c.args.known.now)).onward, c.in-Some.ensures.onward)

pub returns-in_err-embed-clause-reads : goal.returns-in_err-embed-clause-reads
returns-in_err-embed-clause-reads c = unless_ok _ c.from_residual.result c.from_residual.ensures.0

pub returns-in_err-embed-clause-few : goal.returns-in_err-embed-clause-few
returns-in_err-embed-clause-few c = unless_ok _ c.from_residual.result c.from_residual.ensures.0

pub returns-in_err-embed-clause-text : goal.returns-in_err-embed-clause-text
returns-in_err-embed-clause-text c = unless_ok _ c.from_residual.result c.from_residual.ensures.0

pub returns-in_err-embed-clause-onward : goal.returns-in_err-embed-clause-onward
returns-in_err-embed-clause-onward c = unless_ok _ c.from_residual.result c.from_residual.ensures.0

pub returns-in_err-embed-clause-within : goal.returns-in_err-embed-clause-within
returns-in_err-embed-clause-within c = unless_ok _ c.from_residual.result c.from_residual.ensures.0

pub returns-then-count-ge-MOST_EMBEDS-clause-stops : goal.returns-then-count-ge-MOST_EMBEDS-clause-stops
returns-then-count-ge-MOST_EMBEDS-clause-stops c =
    let many : 8 ≤ c.args.count = c.if-count-ge-MOST_EMBEDS.true in
    λ declared count known. embed_past c.args.strict c.args.dim declared c.args.lexer.now c.embed_word.new.lexer c.in-Some.place c.in-Some.ensures.marks (omega (arith, count, many))

pub returns-in_default-clause-reads : goal.returns-in_default-clause-reads
returns-in_default-clause-reads c = c.in_default.ensures

pub returns-in_default-clause-text : goal.returns-in_default-clause-text
returns-in_default-clause-text c = ap (λ (cursor : Cursor). cursor.text) c.in_default.ensures.0

pub returns-clause-few : goal.returns-clause-few
returns-clause-few c = omega (arith, c.if-count-ge-MOST_EMBEDS.false)

pub returns-clause-within : goal.returns-clause-within
returns-clause-within c = c.in_ok-embed.ensures.within
