use Rattle.std.proofs.Common.{◌≡◌, ◌+◌, ◌<◌, ◌≤◌, ◌++◌, false, [], ◌∷◌, length, refl, sym, ap, subst, ◌∙◌, arith}
use Rattle.std.specs.Prelude.{IfSome}
use Rattle.std.proofs.lemmas.List.{length-append}
use Rattle.std.proofs.lemmas.Result.{err_from_is_err_and}
use Rattle.gm_text.specs.inner.Cursor.{Cursor}
use Rattle.gm_text.specs.inner.SchemaReading.{AtEmbeds}
use Rattle.gm_text.specs.inner.SchemaAnswers.{Reads, ReadsEmbed, EndsEmbeds}
use Rattle.gm_model.proofs.Exits.{unless_ok}
use Rattle.gm_text.proofs.SchemaSteps.{reads_none, reads_then, stops_then}
use Rattle.gm_text.proofs.schema_reading.skip_embeds.Goals as goal

pub returns-in_err-next_embed-clause-stops : goal.returns-in_err-next_embed-clause-stops
returns-in_err-next_embed-clause-stops c =
    let p = err_from_is_err_and c.from_residual.result c.from_residual.ensures.1 in
    let l = c.loop-count in
    let (declared, count, so_far) = l.invariant in
    rw (p.1, p.2) (stops_then false (AtEmbeds c.args.dim []) (AtEmbeds c.args.dim declared) c.args.lexer.now l.lexer c.in_err-next_embed.field-0.0 so_far (c.in_err-next_embed.ensures.stops declared count tt))

pub loop-count-preserved : goal.loop-count-preserved
loop-count-preserved c =
    let l = c.loop-count in
    let (declared, count, so_far) = l.invariant in
    let reads = subst (ReadsEmbed false c.args.dim l.count [] l.lexer c.next_embed.new.lexer) c.in-Some.is c.in_ok-next_embed.ensures.reads in
    let embed = c.in-Some.field-0 in
    let more : length (declared ++ embed ∷ []) ≡ l.count + 1 = omega (arith, length-append declared (embed ∷ []), count) in
    (declared ++ embed ∷ [], more, reads_then false (AtEmbeds c.args.dim []) (AtEmbeds c.args.dim declared) (AtEmbeds c.args.dim (declared ++ embed ∷ [])) c.args.lexer.now l.lexer c.next_embed.new.lexer so_far (reads declared count tt))

pub returns-in_err-next_embed-clause-reads : goal.returns-in_err-next_embed-clause-reads
returns-in_err-next_embed-clause-reads c = unless_ok _ c.from_residual.result c.from_residual.ensures.0

pub returns-in_err-next_embed-clause-next : goal.returns-in_err-next_embed-clause-next
returns-in_err-next_embed-clause-next c = unless_ok _ c.from_residual.result c.from_residual.ensures.0

pub loop-count-init : goal.loop-count-init
loop-count-init c = ([], refl, reads_none false (AtEmbeds c.args.dim []) c.args.lexer.now)

pub loop-count-smaller : goal.loop-count-smaller
loop-count-smaller c =
    let l = c.loop-count in
    let new = c.next_embed.new.lexer in
    let onward = subst (λ found. IfSome found (λ embed. l.lexer.place < new.place)) c.in-Some.is c.in_ok-next_embed.ensures.onward in
    let within = subst (λ found. IfSome found (λ embed. new.place ≤ length new.text)) c.in-Some.is c.in_ok-next_embed.ensures.within in
    let (declared, count, so_far) = l.invariant in
    let same : length new.text ≡ length c.args.lexer.now.text = ap length (c.in_ok-next_embed.ensures.text ∙ so_far.text) in
    omega (arith, onward, within, same)

pub overflow_add-count : goal.overflow_add-count
overflow_add-count c =
    let few = subst (λ found. IfSome found (λ embed. c.loop-count.count < 8)) c.in-Some.is c.in_ok-next_embed.ensures.few in
    omega (arith, few)

pub returns-clause-next : goal.returns-clause-next
returns-clause-next c =
    let none = subst (ReadsEmbed false c.args.dim c.loop-count.count [] c.loop-count.lexer c.next_embed.new.lexer) c.in_default.is c.in_ok-next_embed.ensures.reads in
    subst EndsEmbeds (sym none.0) none.1

pub returns-clause-reads : goal.returns-clause-reads
returns-clause-reads c =
    let l = c.loop-count in
    let none = subst (ReadsEmbed false c.args.dim l.count [] l.lexer c.next_embed.new.lexer) c.in_default.is c.in_ok-next_embed.ensures.reads in
    let (declared, count, so_far) = l.invariant in
    (declared, subst (λ (cursor : Cursor). Reads false (AtEmbeds c.args.dim []) c.args.lexer.now cursor (AtEmbeds c.args.dim declared)) (sym none.0) so_far)
