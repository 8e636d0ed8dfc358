use Rattle.std.proofs.Common.{rules, ◌≡◌, ◌<◌, ◌≤◌, List, true, [], length, sym, ap, subst, ◌∙◌, arith}
use Rattle.std.specs.Prelude.{IfSome}
use Rattle.std.proofs.lemmas.Result.{err_from_is_err_and}
use Rattle.gm_model.specs.declared.schema.Embed.{Embed}
use Rattle.gm_text.specs.inner.Cursor.{Cursor}
use Rattle.gm_text.specs.inner.SchemaReading.{AtEmbeds}
use Rattle.gm_text.specs.inner.SchemaAnswers.{Reads, ReadsEmbed, EndsEmbeds}
use Rattle.gm_model.proofs.Exits.{unless_ok}
use Rattle.gm_text.proofs.SchemaSteps.{reads_none, reads_then, stops_then, or_lost}
use Rattle.gm_text.proofs.schema_reading.read_embeds.Goals as goal

pub returns-in_err-embed-clause-stops : goal.returns-in_err-embed-clause-stops
returns-in_err-embed-clause-stops c =
    let p = err_from_is_err_and c.from_residual.result c.from_residual.ensures.1 in
    let l = c.loop-embeds in
    let counted : length l.embeds.items ≡ c.len.result = search rules in
    rw (p.1, p.2)
    (or_lost true (AtEmbeds c.args.dim []) c.args.lexer.now c.in_err-embed.field-0.0 (stops_then true (AtEmbeds c.args.dim []) (AtEmbeds c.args.dim l.embeds.items) c.args.lexer.now l.lexer c.in_err-embed.field-0.0 l.invariant (c.in_err-embed.ensures.stops l.embeds.items counted (sym c.deref.ensures.value))))

pub loop-embeds-preserved : goal.loop-embeds-preserved
loop-embeds-preserved c =
    let l = c.loop-embeds in
    let reads = subst (ReadsEmbed true c.args.dim c.len.result c.deref.result.now l.lexer c.next_embed.new.lexer) c.in-Some.is c.in_ok-embed.ensures.reads in
    let counted : length l.embeds.items ≡ c.len.result = search rules in
    let all = subst (λ (embeds : List Embed). Reads true (AtEmbeds c.args.dim l.embeds.items) l.lexer c.next_embed.new.lexer (AtEmbeds c.args.dim embeds)) (sym c.in_ok-push.ensures.items) (reads l.embeds.items counted (sym c.deref.ensures.value)) in
    reads_then true (AtEmbeds c.args.dim []) (AtEmbeds c.args.dim l.embeds.items) (AtEmbeds c.args.dim c.push.new.self.items) c.args.lexer.now l.lexer c.next_embed.new.lexer l.invariant all

pub returns-in_err-embed-clause-reads : goal.returns-in_err-embed-clause-reads
returns-in_err-embed-clause-reads c = unless_ok _ c.from_residual.result c.from_residual.ensures.0

pub returns-in_err-embed-clause-next : goal.returns-in_err-embed-clause-next
returns-in_err-embed-clause-next c = unless_ok _ c.from_residual.result c.from_residual.ensures.0

pub returns-in_err-push-clause-reads : goal.returns-in_err-push-clause-reads
returns-in_err-push-clause-reads c = unless_ok _ c.from_residual-in_err-push.result c.from_residual-in_err-push.ensures.0

pub returns-in_err-push-clause-next : goal.returns-in_err-push-clause-next
returns-in_err-push-clause-next c = unless_ok _ c.from_residual-in_err-push.result c.from_residual-in_err-push.ensures.0

pub returns-in_err-push-clause-stops : goal.returns-in_err-push-clause-stops
returns-in_err-push-clause-stops c =
    let p = err_from_is_err_and c.from_residual-in_err-push.result c.from_residual-in_err-push.ensures.1 in
    rw (p.1, p.2) tt

pub loop-embeds-init : goal.loop-embeds-init
loop-embeds-init c =
    subst (λ (embeds : List Embed). Reads true (AtEmbeds c.args.dim []) c.args.lexer.now c.args.lexer.now (AtEmbeds c.args.dim embeds)) (sym c.new-embeds.ensures.items) (reads_none true (AtEmbeds c.args.dim []) c.args.lexer.now)

pub loop-embeds-smaller : goal.loop-embeds-smaller
loop-embeds-smaller c =
    let l = c.loop-embeds in
    let new = c.next_embed.new.lexer in
    let onward = subst (λ found. IfSome found (λ embed. l.lexer.place < new.place)) c.in-Some.is c.in_ok-embed.ensures.onward in
    let within = subst (λ found. IfSome found (λ embed. new.place ≤ length new.text)) c.in-Some.is c.in_ok-embed.ensures.within in
    let same : length new.text ≡ length c.args.lexer.now.text = ap length (c.in_ok-embed.ensures.text ∙ l.invariant.text) in
    omega (arith, onward, within, same)

pub returns-clause-next : goal.returns-clause-next
returns-clause-next c =
    let none = subst (ReadsEmbed true c.args.dim c.len.result c.deref.result.now c.loop-embeds.lexer c.next_embed.new.lexer) c.in_default.is c.in_ok-embed.ensures.reads in
    subst EndsEmbeds (sym none.0) none.1

pub returns-clause-reads : goal.returns-clause-reads
returns-clause-reads c =
    let l = c.loop-embeds in
    let none = subst (ReadsEmbed true c.args.dim c.len.result c.deref.result.now l.lexer c.next_embed.new.lexer) c.in_default.is c.in_ok-embed.ensures.reads in
    subst (λ (cursor : Cursor). Reads true (AtEmbeds c.args.dim []) c.args.lexer.now cursor (AtEmbeds c.args.dim l.embeds.items)) (sym none.0) l.invariant
