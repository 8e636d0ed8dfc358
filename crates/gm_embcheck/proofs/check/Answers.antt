use Rattle.std.proofs.Common.{◌≡◌, ◌<◌, ◌≤◌, length, get_or, Some, ap, sym, ◌∙◌, below_more, arith}
use Rattle.std.proofs.lemmas.Option.{slice_get-get_or, slice_get_within}
use Rattle.std.proofs.lemmas.Result.{err_from_is_err_and}
use Rattle.gm_model.specs.declared.schema.Embed.{Embed}
use Rattle.gm_model.specs.Components.{IsEmbedFault}
use Rattle.gm_model.specs.Maps.{IsEmbedAt}
use Rattle.gm_model.specs.Rules.{rule_of}
use Rattle.gm_embcheck.proofs.InRange.{has_bounds}
use Rattle.gm_embcheck.proofs.Transfer.{HasSourcesOf, embed_fault, sources_of}
use Rattle.gm_embcheck.proofs.check.Goals as goal

pub check_embedding-requires : goal.check_embedding-requires
check_embedding-requires c =
    let few : c.args.schema.now.dim ≤ 7 = (let top = c.top-top.ensures in omega arith) in
    has_bounds c.args.schema.now (rule_of c.args.rule.now) few c.requires.in_range c.requires.within c.requires.incidence

pub returns-in_err-check_embedding : goal.returns-in_err-check_embedding
returns-in_err-check_embedding c =
    let p = err_from_is_err_and c.from_residual.result c.from_residual.ensures.1 in
    let schema = c.args.schema.now in
    let e = c.loop-embed.embed in
    let declared : Embed = c.declared-item.result in
    let b : e < length schema.embeds = rw (← c.as_slice-declared-items.ensures) c.loop-embed-test.true in
    let read : declared ≡ get_or schema.embeds e declared = c.declared-item.is ∙ ap (λ items. get_or items e declared) c.as_slice-declared-items.ensures in
    let here : IsEmbedAt schema e declared = slice_get-get_or schema.embeds e declared b ∙ ap Some (sym read) in
    let fault : IsEmbedFault schema (rule_of c.args.rule.now) c.in_err-check_embedding.field-0.0 =
    embed_fault schema (rule_of c.args.rule.now) e declared here c.loop-embed.invariant c.in_err-check_embedding.field-0.0 c.in_err-check_embedding.ensures in
    rw (p.1, p.2) fault

pub loop-embed-preserved : goal.loop-embed-preserved
loop-embed-preserved c =
    let schema = c.args.schema.now in
    let e = c.loop-embed.embed in
    let declared : Embed = c.declared-item.result in
    let b : e < length schema.embeds = rw (← c.as_slice-declared-items.ensures) c.loop-embed-test.true in
    let read : declared ≡ get_or schema.embeds e declared = c.declared-item.is ∙ ap (λ items. get_or items e declared) c.as_slice-declared-items.ensures in
    let here : IsEmbedAt schema e declared = slice_get-get_or schema.embeds e declared b ∙ ap Some (sym read) in
    below_more (HasSourcesOf schema (rule_of c.args.rule.now)) e c.loop-embed.invariant (sources_of schema (rule_of c.args.rule.now) e declared here c.in_ok-check_embedding.ensures)

pub returns : goal.returns
returns c = λ e embed at.
    let b : e < length c.args.schema.now.embeds = slice_get_within c.args.schema.now.embeds e embed at in
    let past = c.loop-embed-test.false in
    let items = ap length c.as_slice-declared-items.ensures in
    c.loop-embed.invariant e (omega arith) embed at
