use Rattle.std.proofs.Common.{◌≡◌, ℕ, ◌+◌, ◌*◌, ◌<◌, ◌≤◌, Fits, w8, w64, [], length, get_or, Some, refl, ap, sym, subst, ◌∙◌, below_none, falls, arith}
use Rattle.std.proofs.Math.Nat.{le_antisymm}
use Rattle.std.proofs.lemmas.List.{length_push}
use Rattle.std.proofs.lemmas.Option.{slice_get-get_or, slice_get_within}
use Rattle.std.proofs.lemmas.Result.{IfOk-from_err}
use Rattle.gm_model.specs.declared.schema.Embed.{Embed}
use Rattle.gm_model.specs.Labels.{has}
use Rattle.gm_model.specs.Maps.{IsEmbedAt}
use Rattle.gm_model.specs.Rules.{rule_of}
use Rattle.gm_embcheck.proofs.InRange.{has_bounds}
use Rattle.gm_plan.specs.inner.Sources.{IsSources}
use Rattle.gm_plan.proofs.EmbedTables.{first_more}
use Rattle.gm_plan.proofs.sources.sources_of.Goals as goal

one_byte : (e n : ℕ) → e < n → n ≤ 8 → Fits w8 e
one_byte e n below few = record { fits = omega arith }

row_start : (e n : ℕ) → e < n → n ≤ 8 → Fits w64 (e * 35)
row_start e n below few = record { fits = omega arith }

pub loop-embed-init : goal.loop-embed-init
loop-embed-init c = rw c.new-sources.ensures.items record { long = refl; first = λ e s here. absurd (below_none (λ k. ⊥) e (slice_get_within [] e s here)) }

pub offset_bounds-declared-items-embed : goal.offset_bounds-declared-items-embed
offset_bounds-declared-items-embed c = row_start c.loop-embed.embed (length c.args.schema.now.embeds) (subst (λ items. c.loop-embed.embed < length items) c.as_slice-declared-items.ensures c.loop-embed-test.true) c.requires.planned.embeds

pub bounds-declared-items-embed : goal.bounds-declared-items-embed
bounds-declared-items-embed c = c.loop-embed-test.true

pub overflow_cast-embed : goal.overflow_cast-embed
overflow_cast-embed c = one_byte c.loop-embed.embed (length c.args.schema.now.embeds) (subst (λ items. c.loop-embed.embed < length items) c.as_slice-declared-items.ensures c.loop-embed-test.true) c.requires.planned.embeds

pub sources_for-requires-clause-top : goal.sources_for-requires-clause-top
sources_for-requires-clause-top c = subst (λ n. n ≤ 7) (sym c.top-top.ensures.value) c.top-top.ensures.greatest

pub loop-embed-smaller : goal.loop-embed-smaller
loop-embed-smaller c = falls _ _ c.loop-embed-test.true

pub returns : goal.returns
returns c = record {
  long = c.loop-embed.invariant.long ∙ le_antisymm c.loop-embed.auto.embed-end c.loop-embed-test.false ∙ ap length c.as_slice-declared-items.ensures;
  here = c.loop-embed.invariant.first;
}

pub sources_for-requires-clause-bounds : goal.sources_for-requires-clause-bounds
sources_for-requires-clause-bounds c =
    let few = c.top-top.ensures.greatest in
    let accepted = c.requires.planned.accepted in
    has_bounds c.args.schema.now (rule_of c.args.rule.now) few accepted.in_range c.requires.planned.within accepted.incidence

pub sources_for-requires-clause-right : goal.sources_for-requires-clause-right
sources_for-requires-clause-right c = c.requires.right

pub returns-in_err-push : goal.returns-in_err-push
returns-in_err-push c = IfOk-from_err c.from_residual.result _ c.from_residual.ensures.0

pub loop-embed-preserved : goal.loop-embed-preserved
loop-embed-preserved c =
    let schema = c.args.schema.now in
    let rule = rule_of c.args.rule.now in
    let e = c.loop-embed.embed in
    let old = c.loop-embed.sources.items in
    let declared : Embed = c.declared-item.result in
    let b : e < length schema.embeds = rw (← c.as_slice-declared-items.ensures) c.loop-embed-test.true in
    let read : declared ≡ get_or schema.embeds e declared = c.declared-item.is ∙ ap (λ items. get_or items e declared) c.as_slice-declared-items.ensures in
    let here : IsEmbedAt schema e declared = slice_get-get_or schema.embeds e declared b ∙ ap Some (sym read) in
    let is : IsSources schema.dim rule e (has declared.mask) c.sources_for.result = subst (λ n. IsSources n rule e (has declared.mask) c.sources_for.result) c.top-top.ensures.value c.sources_for.ensures in
    rw c.in_ok-push.ensures.items record {
      long = length_push old c.sources_for.result ∙ ap (λ n. n + 1) c.loop-embed.invariant.long;
      first = first_more schema rule old e c.sources_for.result declared c.loop-embed.invariant.first c.loop-embed.invariant.long here is;
    }
