use Rattle.std.proofs.Common.{◌≡◌, ◌+◌, ◌*◌, ◌≤◌, length, ap, ◌∙◌, arith}
use Rattle.std.proofs.lemmas.Option.{slice_get_within}
use Rattle.gm_model.specs.declared.schema.Schema.{Schema}
use Rattle.gm_laws.proofs.CostLemmas.{one_more, in_all}
use Rattle.gm_laws.proofs.EmbeddedLemmas.{at_turn, one_more_alike, unshared}
use Rattle.gm_laws.proofs.embedded.first_not_embedded.Goals as goal

pub returns-in-Some-clause-breach : goal.returns-in-Some-clause-breach
returns-in-Some-clause-breach g c =
    let m = c.args.arena.now in
    let e = c.loop-embed.embed in
    let same : c.as_slice-kept-items.result.now ≡ m.schema.embeds = c.as_slice-kept-items.ensures ∙ ap (λ (schema : Schema). schema.embeds) c.schema.ensures in
    let at = at_turn c.as_slice-kept-items.result.now m.schema.embeds same e c.kept-item.result c.loop-embed-test.true c.kept-item.is in
    let (i, dart, label, other) = c.in-Some.ensures.darts in
    (i, unshared m c.requires.back c.requires.commuting e c.kept-item.result at c.loop-embed.invariant.alike c.in-Some.dart i dart label, other)

pub returns-in-Some-clause-cost : goal.returns-in-Some-clause-cost
returns-in-Some-clause-cost g c =
    let m = c.args.arena.now in
    let e = c.loop-embed.embed in
    let each = (2 * (m.schema.dim + 1) + 2) * length c.args.names.now + 2 in
    let same : c.as_slice-kept-items.result.now ≡ m.schema.embeds = c.as_slice-kept-items.ensures ∙ ap (λ (schema : Schema). schema.embeds) c.schema.ensures in
    let few : e + 1 ≤ 8 = omega (arith, c.loop-embed-test.true, ap length same, c.requires.lawful.schema.count) in
    in_all c.args.steps.now c.first_not_alike.new.steps (e + 1) 8 each (one_more c.args.steps.now c.loop-embed.steps c.first_not_alike.new.steps e each c.loop-embed.invariant.cost c.in-Some.ensures.cost) few

pub returns-in-Some-clause-least : goal.returns-in-Some-clause-least
returns-in-Some-clause-least g c = omega (arith, c.loop-embed.invariant.least, c.in-Some.ensures.least)

pub loop-embed-preserved : goal.loop-embed-preserved
loop-embed-preserved g c =
    let m = c.args.arena.now in
    let e = c.loop-embed.embed in
    let same : c.as_slice-kept-items.result.now ≡ m.schema.embeds = c.as_slice-kept-items.ensures ∙ ap (λ (schema : Schema). schema.embeds) c.schema.ensures in
    let at = at_turn c.as_slice-kept-items.result.now m.schema.embeds same e c.kept-item.result c.loop-embed-test.true c.kept-item.is in
    record {
      alike = one_more_alike m e c.kept-item.result at c.loop-embed.invariant.alike c.in_default.ensures.darts;
      cost = one_more c.args.steps.now c.loop-embed.steps c.first_not_alike.new.steps e ((2 * (m.schema.dim + 1) + 2) * length c.args.names.now + 2) c.loop-embed.invariant.cost c.in_default.ensures.cost;
      least = omega (arith, c.loop-embed.invariant.least, c.in_default.ensures.least);
    }

pub returns-clause-breach : goal.returns-clause-breach
returns-clause-breach g c =
    let m = c.args.arena.now in
    let same : c.as_slice-kept-items.result.now ≡ m.schema.embeds = c.as_slice-kept-items.ensures ∙ ap (λ (schema : Schema). schema.embeds) c.schema.ensures in
    λ e embed d i at live within of_type.
    c.loop-embed.invariant.alike e embed (omega (arith, slice_get_within m.schema.embeds e embed at, ap length same, c.loop-embed-test.false)) at d live i (within, of_type)

pub returns-clause-cost : goal.returns-clause-cost
returns-clause-cost g c =
    let m = c.args.arena.now in
    let each = (2 * (m.schema.dim + 1) + 2) * length c.args.names.now + 2 in
    let same : c.as_slice-kept-items.result.now ≡ m.schema.embeds = c.as_slice-kept-items.ensures ∙ ap (λ (schema : Schema). schema.embeds) c.schema.ensures in
    let few : c.loop-embed.embed ≤ 8 = omega (arith, c.loop-embed.auto.embed-end, ap length same, c.requires.lawful.schema.count) in
    in_all c.args.steps.now c.loop-embed.steps c.loop-embed.embed 8 each c.loop-embed.invariant.cost few

pub returns-clause-least : goal.returns-clause-least
returns-clause-least g c = c.loop-embed.invariant.least
