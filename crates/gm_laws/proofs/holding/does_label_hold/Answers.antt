use Rattle.std.proofs.Common.{List, length, get_or, sym, ap, subst, ◌∙◌, arith}
use Rattle.std.proofs.lemmas.Bool.{and_parts}
use Rattle.std.proofs.lemmas.List.{get_or_default}
use Rattle.gm_model.specs.declared.schema.Embed.{Embed}
use Rattle.gm_arena.specs.declared.slot.Slot.{Slot}
use Rattle.gm_laws.specs.inner.Holding.{AreSameAlong}
use Rattle.gm_laws.proofs.HoldingLemmas.{row_is, alphas_long, row_values_long, holds_along}
use Rattle.gm_laws.proofs.holding.does_label_hold.Goals as goal

abbrev no_slot : Slot
no_slot = record { at = 0 }

pub bounds-alphas-label : goal.bounds-alphas-label
bounds-alphas-label g c = omega (arith, c.requires.label, alphas_long c.args.arena.now c.args.slot.at c.args.alphas.now c.args.values.now c.requires.row c.requires.lawful)

pub row-row-requires : goal.row-row-requires
row-row-requires g c = c.requires.live c.args.label no_slot (omega (arith, c.requires.label, alphas_long c.args.arena.now c.args.slot.at c.args.alphas.now c.args.values.now c.requires.row c.requires.lawful))

pub bounds-row-label : goal.bounds-row-label
bounds-row-label g c =
    let m = c.args.arena.now in
    let there = row_is m _ c.row-row.result.name c.row-row.result.alphas.now c.row-row.result.values.now c.row-row.ensures.name c.row-row.ensures.dart in
    omega (arith, c.requires.label, alphas_long m _ c.row-row.result.alphas.now c.row-row.result.values.now there c.requires.lawful)

pub does_share-shares-requires-clause-values : goal.does_share-shares-requires-clause-values
does_share-shares-requires-clause-values g c =
    row_values_long c.args.arena.now c.args.slot.at c.args.alphas.now c.args.values.now c.requires.row c.requires.lawful ∙ sym (ap length c.requires.embeds)

pub does_share-shares-requires-clause-others : goal.does_share-shares-requires-clause-others
does_share-shares-requires-clause-others g c =
    let m = c.args.arena.now in
    let there = row_is m _ c.row-row.result.name c.row-row.result.alphas.now c.row-row.result.values.now c.row-row.ensures.name c.row-row.ensures.dart in
    row_values_long m _ c.row-row.result.alphas.now c.row-row.result.values.now there c.requires.lawful ∙ sym (ap length c.requires.embeds)

pub does_commute-commutes-requires-clause-alphas : goal.does_commute-commutes-requires-clause-alphas
does_commute-commutes-requires-clause-alphas g c = alphas_long c.args.arena.now c.args.slot.at c.args.alphas.now c.args.values.now c.requires.row c.requires.lawful

pub does_commute-commutes-requires-clause-across : goal.does_commute-commutes-requires-clause-across
does_commute-commutes-requires-clause-across g c =
    let m = c.args.arena.now in
    let there = row_is m _ c.row-row.result.name c.row-row.result.alphas.now c.row-row.result.values.now c.row-row.ensures.name c.row-row.ensures.dart in
    alphas_long m _ c.row-row.result.alphas.now c.row-row.result.values.now there c.requires.lawful

pub returns-clause-holds : goal.returns-clause-holds
returns-clause-holds g c = λ told.
    let m = c.args.arena.now in
    let i = c.args.label in
    let alphas = c.args.alphas.now in
    let across = c.row-row.result.alphas.now in
    let values = c.args.values.now in
    let others = c.row-row.result.values.now in
    let to = get_or alphas i no_slot in
    let there = row_is m to.at c.row-row.result.name across others c.row-row.ensures.name c.row-row.ensures.dart in
    let long = alphas_long m c.args.slot.at alphas values c.requires.row c.requires.lawful in
    let wide = alphas_long m to.at across others there c.requires.lawful in
    let outer = and_parts _ _ told in
    let inner = and_parts _ _ outer.0 in
    let back = sym (c.is_same_slot-leads_back.ensures inner.0) ∙ get_or_default across i no_slot c.args.slot (omega (arith, c.requires.label, wide)) in
    holds_along m c.requires.lawful c.args.slot to alphas across values others i c.requires.row there
    (c.requires.live i no_slot (omega (arith, c.requires.label, long))) c.requires.label
    (get_or_default alphas i no_slot to (omega (arith, c.requires.label, long))) back
    (c.does_commute-commutes.ensures.meet outer.1)
    (λ above. subst (λ (embeds : List Embed). AreSameAlong embeds i values others) c.requires.embeds (c.does_share-shares.ensures.same inner.1 above))
