use Rattle.std.proofs.Common.{◌≡◌, ℕ, ◌∙◌, ◌+◌, ◌*◌, ◌<◌, ◌≤◌, ap, length, subst, arith}
use Rattle.std.proofs.Math.Nat.{le_refl, le_trans}
use Rattle.std.proofs.lemmas.List.{length_push}
use Rattle.gm_arena.specs.inner.ArenaAsMap.{as_map}
use Rattle.gm_cells.specs.Cells.{HasCellsOf}
use Rattle.gm_cells.proofs.LabelLemmas.{by_label_more, by_label_all, cells_counted, mask_within, one_turn_more}
use Rattle.gm_model.proofs.Exits.{unless_ok}
use Rattle.gm_cells.proofs.counts.count_cells.Goals as goal

label_low : (label top dim : ℕ) → label < top + 1 → top ≡ dim → label ≤ dim
label_low label top dim less is = omega (arith, less, is)

no_cost : (first each : ℕ) → first ≤ first + 0 * each
no_cost first each = omega arith

one_more_cost : (first before after label each : ℕ) → before ≤ first + label * each → after ≤ before + each → after ≤ first + (label + 1) * each
one_more_cost first before after label each most here = omega (arith, most, here)

pub orbits-requires-clause-mask : goal.orbits-requires-clause-mask
orbits-requires-clause-mask g c = mask_within (as_map c.args.arena.now) _ c.top-top.result c.loop-label.label (c.top-top.ensures.value ∙ ap (λ s. s.dim) c.schema.ensures) c.mask_without-others.ensures

pub loop-label-preserved : goal.loop-label-preserved
loop-label-preserved g c =
    let i = c.loop-label.invariant in
    let map = as_map c.args.arena.now in
    let label = c.loop-label.label in
    let count = c.in_ok-orbits.field-0 in
    let cells : HasCellsOf map label count =
    cells_counted map _ c.top-top.result label (c.top-top.ensures.value ∙ ap (λ s. s.dim) c.schema.ensures) c.mask_without-others.ensures count c.in_ok-orbits.ensures.orbits in
    record {
      one_each = ap length c.in_ok-push.ensures.items ∙ length_push c.loop-label.cells.items count ∙ ap (λ n. n + 1) i.one_each;
      each = by_label_more (HasCellsOf map) c.loop-label.cells.items _ label count i.one_each c.in_ok-push.ensures.items i.each cells;
      cost = one_more_cost _ _ _ _ _ i.cost c.orbits.ensures.cost;
      least = le_trans i.least c.orbits.ensures.least;
      room = le_trans i.room c.orbits.ensures.room;
    }

pub loop-label-init : goal.loop-label-init
loop-label-init g c = record {
  one_each = ap length c.new-cells.ensures.items;
  each = λ i less. absurd (omega (arith, less));
  cost = no_cost _ _;
  least = le_refl _;
  room = le_refl _;
}

pub orbits-requires-clause-generalised : goal.orbits-requires-clause-generalised
orbits-requires-clause-generalised g c = c.requires.generalised

pub returns-in_err-orbits-clause-cells : goal.returns-in_err-orbits-clause-cells
returns-in_err-orbits-clause-cells g c = unless_ok _ c.from_residual.result c.from_residual.ensures.0

pub returns-in_err-orbits-clause-cost : goal.returns-in_err-orbits-clause-cost
returns-in_err-orbits-clause-cost g c =
    let m = c.args.arena.now in
    let low = label_low _ _ _ c.loop-label-test.true (c.top-top.ensures.value ∙ ap (λ s. s.dim) c.schema.ensures) in
    one_turn_more c.loop-label.label m.schema.dim (8 * (m.schema.dim + 1) * m.count) c.args.steps.now c.loop-label.steps c.orbits.new.steps low c.loop-label.invariant.cost c.orbits.ensures.cost

pub returns-in_err-orbits-clause-least : goal.returns-in_err-orbits-clause-least
returns-in_err-orbits-clause-least g c = le_trans c.loop-label.invariant.least c.orbits.ensures.least

pub returns-in_err-orbits-clause-room : goal.returns-in_err-orbits-clause-room
returns-in_err-orbits-clause-room g c = le_trans c.loop-label.invariant.room c.orbits.ensures.room

pub returns-in_err-push-clause-cells : goal.returns-in_err-push-clause-cells
returns-in_err-push-clause-cells g c = unless_ok _ c.from_residual-in_err-push.result c.from_residual-in_err-push.ensures.0

pub returns-in_err-push-clause-cost : goal.returns-in_err-push-clause-cost
returns-in_err-push-clause-cost g c =
    let m = c.args.arena.now in
    let low = label_low _ _ _ c.loop-label-test.true (c.top-top.ensures.value ∙ ap (λ s. s.dim) c.schema.ensures) in
    one_turn_more c.loop-label.label m.schema.dim (8 * (m.schema.dim + 1) * m.count) c.args.steps.now c.loop-label.steps c.orbits.new.steps low c.loop-label.invariant.cost c.orbits.ensures.cost

pub returns-in_err-push-clause-least : goal.returns-in_err-push-clause-least
returns-in_err-push-clause-least g c = le_trans c.loop-label.invariant.least c.orbits.ensures.least

pub returns-in_err-push-clause-room : goal.returns-in_err-push-clause-room
returns-in_err-push-clause-room g c = le_trans c.loop-label.invariant.room c.orbits.ensures.room

pub loop-label-smaller : goal.loop-label-smaller
loop-label-smaller g c = omega (arith, c.loop-label-test.true)

pub returns-clause-cells : goal.returns-clause-cells
returns-clause-cells g c =
    let all = c.top-top.ensures.value ∙ ap (λ s. s.dim) c.schema.ensures in
    by_label_all (HasCellsOf (as_map c.args.arena.now)) c.args.arena.now.schema.dim c.loop-label.label c.loop-label.cells.items (omega (arith, c.loop-label-test.false, c.loop-label.auto.label-end, all)) c.loop-label.invariant.one_each c.loop-label.invariant.each

pub returns-clause-cost : goal.returns-clause-cost
returns-clause-cost g c =
    let all = c.top-top.ensures.value ∙ ap (λ s. s.dim) c.schema.ensures in
    let end : c.loop-label.label ≡ c.args.arena.now.schema.dim + 1 = omega (arith, c.loop-label-test.false, c.loop-label.auto.label-end, all) in
    subst (λ label. c.loop-label.steps ≤ c.args.steps.now + label * (8 * (c.args.arena.now.schema.dim + 1) * c.args.arena.now.count)) end c.loop-label.invariant.cost

pub returns-clause-least : goal.returns-clause-least
returns-clause-least g c = c.loop-label.invariant.least

pub returns-clause-room : goal.returns-clause-room
returns-clause-room g c = c.loop-label.invariant.room
