use Rattle.std.proofs.Common.{◌<◌, FitsSigned, List, w64, rules, ap, ◌∙◌, arith}
use Rattle.std.proofs.lemmas.List.{take_all}
use Rattle.gm_arena.specs.declared.slot.Slot.{Slot}
use Rattle.gm_eval.specs.inner.Sums.{part, part_at, parts_at, sum_of}
use Rattle.gm_eval.proofs.Sums.{more_fits, small_more, sum_step}
use Rattle.gm_eval.proofs.totals.add_up.Goals as goal

pub overflow_add-totals : goal.overflow_add-totals
overflow_add-totals g c = more_fits c.loop-slot.slot-index c.loop-slot.totals.x c.parts-x.result.0 (omega (arith, c.requires.few, c.loop-slot-test.true)) c.loop-slot.invariant.x_small (search rules)

pub overflow_add-totals-in-loop-slot : goal.overflow_add-totals-in-loop-slot
overflow_add-totals-in-loop-slot g c = more_fits c.loop-slot.slot-index c.loop-slot.totals.y c.parts-x.result.1 (omega (arith, c.requires.few, c.loop-slot-test.true)) c.loop-slot.invariant.y_small (search rules)

pub overflow_add-totals-in-loop-slot-2 : goal.overflow_add-totals-in-loop-slot-2
overflow_add-totals-in-loop-slot-2 g c = more_fits c.loop-slot.slot-index c.loop-slot.totals.z c.parts-x.result.2 (omega (arith, c.requires.few, c.loop-slot-test.true)) c.loop-slot.invariant.z_small (search rules)

pub loop-slot-preserved : goal.loop-slot-preserved
loop-slot-preserved g c =
    let i = c.loop-slot.invariant in
    let slots = c.args.slots.now in
    let index = c.loop-slot.slot-index in
    let none : Slot = record { at = 0 } in
    let m = c.args.arena.now in
    let e = c.args.embed in
    let within = c.loop-slot-test.true in
    let few : index < 4294967296 = omega (arith, c.requires.few, within) in
    let fits_x : FitsSigned w64 c.parts-x.result.0 = search rules in
    let fits_y : FitsSigned w64 c.parts-x.result.1 = search rules in
    let fits_z : FitsSigned w64 c.parts-x.result.2 = search rules in
    record {
      x = sum_step index c.loop-slot.totals.x c.parts-x.result.0 few i.x_small fits_x (part_at m e 0) slots none within i.x (c.parts-x.ensures.x ∙ ap (part 0) c.value.ensures.value);
      y = sum_step index c.loop-slot.totals.y c.parts-x.result.1 few i.y_small fits_y (part_at m e 1) slots none within i.y (c.parts-x.ensures.y ∙ ap (part 1) c.value.ensures.value);
      z = sum_step index c.loop-slot.totals.z c.parts-x.result.2 few i.z_small fits_z (part_at m e 2) slots none within i.z (c.parts-x.ensures.z ∙ ap (part 2) c.value.ensures.value);
      x_small = small_more index c.loop-slot.totals.x c.parts-x.result.0 few i.x_small fits_x;
      y_small = small_more index c.loop-slot.totals.y c.parts-x.result.1 few i.y_small fits_y;
      z_small = small_more index c.loop-slot.totals.z c.parts-x.result.2 few i.z_small fits_z;
      cost = omega (arith, i.cost, c.value.ensures.cost);
    }

pub returns : goal.returns
returns g c =
    let i = c.loop-slot.invariant in
    let m = c.args.arena.now in
    let e = c.args.embed in
    let all = take_all c.loop-slot.slot-index c.args.slots.now c.loop-slot-test.false in
    record {
      x = i.x ∙ ap (λ (slots : List Slot). sum_of (parts_at m e 0 slots)) all;
      y = i.y ∙ ap (λ (slots : List Slot). sum_of (parts_at m e 1 slots)) all;
      z = i.z ∙ ap (λ (slots : List Slot). sum_of (parts_at m e 2 slots)) all;
      cost = omega (arith, i.cost, c.loop-slot-test.false, c.loop-slot.auto.slot-index-end);
    }
