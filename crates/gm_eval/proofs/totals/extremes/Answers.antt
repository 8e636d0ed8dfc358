use Rattle.std.proofs.Common.{◌≡◌, List, get_or, ap, ◌∙◌, arith}
use Rattle.std.specs.Int.{int_max, int_min}
use Rattle.std.specs.List.{fold}
use Rattle.std.proofs.lemmas.Int.{to_z-of_z}
use Rattle.std.proofs.lemmas.List.{take_all}
use Rattle.gm_arena.specs.declared.slot.Slot.{Slot}
use Rattle.gm_eval.specs.inner.Sums.{first_at, part, part_at, parts_at}
use Rattle.gm_eval.proofs.Sums.{fold_step}
use Rattle.gm_eval.proofs.totals.extremes.Goals as goal

pub loop-slot-preserved : goal.loop-slot-preserved
loop-slot-preserved g c =
    let i = c.loop-slot.invariant in
    let slots = c.args.slots.now in
    let none : Slot = record { at = 0 } in
    let m = c.args.arena.now in
    let e = c.args.embed in
    let within = c.loop-slot-test.true in
    let number : c.parts-number.result.0 ≡ part_at m e 0 (get_or slots c.loop-slot.slot-index none) = c.parts-number.ensures.x ∙ ap (part 0) c.value-in-loop-slot.ensures.value in
    record {
      least = fold_step int_min _ (part_at m e 0) slots c.loop-slot.slot-index none _ c.parts-number.result.0 _ within i.least number (grind (arith, to_z-of_z));
      greatest = fold_step int_max _ (part_at m e 0) slots c.loop-slot.slot-index none _ c.parts-number.result.0 _ within i.greatest number (grind (arith, to_z-of_z));
      cost = omega (arith, i.cost, c.value-in-loop-slot.ensures.cost);
    }

pub returns : goal.returns
returns g c =
    let i = c.loop-slot.invariant in
    let m = c.args.arena.now in
    let e = c.args.embed in
    let all = take_all c.loop-slot.slot-index c.args.slots.now c.loop-slot-test.false in
    record {
      least = i.least ∙ ap (λ (slots : List Slot). fold int_min (first_at m e c.args.slots.now) (parts_at m e 0 slots)) all;
      greatest = i.greatest ∙ ap (λ (slots : List Slot). fold int_max (first_at m e c.args.slots.now) (parts_at m e 0 slots)) all;
      cost = omega (arith, i.cost, c.loop-slot-test.false, c.loop-slot.auto.slot-index-end);
    }
