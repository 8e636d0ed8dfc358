use Rattle.std.proofs.Common.{◌+◌, ◌<◌, length, refl, subst, ◌∙◌, set, arith, length-set}
use Rattle.std.proofs.lemmas.List.{length-map}
use Rattle.gm_arena.specs.declared.slot.Slot.{Slot}
use Rattle.gm_walk.specs.inner.Marks.{numbers}
use Rattle.gm_walk.proofs.MarkLemmas.{IsClearedTo, cleared_none, cleared_more, cleared_all, number_at}
use Rattle.gm_walk.proofs.scratch.unmark.Goals as goal

pub bounds-marks-slot : goal.bounds-marks-slot
bounds-marks-slot c =
    let slots = c.args.slots.now in
    let p = c.loop-slot.slot-index in
    let long : p < length (numbers slots) = omega (arith, c.loop-slot-test.true, length-map slots (λ (s : Slot). s.at)) in
    subst (λ at. at < length c.loop-slot.marks) (number_at slots p _ c.loop-slot-test.true) (c.loop-slot.invariant.cleared.within p long)

pub loop-slot-init : goal.loop-slot-init
loop-slot-init c = record { cleared = cleared_none _ _ c.requires.marked; long = refl }

pub loop-slot-preserved : goal.loop-slot-preserved
loop-slot-preserved c =
    let slots = c.args.slots.now in
    let p = c.loop-slot.slot-index in
    let long : p < length (numbers slots) = omega (arith, c.loop-slot-test.true, length-map slots (λ (s : Slot). s.at)) in
    record {
      cleared = subst (λ at. IsClearedTo (p + 1) (numbers slots) (set c.loop-slot.marks at 0)) (number_at slots p _ c.loop-slot-test.true) (cleared_more p (numbers slots) c.loop-slot.marks long c.loop-slot.invariant.cleared);
      long = length-set _ _ _ ∙ c.loop-slot.invariant.long;
    }

pub returns-clause-none : goal.returns-clause-none
returns-clause-none c =
    let slots = c.args.slots.now in
    cleared_all c.loop-slot.slot-index (numbers slots) _ (omega (arith, c.loop-slot-test.false, length-map slots (λ (s : Slot). s.at))) c.loop-slot.invariant.cleared
