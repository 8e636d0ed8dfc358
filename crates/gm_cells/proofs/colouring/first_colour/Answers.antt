use Rattle.std.proofs.Common.{◌+◌, ◌≤◌, refl, sym, ap, subst, ◌∙◌, arith}
use Rattle.gm_model.proofs.Exits.{unless_ok}
use Rattle.gm_arena.proofs.MapLemmas.{name_below}
use Rattle.gm_cells.specs.inner.Ascending.{IsAscendingOf}
use Rattle.gm_cells.proofs.Ascending.{none_below, gap, next_has, next_not}
use Rattle.gm_cells.proofs.ColouredLemmas.{IsOfFirst, has_first, has_other, first_colour_is}
use Rattle.gm_cells.proofs.InOrder.{name_up, none_between, below_all}
use Rattle.gm_cells.proofs.colouring.first_colour.Goals as goal
use Rattle.gm_cells.proofs.colouring.first_colour.Goals.{then-colours-slot-eq-FIRST+in_ok-push, else-colours-slot-eq-FIRST}

pub loop-slot-init : goal.loop-slot-init
loop-slot-init g c = record {
  low = omega arith;
  listed = λ lawful gmap. subst (IsAscendingOf (IsOfFirst c.args.arena.now lawful gmap c.args.colours.now) 0) (sym c.new-first.ensures.items) (none_below (IsOfFirst c.args.arena.now lawful gmap c.args.colours.now));
}

pub overflow_add-from : goal.overflow_add-from
overflow_add-from g c =
    let lawful = c.bound.ensures.lawful in
    omega (arith, name_below c.args.arena.now c.name_of-name.result lawful (lawful.live c.in-Some.slot.at c.name_of-name.result c.name_of-name.ensures.name), lawful.few_names)

pub loop-slot-smaller : goal.loop-slot-smaller
loop-slot-smaller g c =
    let m = c.args.arena.now in
    let lawful = c.bound.ensures.lawful in
    let low = name_up m c.loop-slot.from c.in-Some.slot.at c.name_of-name.result c.name_of-name.ensures.name c.in-Some.ensures.slot in
    omega (arith, low, name_below m c.name_of-name.result lawful (lawful.live c.in-Some.slot.at c.name_of-name.result c.name_of-name.ensures.name))

pub loop-slot-preserved : goal.loop-slot-preserved
loop-slot-preserved g c =
    let m = c.args.arena.now in
    let colours = c.args.colours.now in
    let from = c.loop-slot.from in
    let slot = c.in-Some.slot.at in
    let name = c.name_of-name.result in
    let at = c.name_of-name.ensures.name in
    let up = name_up m from slot name at c.in-Some.ensures.slot in
    let below : name + 1 ≤ m.next = (let lawful = c.bound.ensures.lawful in omega (arith, name_below m name lawful (lawful.live slot name at))) in
    elim c.if-colours-slot-eq-FIRST.branch [
      | then-colours-slot-eq-FIRST+in_ok-push w ↦ record {
        low = below;
        listed = λ lawful gmap.
            let P = IsOfFirst m lawful gmap colours in
            subst (IsAscendingOf P (name + 1)) (sym (ap (λ v. v.items) w.first-is ∙ w.in_ok-push.ensures.items))
            (next_has P from name c.loop-slot.first.items up (λ d low high one. none_between m from slot name at c.in-Some.ensures.slot d low high one.0) (lawful.live slot name at, has_first m lawful gmap colours slot name at w.if-colours-slot-eq-FIRST.true) (c.loop-slot.invariant.listed lawful gmap));
      }
      | else-colours-slot-eq-FIRST w ↦ record {
        low = below;
        listed = λ lawful gmap.
            let P = IsOfFirst m lawful gmap colours in
            subst (IsAscendingOf P (name + 1)) (sym (ap (λ v. v.items) w.first-is))
            (next_not P from name c.loop-slot.first.items up (λ d low high one. none_between m from slot name at c.in-Some.ensures.slot d low high one.0) (λ one. has_other m lawful gmap colours slot name at w.if-colours-slot-eq-FIRST.false one.1) (c.loop-slot.invariant.listed lawful gmap));
      }
    ]

pub returns : goal.returns
returns g c =
    let m = c.args.arena.now in
    let lawful = c.bound.ensures.lawful in
    let gmap = c.requires.generalised in
    let P = IsOfFirst m lawful gmap c.args.colours.now in
    record {
      first = first_colour_is m lawful gmap c.args.colours.now c.args.found c.requires.painted c.requires.fits c.loop-slot.first.items
          (gap P c.loop-slot.from m.next c.loop-slot.first.items c.loop-slot.invariant.low (λ d low high one. (let b = below_all m c.loop-slot.from c.in_default.ensures.slot d one.0 in omega (arith, b, low))) (c.loop-slot.invariant.listed lawful gmap));
    }

pub prove-unreachable-requires : goal.prove-unreachable-requires
prove-unreachable-requires g c = omega (arith, c.requires.long, c.bound.ensures.bound)

pub name_of-name-requires : goal.name_of-name-requires
name_of-name-requires g c = rw c.in-Some.ensures.slot.at refl

pub bounds-colours-slot : goal.bounds-colours-slot
bounds-colours-slot g c = omega (arith, c.requires.long, c.bound.ensures.lawful.below_bound c.in-Some.slot.at _ c.name_of-name.ensures.name)

pub returns-in_err-push : goal.returns-in_err-push
returns-in_err-push g c = record { first = unless_ok _ c.from_residual.result c.from_residual.ensures.0 }
