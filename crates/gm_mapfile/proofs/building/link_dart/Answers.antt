use Rattle.std.proofs.Common.{◌≡◌, ◌+◌, ◌<◌, ap, subst, arith, refl}
use Rattle.gm_mapfile.specs.inner.Building.{IsDartLinked}
use Rattle.gm_mapfile.proofs.Linking.{same_dim, none_linked, linked_at, not_live, no_target, slot_live}
use Rattle.gm_mapfile.proofs.building.link_dart.Goals as goal

pub loop-label-init : goal.loop-label-init
loop-label-init g c =
    record {
      linked = none_linked c.args.arena.now.schema.dim c.args.arena.now c.args.name c.args.neighbours.now c.requires.whole;
      at = c.in_ok-slot.ensures.slot;
      most = omega (arith, c.slot_of.ensures.cost);
      least = omega (arith, c.slot_of.ensures.cost);
    }

pub loop-label-preserved : goal.loop-label-preserved
loop-label-preserved g c =
    let before = c.loop-label.invariant in
    let old = c.args.arena.now in
    record {
      linked = linked_at old.schema.dim old c.loop-label.arena c.set_alpha.new.self c.args.name c.args.neighbours.now c.loop-label.label c.in_ok-slot.slot.at c.in-Some.to.at before.linked before.at c.in-Some.ensures.slot c.set_alpha.ensures.map c.requires.slots c.requires.live
          (omega (arith, c.loop-label-test.true, c.top-label-end.ensures.value, ap (λ s. s.dim) c.schema.ensures));
      at = before.at;
      most = omega (arith, before.most, c.slot_of-in-loop-label.ensures.cost, c.set_alpha.ensures.cost);
      least = omega (arith, before.least, c.slot_of-in-loop-label.ensures.cost, c.set_alpha.ensures.cost);
    }

pub returns-in-Some-clause-linked : goal.returns-in-Some-clause-linked
returns-in-Some-clause-linked g c =
    let before = c.loop-label.invariant in
    let old = c.args.arena.now in
    let top : c.loop-label.label + 1 ≡ old.schema.dim + 1 = omega (arith, c.loop-label-test.true, c.top-label-end.ensures.value, ap (λ s. s.dim) c.schema.ensures) in
    subst (λ label. IsDartLinked old.schema.dim old c.set_alpha.new.self c.args.name c.args.neighbours.now label) top
    (linked_at old.schema.dim old c.loop-label.arena c.set_alpha.new.self c.args.name c.args.neighbours.now c.loop-label.label c.in_ok-slot.slot.at c.in-Some.to.at before.linked before.at c.in-Some.ensures.slot c.set_alpha.ensures.map c.requires.slots c.requires.live
    (omega (arith, c.loop-label-test.true, c.top-label-end.ensures.value, ap (λ s. s.dim) c.schema.ensures)))

pub returns-in_err-slot-clause-linked : goal.returns-in_err-slot-clause-linked
returns-in_err-slot-clause-linked g c = absurd (not_live _ c.in_err-slot.ensures.slot c.requires.live)

pub returns-in_err-slot-clause-most : goal.returns-in_err-slot-clause-most
returns-in_err-slot-clause-most g c = omega (arith, c.slot_of.ensures.cost)

pub returns-in_err-slot-clause-least : goal.returns-in_err-slot-clause-least
returns-in_err-slot-clause-least g c = omega (arith, c.slot_of.ensures.cost)

pub bounds-neighbours-label : goal.bounds-neighbours-label
bounds-neighbours-label g c =
    let low : c.loop-label.label < c.args.arena.now.schema.dim + 1 = omega (arith, c.loop-label-test.true, c.top-label-end.ensures.value, ap (λ s. s.dim) c.schema.ensures) in
    omega (arith, low, c.requires.labels)

pub returns-in_default-clause-linked : goal.returns-in_default-clause-linked
returns-in_default-clause-linked g c =
    let low : c.loop-label.label < c.args.arena.now.schema.dim + 1 = omega (arith, c.loop-label-test.true, c.top-label-end.ensures.value, ap (λ s. s.dim) c.schema.ensures) in
    let before = c.loop-label.invariant in
    (before.linked, no_target _ _ _ _ _ _ _ before.linked refl c.in_default.ensures.slot (omega (arith, low)))

pub returns-in_default-clause-most : goal.returns-in_default-clause-most
returns-in_default-clause-most g c =
    let low : c.loop-label.label < c.args.arena.now.schema.dim + 1 = omega (arith, c.loop-label-test.true, c.top-label-end.ensures.value, ap (λ s. s.dim) c.schema.ensures) in
    omega (arith, low, c.loop-label.invariant.most, c.slot_of-in-loop-label.ensures.cost)

pub returns-in_default-clause-least : goal.returns-in_default-clause-least
returns-in_default-clause-least g c = omega (arith, c.loop-label.invariant.least, c.slot_of-in-loop-label.ensures.cost)

pub set_alpha-requires-clause-live : goal.set_alpha-requires-clause-live
set_alpha-requires-clause-live g c = slot_live _ _ _ _ _ c.loop-label.invariant.linked.relinked c.loop-label.invariant.at

pub set_alpha-requires-clause-label : goal.set_alpha-requires-clause-label
set_alpha-requires-clause-label g c =
    let low : c.loop-label.label < c.args.arena.now.schema.dim + 1 = omega (arith, c.loop-label-test.true, c.top-label-end.ensures.value, ap (λ s. s.dim) c.schema.ensures) in
    omega (arith, low, same_dim c.loop-label.invariant.linked.relinked)

pub set_alpha-requires-clause-to_live : goal.set_alpha-requires-clause-to_live
set_alpha-requires-clause-to_live g c = let at = c.in-Some.ensures.slot in rw at refl

pub loop-label-smaller : goal.loop-label-smaller
loop-label-smaller g c = omega (arith, c.loop-label-test.true)

pub returns-in-Some-clause-most : goal.returns-in-Some-clause-most
returns-in-Some-clause-most g c =
    let low : c.loop-label.label < c.args.arena.now.schema.dim + 1 = omega (arith, c.loop-label-test.true, c.top-label-end.ensures.value, ap (λ s. s.dim) c.schema.ensures) in
    omega (arith, low, c.loop-label.invariant.most, c.slot_of-in-loop-label.ensures.cost, c.set_alpha.ensures.cost)

pub returns-in-Some-clause-least : goal.returns-in-Some-clause-least
returns-in-Some-clause-least g c = omega (arith, c.loop-label.invariant.least, c.slot_of-in-loop-label.ensures.cost, c.set_alpha.ensures.cost)
