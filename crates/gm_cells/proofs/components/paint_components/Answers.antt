use Rattle.std.proofs.Common.{ℕ, ◌+◌, ◌≤◌, length, refl, sym, ap, subst, ◌∙◌, None, arith}
use Rattle.std.proofs.lemmas.List.{length-replicate}
use Rattle.gm_model.proofs.Exits.{unless_ok}
use Rattle.gm_arena.specs.inner.ArenaMap.{IsLiveSlot, name_at}
use Rattle.gm_arena.proofs.MapLemmas.{IsAt-name_at, name_at-is, name_below}
use Rattle.gm_cells.specs.inner.Painted.{ArePainted}
use Rattle.gm_cells.proofs.InOrder.{name_up}
use Rattle.gm_cells.proofs.PaintedLemmas.{none_painted, unpainted_here, skipped, all_painted}
use Rattle.gm_cells.proofs.components.paint_components.Goals as goal
use Rattle.gm_cells.proofs.components.paint_components.Goals.{then-colours-slot-eq-NONE+in_ok-found, else-colours-slot-eq-NONE}

pub loop-slot-init : goal.loop-slot-init
loop-slot-init g c =
    let m = c.args.arena.now in
    record {
      long = refl;
      few = omega arith;
      low = omega arith;
      painted = subst (λ xs. ArePainted m 0 xs (record { count = 0; odd = None })) (sym c.requires.none) (none_painted m c.bound.ensures.lawful c.requires.generalised m.bound);
    }

pub add_component-requires-clause-fresh : goal.add_component-requires-clause-fresh
add_component-requires-clause-fresh g c =
    let m = c.args.arena.now in
    let first = c.in-Some.ensures.slot in
    let slot = c.in-Some.slot.at in
    let live : IsLiveSlot m slot = rw first.at refl in
    unpainted_here m c.bound.ensures.lawful c.requires.generalised c.loop-slot.from c.loop-slot.colours c.loop-slot.found c.loop-slot.invariant.painted slot (name_at m slot) (IsAt-name_at m slot live) first c.if-colours-slot-eq-NONE.true

pub overflow_add-from : goal.overflow_add-from
overflow_add-from g c =
    let lawful = c.bound.ensures.lawful in
    omega (arith, name_below c.args.arena.now c.name_of-from.result lawful (lawful.live c.in-Some.slot.at c.name_of-from.result c.name_of-from.ensures.name), lawful.few_names)

pub loop-slot-smaller : goal.loop-slot-smaller
loop-slot-smaller g c =
    let m = c.args.arena.now in
    let lawful = c.bound.ensures.lawful in
    let low = name_up m c.loop-slot.from c.in-Some.slot.at c.name_of-from.result c.name_of-from.ensures.name c.in-Some.ensures.slot in
    omega (arith, low, name_below m c.name_of-from.result lawful (lawful.live c.in-Some.slot.at c.name_of-from.result c.name_of-from.ensures.name))

pub loop-slot-preserved : goal.loop-slot-preserved
loop-slot-preserved g c =
    let m = c.args.arena.now in
    let lawful = c.bound.ensures.lawful in
    let gmap = c.requires.generalised in
    let i = c.loop-slot.invariant in
    let from = c.loop-slot.from in
    let slot = c.in-Some.slot.at in
    let name = c.name_of-from.result in
    let at = c.name_of-from.ensures.name in
    let first = c.in-Some.ensures.slot in
    let low = name_up m from slot name at first in
    let below : name + 1 ≤ m.next = omega (arith, name_below m name lawful (lawful.live slot name at)) in
    elim c.if-colours-slot-eq-NONE.branch [
      | then-colours-slot-eq-NONE+in_ok-found w ↦ record {
        long = rw w.colours-is (w.add_component.ensures.long ∙ i.long);
        few = rw w.found-is (omega (arith, w.in_ok-found.ensures.count, i.few, low));
        low = below;
        painted = rw (w.colours-is, w.found-is) (subst (λ d. ArePainted m (d + 1) w.add_component.new.colours w.in_ok-found.found) (name_at-is m slot name at) (w.in_ok-found.ensures.painted from first i.painted));
      }
      | else-colours-slot-eq-NONE w ↦ record {
        long = rw w.colours-is i.long;
        few = rw w.found-is (omega (arith, i.few, low));
        low = below;
        painted = rw (w.colours-is, w.found-is) (skipped m lawful gmap from c.loop-slot.colours c.loop-slot.found i.painted slot name at first w.if-colours-slot-eq-NONE.false);
      }
    ]

pub returns-clause-painted : goal.returns-clause-painted
returns-clause-painted g c =
    let m = c.args.arena.now in
    all_painted m c.bound.ensures.lawful c.requires.generalised c.loop-slot.from c.loop-slot.colours c.loop-slot.found c.loop-slot.invariant.painted c.in_default.ensures.slot m.next c.loop-slot.invariant.low

pub prove-unreachable-requires : goal.prove-unreachable-requires
prove-unreachable-requires g c = omega (arith, ap length c.requires.none, length-replicate {A = ℕ} c.args.arena.now.bound 0, c.bound.ensures.bound)

pub bounds-colours-slot : goal.bounds-colours-slot
bounds-colours-slot g c =
    let m = c.args.arena.now in
    let slot = c.in-Some.slot.at in
    let live : IsLiveSlot m slot = rw c.in-Some.ensures.slot.at refl in
    omega (arith, c.loop-slot.invariant.long, ap length c.requires.none, length-replicate {A = ℕ} m.bound 0, c.bound.ensures.lawful.below_bound slot _ (IsAt-name_at m slot live))

pub add_component-requires-clause-generalised : goal.add_component-requires-clause-generalised
add_component-requires-clause-generalised g c = c.requires.generalised

pub add_component-requires-clause-lawful : goal.add_component-requires-clause-lawful
add_component-requires-clause-lawful g c = c.bound.ensures.lawful

pub add_component-requires-clause-live : goal.add_component-requires-clause-live
add_component-requires-clause-live g c = rw c.in-Some.ensures.slot.at refl

pub add_component-requires-clause-long : goal.add_component-requires-clause-long
add_component-requires-clause-long g c = c.loop-slot.invariant.long ∙ ap length c.requires.none ∙ length-replicate c.args.arena.now.bound 0

pub add_component-requires-clause-few : goal.add_component-requires-clause-few
add_component-requires-clause-few g c =
    let m = c.args.arena.now in
    let lawful = c.bound.ensures.lawful in
    let slot = c.in-Some.slot.at in
    let live : IsLiveSlot m slot = rw c.in-Some.ensures.slot.at refl in
    let at = IsAt-name_at m slot live in
    let low = name_up m c.loop-slot.from slot (name_at m slot) at c.in-Some.ensures.slot in
    omega (arith, low, c.loop-slot.invariant.few, name_below m (name_at m slot) lawful (lawful.live slot (name_at m slot) at), lawful.few_names)

pub returns-in_err-found-clause-painted : goal.returns-in_err-found-clause-painted
returns-in_err-found-clause-painted g c = unless_ok _ c.from_residual.result c.from_residual.ensures.0

pub returns-in_err-found-clause-long : goal.returns-in_err-found-clause-long
returns-in_err-found-clause-long g c = c.add_component.ensures.long ∙ c.loop-slot.invariant.long

pub name_of-from-requires : goal.name_of-from-requires
name_of-from-requires g c = rw c.in-Some.ensures.slot.at refl

pub returns-clause-long : goal.returns-clause-long
returns-clause-long g c = c.loop-slot.invariant.long
