use Rattle.std.proofs.Common.{◌≡◌, Some, refl, sym, subst, ◌∙◌, arith}
use Rattle.std.specs.List.{slice_get, Contains}
use Rattle.gm_walk.specs.inner.Room.{Room}
use Rattle.gm_match.proofs.Taking.{node_taken, placed, known_place, earlier_node, slot_taken, slot_below, taken_twice, bound_kept}
use Rattle.gm_walk.proofs.NameLemmas.{is_new, not_new}
use Rattle.gm_match.proofs.repeats.take_node.Goals as goal

pub take_new-requires : goal.take_new-requires
take_new-requires c = rw c.loop-position.invariant.bound (slot_below c.args.found.now c.args.scratch.now.bound c.requires.room _ _ c.slot-slot.result c.slot-slot.ensures)

pub unwrap-place-requires : goal.unwrap-place-requires
unwrap-place-requires c =
    let known = not_new _ _ _ _ c.take_new.ensures.taken c.take_new.ensures.new c.if-not-take_new.true in
    known_place c.take_new.new.self.walked c.slot-slot.result c.place.result c.place.ensures (subst (λ (r : Room). Contains r.walked c.slot-slot.result) (sym known.1) known.0)

pub nonzero_div-result : goal.nonzero_div-result
nonzero_div-result c = omega (arith, c.positions-positions.ensures.value, c.positions-positions.ensures.some)

pub overflow_cast-result : goal.overflow_cast-result
overflow_cast-result c =
    let known = not_new _ _ _ _ c.take_new.ensures.taken c.take_new.ensures.new c.if-not-take_new.true in
    let told : slice_get c.take_new.new.self.walked c.unwrap-place.result ≡ Some c.slot-slot.result = placed c.take_new.new.self.walked c.slot-slot.result c.place.result c.unwrap-place.result c.place.ensures c.unwrap-place.ensures in
    let there : slice_get c.loop-position.scratch.walked c.unwrap-place.result ≡ Some c.slot-slot.result = subst (λ (r : Room). slice_get r.walked c.unwrap-place.result ≡ Some c.slot-slot.result) known.1 told in
    rw c.positions-positions.ensures.value (omega (arith, earlier_node c.args.found.now _ _ _ c.loop-position.invariant.taken c.slot-slot.result c.slot-slot.ensures (omega arith) c.unwrap-place.result there, c.ranges.node))

pub nonzero_rem-result : goal.nonzero_rem-result
nonzero_rem-result c = omega (arith, c.positions-positions.ensures.value, c.positions-positions.ensures.some)

pub returns-then-not-take_new-clause-taken : goal.returns-then-not-take_new-clause-taken
returns-then-not-take_new-clause-taken c =
    let known = not_new _ _ _ _ c.take_new.ensures.taken c.take_new.ensures.new c.if-not-take_new.true in
    let told : slice_get c.take_new.new.self.walked c.unwrap-place.result ≡ Some c.slot-slot.result = placed c.take_new.new.self.walked c.slot-slot.result c.place.result c.unwrap-place.result c.place.ensures c.unwrap-place.ensures in
    let there : slice_get c.loop-position.scratch.walked c.unwrap-place.result ≡ Some c.slot-slot.result = subst (λ (r : Room). slice_get r.walked c.unwrap-place.result ≡ Some c.slot-slot.result) known.1 told in
    rw c.positions-positions.ensures.value (taken_twice c.args.found.now _ _ _ c.loop-position.invariant.taken c.slot-slot.result c.slot-slot.ensures (omega arith) c.unwrap-place.result c.requires.node there)

pub returns-then-not-take_new-clause-room : goal.returns-then-not-take_new-clause-room
returns-then-not-take_new-clause-room c = bound_kept _ _ _ c.take_new.ensures.taken ∙ c.loop-position.invariant.bound

pub loop-position-preserved : goal.loop-position-preserved
loop-position-preserved c =
    let new = is_new _ _ _ _ c.take_new.ensures.taken c.take_new.ensures.new c.if-not-take_new.false in
    record {
      taken = slot_taken c.args.found.now _ _ _ c.loop-position.invariant.taken c.slot-slot.result c.slot-slot.ensures (omega arith) c.loop-position.scratch c.take_new.new.self refl c.take_new.ensures.taken new.lacks;
      bound = bound_kept _ _ _ c.take_new.ensures.taken ∙ c.loop-position.invariant.bound;
    }

pub returns-clause-taken : goal.returns-clause-taken
returns-clause-taken c = node_taken c.args.found.now _ _ _ (omega arith) c.loop-position.invariant.taken
