use Rattle.std.proofs.Common.{sym, ap, ◌∙◌}
use Rattle.std.specs.FinMap.{get}
use Rattle.gm_arena.proofs.InsideLemmas.{slot_named, no_dart}
use Rattle.gm_arena.proofs.SlotNameLemmas.{answered}
use Rattle.gm_arena.proofs.arena.Arena.slot_of.Goals as goal

pub returns-then-has_slots_for_names-clause-slot : goal.returns-then-has_slots_for_names-clause-slot
returns-then-has_slots_for_names-clause-slot g c =
    let known = c.has_slots_for_names.ensures in
    let told = c.if-has_slots_for_names.true in
    answered c.slot_below_bound.result c.slot_below_bound.ensures
    (λ above. known.none told c.args.name above)
    (λ s below. ap (get c.args.self.now.slots) below.0 ∙ known.at told c.args.name below.1)

pub returns-then-at-clause-slot : goal.returns-then-at-clause-slot
returns-then-at-clause-slot g c = rw (← c.self.view_is) (no_dart _ _ _ _ _ _ _ _ _ _ c.self.invariant.0 c.args.name (sym c.slot-at.ensures ∙ c.if-at.true))

pub returns-clause-slot : goal.returns-clause-slot
returns-clause-slot g c = rw (← c.self.view_is) (slot_named _ _ _ _ _ _ _ _ _ _ c.self.invariant.0 c.args.name c.slot-at.result (sym c.slot-at.ensures) c.if-at.false)
