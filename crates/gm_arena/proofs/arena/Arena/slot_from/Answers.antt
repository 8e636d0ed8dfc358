use Rattle.std.proofs.Common.{inl, inr, sym, ap, ◌∙◌, arith}
use Rattle.std.proofs.lemmas.Bool.{cases_lt, cases_eq}
use Rattle.std.proofs.lemmas.List.{get_or_past}
use Rattle.std.specs.FinMap.{get}
use Rattle.gm_arena.specs.inner.Inside.{no_slot, slot_in}
use Rattle.gm_arena.proofs.InsideLemmas.{slot_named, no_dart}
use Rattle.gm_arena.proofs.SlotNameLemmas.{answered}
use Rattle.gm_arena.proofs.arena.Arena.slot_from.Goals as goal

pub returns-then-has_slots_for_names-clause-slot : goal.returns-then-has_slots_for_names-clause-slot
returns-then-has_slots_for_names-clause-slot g c =
    let known = c.has_slots_for_names.ensures in
    let told = c.if-has_slots_for_names.true in
    answered c.slot_below_bound.result c.slot_below_bound.ensures
    (λ above name later. known.none told name (omega (arith, above, later)))
    (λ s below. record {
      name = c.args.from;
      at = ap (get c.args.self.now.slots) below.0 ∙ known.at told c.args.from below.1;
      above = omega arith;
      least = λ other above before. absurd (omega (arith, above, before));
    })

pub returns-then-at-clause-slot : goal.returns-then-at-clause-slot
returns-then-at-clause-slot g c = record {
  name = c.loop-name.name;
  at = rw (← c.self.view_is) (slot_named _ _ _ _ _ _ _ _ _ _ c.self.invariant.0 c.loop-name.name c.slot-at.result (sym c.slot-at.ensures) c.if-at.true);
  above = omega (arith, c.loop-name.auto.name);
  least = c.loop-name.invariant;
}

pub loop-name-preserved : goal.loop-name-preserved
loop-name-preserved g c = λ other above below.
    elim (cases_eq other c.loop-name.name) [
      | inl e ↦ rw (← c.self.view_is) (no_dart _ _ _ _ _ _ _ _ _ _ c.self.invariant.0 other (ap (slot_in c.self.inside.table) e ∙ (sym c.slot-at.ensures ∙ c.if-at.false)))
      | inr apart ↦ c.loop-name.invariant other above (omega (arith, below, apart))
    ]

pub returns-clause-slot : goal.returns-clause-slot
returns-clause-slot g c = λ name above. elim (cases_lt name c.loop-name.name) [
  | inl before ↦ c.loop-name.invariant name above before
  | inr past ↦ rw (← c.self.view_is) (no_dart _ _ _ _ _ _ _ _ _ _ c.self.invariant.0 name (get_or_past c.self.inside.table name no_slot (omega (arith, past, c.loop-name-test.false, c.len-name-end.ensures))))
]
