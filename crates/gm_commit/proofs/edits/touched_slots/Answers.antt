use Rattle.std.proofs.Common.{◌≡◌, List, [], length, ap, subst, sym, take, ◌∙◌, arith}
use Rattle.std.proofs.lemmas.Bool.{eqb-true}
use Rattle.std.proofs.lemmas.List.{take_more, take_all}
use Rattle.gm_arena.specs.declared.slot.Slot.{Slot}
use Rattle.gm_walk.specs.inner.Room.{Room}
use Rattle.gm_commit.specs.inner.TouchedSlots.{AreTaken}
use Rattle.gm_commit.proofs.on_edits.SlotsTaken.{none_taken, none_valued, same_bound, take_slot, within}
use Rattle.gm_commit.proofs.ListMembers.{contains_at}
use Rattle.gm_commit.proofs.edits.touched_slots.Goals as goal

pub returns-then-is_empty-clause-taken : goal.returns-then-is_empty-clause-taken
returns-then-is_empty-clause-taken c = none_valued c.args.values.now c.args.slots.now (eqb-true (length c.args.values.now) 0 (sym c.is_empty.ensures ∙ c.if-is_empty.true)) c.requires.distinct

pub loop-slot-init : goal.loop-slot-init
loop-slot-init c = record {
  taken = rw c.clear.ensures none_taken;
  fits = omega (arith, c.in_ok-fit.ensures.fits, ap (λ (r : Room). r.bound) c.clear.ensures);
  room = omega (arith, c.fit.ensures.kept, ap (λ (r : Room). r.bound) c.clear.ensures);
}

pub take_in-requires : goal.take_in-requires
take_in-requires c = within c.args.arena.now c.loop-slot.scratch.bound _ c.count.ensures.lawful c.loop-slot.invariant.fits (c.requires.matched _ (contains_at c.args.slots.now c.loop-slot.slot-index (record { at = 0 }) c.loop-slot-test.true))

pub loop-slot-preserved : goal.loop-slot-preserved
loop-slot-preserved c = record {
  taken = subst (λ (slots : List Slot). AreTaken slots [] c.take_in.new.self.walked) (sym (take_more c.args.slots.now c.loop-slot.slot-index (record { at = 0 }) c.loop-slot-test.true))
      (take_slot (take c.loop-slot.slot-index c.args.slots.now) [] c.loop-slot.scratch c.take_in.new.self _ c.loop-slot.invariant.taken c.take_in.ensures);
  fits = omega (arith, same_bound _ _ _ c.take_in.ensures, c.loop-slot.invariant.fits);
  room = omega (arith, same_bound _ _ _ c.take_in.ensures, c.loop-slot.invariant.room);
}

pub take_values-requires : goal.take_values-requires
take_values-requires c = record {
  within = λ at among. within c.args.arena.now c.loop-slot.scratch.bound at.slot.at c.count.ensures.lawful c.loop-slot.invariant.fits (c.requires.valued at among);
}

pub returns-clause-taken : goal.returns-clause-taken
returns-clause-taken c =
    let whole : take c.loop-slot.slot-index c.args.slots.now ≡ c.args.slots.now = take_all c.loop-slot.slot-index c.args.slots.now c.loop-slot-test.false in
    let taken = c.take_values.ensures.taken c.args.slots.now (subst (λ (slots : List Slot). AreTaken slots [] c.loop-slot.scratch.walked) whole c.loop-slot.invariant.taken) in
    let walked = c.in_ok-touched.ensures.items ∙ c.walked.ensures.value in
    rw walked taken
