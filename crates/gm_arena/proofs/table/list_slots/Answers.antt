use Rattle.std.proofs.Common.{◌≡◌, ◌-◌, ap, ◌++◌, ◌∷◌, [], ◌∙◌, sym, length, replicate, arith}
use Rattle.std.specs.List.{range_with_len}
use Rattle.gm_arena.specs.inner.Inside.{no_slot}
use Rattle.std.proofs.lemmas.List.FromFn.{length-range_with_len}
use Rattle.gm_arena.proofs.ListingLemmas.{numbers_more, of_ok}
use Rattle.gm_arena.proofs.table.list_slots.Goals as goal

pub push_reserved-requires : goal.push_reserved-requires
push_reserved-requires c = omega (arith, c.loop-slot.slots.ok.0, ap length c.loop-slot.invariant.slots, length-range_with_len 0 c.loop-slot.slot, c.loop-slot.invariant.room, c.loop-slot-test.true, c.requires.taken)

pub loop-slot-preserved : goal.loop-slot-preserved
loop-slot-preserved c = record {
  slots = c.push_reserved.ensures.items ∙ (ap (λ xs. xs ++ c.loop-slot.slot ∷ []) c.loop-slot.invariant.slots ∙ sym (numbers_more c.loop-slot.slot));
  room = omega (arith, c.push_reserved.ensures.capacity, c.loop-slot.invariant.room);
}

pub pad_slots-padded-requires : goal.pad_slots-padded-requires
pad_slots-padded-requires c = omega (arith, ap length c.loop-slot.invariant.slots, length-range_with_len 0 c.loop-slot.slot, c.loop-slot.auto.slot-end, c.requires.taken)

pub returns : goal.returns
returns c =
    let inv = c.loop-slot.invariant in
    let last : c.loop-slot.slot ≡ c.args.taken = omega (arith, c.loop-slot.auto.slot-end, c.loop-slot-test.false) in
    let here = inv.slots ∙ ap (range_with_len 0) last in
    of_ok c.pad_slots-padded.result (c.pad_slots-padded.ensures.succeeds inv.room) c.pad_slots-padded.ensures.ok
    ∙ (ap (λ xs. xs ++ replicate (c.args.len - length xs) no_slot) here ∙ ap (λ n. range_with_len 0 c.args.taken ++ replicate (c.args.len - n) no_slot) (length-range_with_len 0 c.args.taken))
