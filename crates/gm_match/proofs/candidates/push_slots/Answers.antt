use Rattle.std.proofs.Common.{[], ◌∷◌, ◌++◌, take, get_or, sym, ap, ◌∙◌, append_assoc}
use Rattle.std.proofs.lemmas.List.{take_more}
use Rattle.gm_match.proofs.candidates.push_slots.Goals as goal

pub loop-slot-preserved : goal.loop-slot-preserved
loop-slot-preserved c =
    let i = c.loop-slot.invariant in
    let row = c.args.row.now in
    let start = c.args.slots.now.items in
    let slot = get_or row c.loop-slot.slot-index (record { at = 0 }) in
    let more = take_more row c.loop-slot.slot-index (record { at = 0 }) c.loop-slot-test.true in
    record {
      items = c.push_reserved.ensures.items ∙ ap (λ items. items ++ slot ∷ []) i.items ∙ append_assoc start (take c.loop-slot.slot-index row) (slot ∷ []) ∙ ap (λ items. start ++ items) (sym more);
      capacity = c.push_reserved.ensures.capacity ∙ i.capacity;
    }
