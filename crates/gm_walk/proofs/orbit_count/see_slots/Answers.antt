use Rattle.std.proofs.Common.{◌≡◌, ◌+◌, ◌<◌, ◌≤◌, ◌++◌, ◌∷◌, [], true, length, get_or, set, take, refl, sym, ap, subst, ◌∙◌, arith, length-append, length-set}
use Rattle.std.proofs.lemmas.List.{get_or-append-add, length-map, take_all, take_more, take-append-le}
use Rattle.gm_arena.specs.inner.ArenaMap.{IsAt, name_at}
use Rattle.gm_arena.specs.declared.slot.Slot.{Slot}
use Rattle.gm_arena.proofs.MapLemmas.{IsAt-name_at}
use Rattle.gm_walk.specs.inner.Seen.{HasSeen}
use Rattle.gm_walk.specs.inner.Walks.{names_of}
use Rattle.gm_walk.proofs.NameLemmas.{name_there}
use Rattle.gm_walk.proofs.SlotLemmas.{lacked_unseen, one_seen}
use Rattle.gm_walk.proofs.WalkedLemmas.{not_before}
use Rattle.gm_walk.proofs.orbit_count.see_slots.Goals as goal

pub bounds-seen-slot : goal.bounds-seen-slot
bounds-seen-slot c = let within = c.requires.within c.loop-slot.slot-index (record { at = 0 }) c.loop-slot-test.true in omega (arith, within, c.loop-slot.invariant.long)

pub loop-slot-init : goal.loop-slot-init
loop-slot-init c = record {
  seen = λ m before lawful live s distinct.
      let all = before ++ names_of m c.args.slots.now in
      let same : take (length before + 0) all ≡ before = ap (λ k. take k all) (omega arith) ∙ (take-append-le (length before) before (names_of m c.args.slots.now) (omega arith) ∙ take_all (length before) before (omega arith)) in
      subst (HasSeen m c.args.seen.now) (sym same) s;
  long = refl;
}

pub loop-slot-preserved : goal.loop-slot-preserved
loop-slot-preserved c =
    let i = c.loop-slot.invariant in
    let slots = c.args.slots.now in
    let p = c.loop-slot.slot-index in
    let slot : Slot = get_or slots p (record { at = 0 }) in
    let here = c.requires.within p (record { at = 0 }) c.loop-slot-test.true in
    record {
      seen = λ m before lawful live s distinct.
          let names = names_of m slots in
          let all = before ++ names in
          let k = length before + p in
          let within : k < length all = omega (arith, length-append before names, length-map slots (λ (s : Slot). name_at m s.at), c.loop-slot-test.true) in
          let is : name_at m slot.at ≡ get_or all k 0 = sym (get_or-append-add before names p 0 ∙ name_there m slots p (record { at = 0 }) c.loop-slot-test.true) in
          let at : IsAt m slot.at (get_or all k 0) = subst (IsAt m slot.at) is (IsAt-name_at m slot.at (live p (record { at = 0 }) c.loop-slot-test.true)) in
          let old = i.seen m before lawful live s distinct in
          let free = lacked_unseen m c.loop-slot.seen (take k all) old slot.at (get_or all k 0) at (not_before all k distinct within) in
          let new = one_seen m c.loop-slot.seen (take k all) old slot.at (get_or all k 0) at lawful (omega (arith, here, i.long)) free in
          let same : take (length before + (p + 1)) all ≡ take k all ++ get_or all k 0 ∷ [] = ap (λ k. take k all) (omega arith) ∙ take_more all k 0 within in
          subst (HasSeen m (set c.loop-slot.seen slot.at true)) (sym same) new;
      long = length-set _ _ _ ∙ i.long;
    }

pub returns-clause-seen : goal.returns-clause-seen
returns-clause-seen c = λ m before lawful live s distinct.
    let slots = c.args.slots.now in
    let all = before ++ names_of m slots in
    let k = length before + c.loop-slot.slot-index in
    let past : length all ≤ k = omega (arith, length-append before (names_of m slots), length-map slots (λ (s : Slot). name_at m s.at), c.loop-slot-test.false) in
    subst (HasSeen m c.loop-slot.seen) (take_all k all past) (c.loop-slot.invariant.seen m before lawful live s distinct)
