use Rattle.std.proofs.Common.{◌≡◌, ◌+◌, ◌*◌, ◌≤◌, ◌++◌, length, sym, subst, arith, length-append}
use Rattle.std.proofs.lemmas.List.{length-map}
use Rattle.gm_model.specs.Orbits.{IsWalk}
use Rattle.gm_arena.specs.inner.ArenaMap.{name_at}
use Rattle.gm_arena.specs.declared.slot.Slot.{Slot}
use Rattle.gm_arena.proofs.MapLemmas.{IsAt-name_at}
use Rattle.gm_walk.specs.inner.Seen.{seen_count}
use Rattle.gm_walk.specs.inner.Walks.{AreLive, along, names_of}
use Rattle.gm_walk.proofs.SlotLemmas.{unseen_lacks}
use Rattle.gm_walk.proofs.WalkedLemmas.{names_live, walk_distinct, walk_grown, walk_steps}
use Rattle.gm_walk.proofs.orbit_count.see_walk.Goals as goal

pub returns-clause-seen : goal.returns-clause-seen
returns-clause-seen g c = λ before s closed.
    let m = c.args.arena.now in
    let word = c.args.word.now in
    let from = c.args.from.at in
    let d = name_at m from in
    let slots = c.slots.result.now in
    let names = names_of m slots in
    let whole = subst (λ xs. IsWalk (along m word) (length word) d (names_of m xs)) (sym c.slots.ensures.value) c.walk_word-walk.ensures.walk in
    let live = subst (AreLive m) (sym c.slots.ensures.value) c.walk_word-walk.ensures.live in
    let lacks = unseen_lacks m c.args.seen.now before s from d (IsAt-name_at m from c.requires.from) c.requires.unseen in
    let distinct = walk_distinct m word d names whole c.requires.generalised c.requires.word (names_live m c.requires.lawful slots live) before closed lacks s.distinct in
    (before ++ names, c.see_slots.ensures.seen m before c.requires.lawful live s distinct, walk_grown m word d names whole before)

pub returns-clause-cost : goal.returns-clause-cost
returns-clause-cost g c = λ before s closed.
    let m = c.args.arena.now in
    let word = c.args.word.now in
    let from = c.args.from.at in
    let d = name_at m from in
    let slots = c.slots.result.now in
    let names = names_of m slots in
    let whole = subst (λ xs. IsWalk (along m word) (length word) d (names_of m xs)) (sym c.slots.ensures.value) c.walk_word-walk.ensures.walk in
    let live = subst (AreLive m) (sym c.slots.ensures.value) c.walk_word-walk.ensures.live in
    let lacks = unseen_lacks m c.args.seen.now before s from d (IsAt-name_at m from c.requires.from) c.requires.unseen in
    let distinct = walk_distinct m word d names whole c.requires.generalised c.requires.word (names_live m c.requires.lawful slots live) before closed lacks s.distinct in
    let after = c.see_slots.ensures.seen m before c.requires.lawful live s distinct in
    let more : seen_count c.see_slots.new.seen ≡ seen_count c.args.seen.now + length slots = omega (arith, s.counted, after.counted, length-append before names, length-map slots (λ (s : Slot). name_at m s.at)) in
    walk_steps m.schema.dim c.args.steps.now c.walk_word-walk.new.steps (seen_count c.args.seen.now) (seen_count c.see_slots.new.seen) (length slots) more
    (subst (λ xs. c.walk_word-walk.new.steps ≤ c.args.steps.now + 4 * (m.schema.dim + 1) * length xs) (sym c.slots.ensures.value) c.walk_word-walk.ensures.cost)
