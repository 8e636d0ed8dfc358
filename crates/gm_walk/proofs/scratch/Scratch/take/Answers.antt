use Rattle.std.proofs.Common.{◌≡◌, ℕ, List, ◌+◌, ◌<◌, length, get_or, set, sym, ap, subst, ◌∙◌, arith, length-set}
use Rattle.std.proofs.lemmas.List.{length-map, length_push, map_push, get_or_default, set-get_or}
use Rattle.gm_arena.specs.declared.slot.Slot.{Slot}
use Rattle.gm_walk.specs.inner.Room.TakesIn.{Known, Added}
use Rattle.gm_walk.specs.inner.Marks.{IsKept, IsMarked, numbers}
use Rattle.gm_walk.proofs.MarkLemmas.{taken_in, not_contained, has_mark, mark_tells, last_there}
use Rattle.gm_walk.proofs.scratch.Scratch.take.Goals as goal

-- a slot that is not marked leaves room in the queue
some_room : (queue marks : List ℕ) (slot : ℕ) → IsMarked queue marks → slot < length marks → get_or marks slot 0 ≡ 0 → length queue < length marks
some_room queue marks slot m within free = omega (arith, (taken_in queue marks slot m within free).counted, length_push queue slot, length-set marks slot (length queue + 1))

pub overflow_cast-place : goal.overflow_cast-place
overflow_cast-place c =
    let kept = c.self.invariant in
    omega (arith, c.len-place.ensures, c.self.inside.queue.ok.0, length-map c.self.inside.queue.items (λ (s : Slot). s.at), kept.marked.counted, kept.few)

pub index_mut-mark-requires : goal.index_mut-mark-requires
index_mut-mark-requires c = omega (arith, ap (λ r. r.bound) c.self.view_is, c.requires, c.self.inside.marks.ok.0)

pub push_reserved-requires : goal.push_reserved-requires
push_reserved-requires c =
    let within : c.args.slot.at < length c.self.inside.marks.items = omega (arith, ap (λ r. r.bound) c.self.view_is, c.requires) in
    let free : get_or c.self.inside.marks.items c.args.slot.at 0 ≡ 0 = get_or_default c.self.inside.marks.items c.args.slot.at 0 c.index_mut-mark.result.now within ∙ (sym c.index_mut-mark.ensures.value ∙ c.if-mark-ne0.false) in
    omega (arith, some_room _ _ _ c.self.invariant.marked within free, length-map c.self.inside.queue.items (λ (s : Slot). s.at), c.self.invariant.room, c.self.inside.queue.ok.0)

pub invariant_of-self : goal.invariant_of-self
invariant_of-self c =
    let inside = c.self.inside in
    let mark = c.index_mut-mark.result.now in
    let same = ap (set inside.marks.items c.args.slot.at) c.index_mut-mark.ensures.value ∙ set-get_or inside.marks.items c.args.slot.at mark in
    subst (λ marks. IsKept inside.queue.items marks inside.queue.cap) (sym same) c.self.invariant

pub overflow_sub-result : goal.overflow_sub-result
overflow_sub-result c = omega (arith, c.if-mark-ne0.true)

pub invariant_of-self-2 : goal.invariant_of-self-2
invariant_of-self-2 c =
    let m = c.self.invariant.marked in
    let within : c.args.slot.at < length c.self.inside.marks.items = omega (arith, ap (λ r. r.bound) c.self.view_is, c.requires) in
    let free : get_or c.self.inside.marks.items c.args.slot.at 0 ≡ 0 = get_or_default c.self.inside.marks.items c.args.slot.at 0 c.index_mut-mark.result.now within ∙ (sym c.index_mut-mark.ensures.value ∙ c.if-mark-ne0.false) in
    let long : c.len-place.result ≡ length (numbers c.self.inside.queue.items) = omega (arith, c.len-place.ensures, c.self.inside.queue.ok.0, length-map c.self.inside.queue.items (λ (s : Slot). s.at)) in
    record {
      marked = rw (c.push_reserved.ensures.items, map_push, long) (taken_in _ _ _ m within free);
      room = rw (length-set, c.push_reserved.ensures.capacity) c.self.invariant.room;
      few = rw length-set c.self.invariant.few;
    }

pub returns : goal.returns
returns c =
    let within : c.args.slot.at < length c.self.inside.marks.items = omega (arith, ap (λ r. r.bound) c.self.view_is, c.requires) in
    let free : get_or c.self.inside.marks.items c.args.slot.at 0 ≡ 0 = get_or_default c.self.inside.marks.items c.args.slot.at 0 c.index_mut-mark.result.now within ∙ (sym c.index_mut-mark.ensures.value ∙ c.if-mark-ne0.false) in
    let lacks = not_contained _ _ c.self.invariant.marked c.args.slot free in
    let long : c.len-place.result ≡ length c.self.inside.queue.items = omega (arith, c.len-place.ensures, c.self.inside.queue.ok.0) in
    rw (← c.self.view_is) (record {
      taken = Added lacks (λ i. record { bound = length-set c.self.inside.marks.items c.args.slot.at (c.len-place.result + 1) i; walked = c.push_reserved.ensures.items i });
      place = rw c.push_reserved.ensures.items (last_there c.self.inside.queue.items c.args.slot c.len-place.result long);
    })

pub returns-then-mark-ne0 : goal.returns-then-mark-ne0
returns-then-mark-ne0 c =
    let within : c.args.slot.at < length c.self.inside.marks.items = omega (arith, ap (λ r. r.bound) c.self.view_is, c.requires) in
    let mark = get_or_default c.self.inside.marks.items c.args.slot.at 0 c.index_mut-mark.result.now within ∙ sym c.index_mut-mark.ensures.value in
    let there = has_mark _ _ c.self.invariant.marked c.args.slot (λ e. c.if-mark-ne0.true (sym mark ∙ e)) in
    rw (← c.self.view_is) (record {
      taken = Known there (λ i. record { bound = length-set c.self.inside.marks.items c.args.slot.at c.index_mut-mark.result.now i; walked = c.self.inside.queue.items });
      place = mark_tells _ _ c.self.invariant.marked c.args.slot c.index_mut-mark.result.now mark c.if-mark-ne0.true;
    })
