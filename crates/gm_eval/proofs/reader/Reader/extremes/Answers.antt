use Rattle.std.proofs.Common.{◌≤◌, length, List, ap, ◌∙◌, sym, subst, arith}
use Rattle.gm_arena.specs.declared.slot.Slot.{Slot}
use Rattle.std.specs.Int.{int_max, int_min}
use Rattle.std.specs.List.{fold}
use Rattle.gm_model.specs.declared.value.Kind.TheVariants as kinds
use Rattle.gm_eval.specs.inner.Sums.{first_at, parts_at}
use Rattle.gm_walk.specs.inner.Lent.{slots_of}
use Rattle.gm_walk.specs.inner.Walks.{AreLive}
use Rattle.gm_eval.proofs.Collected.{least_found, greatest_found, some_slot, within}
use Rattle.gm_eval.proofs.Ready.{count_ready, kinds_at, number_of_embed}
use Rattle.gm_eval.proofs.reader.Reader.extremes.Goals as goal

pub orbit-walk-requires-clause-ready : goal.orbit-walk-requires-clause-ready
orbit-walk-requires-clause-ready g c =
    let ready = c.requires.ready in
    count_ready c.args.self.now _ ready c.args.mask c.args.term.now ready.typed.has_kind.in_range.0 ready.typed.has_kind.in_range.1

pub extremes-requires : goal.extremes-requires
extremes-requires g c =
    let same = sym c.slots.ensures.value in
    let orbit = c.orbit-walk.ensures.orbit in
    record {
      some = subst (λ (slots : List Slot). 1 ≤ length slots) same (some_slot c.args.self.now c.args.mask c.args.term.now (slots_of c.orbit-walk.result) orbit);
      live = subst (AreLive c.args.self.now.arena.now) same orbit.live;
      embed = c.requires.ready.typed.has_kind.in_range.2;
    }

pub returns-clause-least : goal.returns-clause-least
returns-clause-least g c =
    let reader = c.args.self.now in
    let m = reader.arena.now in
    let e = c.args.embed in
    let ready = c.requires.ready in
    let embed = number_of_embed reader c.args.mask c.args.term.now e ready in
    let slots = slots_of c.orbit-walk.result in
    let orbit = c.orbit-walk.ensures.orbit in
    let typed = kinds_at reader ready.here e embed.0 kinds.Int embed.1 embed.2 slots orbit.live in
    least_found reader c.args.mask c.args.term.now slots orbit e typed c.extremes.result.0 (c.extremes.ensures.least ∙ ap (λ (xs : List Slot). fold int_min (first_at m e xs) (parts_at m e 0 xs)) c.slots.ensures.value)

pub returns-clause-greatest : goal.returns-clause-greatest
returns-clause-greatest g c =
    let reader = c.args.self.now in
    let m = reader.arena.now in
    let e = c.args.embed in
    let ready = c.requires.ready in
    let embed = number_of_embed reader c.args.mask c.args.term.now e ready in
    let slots = slots_of c.orbit-walk.result in
    let orbit = c.orbit-walk.ensures.orbit in
    let typed = kinds_at reader ready.here e embed.0 kinds.Int embed.1 embed.2 slots orbit.live in
    greatest_found reader c.args.mask c.args.term.now slots orbit e typed c.extremes.result.1 (c.extremes.ensures.greatest ∙ ap (λ (xs : List Slot). fold int_max (first_at m e xs) (parts_at m e 0 xs)) c.slots.ensures.value)

pub returns-clause-cost : goal.returns-clause-cost
returns-clause-cost g c =
    let same = ap (λ (slots : List Slot). length slots) c.slots.ensures.value in
    within c.args.self.now c.args.mask c.args.term.now (slots_of c.orbit-walk.result) c.orbit-walk.ensures.orbit _ _ (omega (arith, c.orbit-walk.ensures.cost, c.extremes.ensures.cost, same))
