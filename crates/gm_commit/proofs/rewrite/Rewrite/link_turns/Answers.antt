use Rattle.std.proofs.Common.{◌≡◌, ℕ, ◌<◌, ◌≤◌, List, length, slice_index_or, sym, ap, ◌∙◌, subst, arith}
use borrow.Author.Count.{falls}
use Rattle.gm_model.specs.declared.step.Step.TheVariants.{Imp}
use Rattle.gm_arena.specs.declared.slot.Slot.{Slot}
use Rattle.gm_plan.specs.inner.Placed.{turn_at}
use Rattle.gm_plan.specs.inner.Searches.{row_step}
use Rattle.gm_commit.specs.inner.InstanceEdits.{RewriteOf, RewriteRows, told_by, end_of, arc_between, made_in}
use Rattle.gm_commit.specs.inner.WrittenMap.{slot_of}
use Rattle.gm_commit.proofs.on_commit.WrittenSoFar.{none_written, one_written, still_writable}
use Rattle.gm_commit.proofs.rewrite.Rewrite.link_turns.Goals as goal

pub loop-position-init : goal.loop-position-init
loop-position-init g c = none_written c.args.arena.now (made_in (told_by c.args.self.now) c.args.slots.now) c.args.steps.now

pub turn-turned-requires-clause-place : goal.turn-turned-requires-clause-place
turn-turned-requires-clause-place g c =
    c.self.invariant.places c.args.node c.args.label c.args.place (subst (λ (r : RewriteRows). c.args.node < length r.made) (sym c.self.view_is) c.requires.node) (subst (λ (r : RewriteRows). c.args.label ≤ r.dim) (sym c.self.view_is) c.requires.label) (subst (λ (r : RewriteRows). row_step r.made c.args.node c.args.label ≡ Imp c.args.place) (sym c.self.view_is) (sym c.requires.step))

pub set_alpha-requires-clause-live : goal.set_alpha-requires-clause-live
set_alpha-requires-clause-live g c = rw (c.slots_of-own.ensures.slots c.loop-position.position (omega (arith, c.loop-position-test.true, c.positions-position-end.ensures))) (still_writable c.args.arena.now (made_in (told_by c.args.self.now) c.args.slots.now) c.args.steps.now _ c.loop-position.arena c.loop-position.steps c.loop-position.invariant _ (c.requires.arcs c.loop-position.position (omega (arith, c.loop-position-test.true, c.positions-position-end.ensures)))).from.1

pub set_alpha-requires-clause-label : goal.set_alpha-requires-clause-label
set_alpha-requires-clause-label g c = (still_writable c.args.arena.now (made_in (told_by c.args.self.now) c.args.slots.now) c.args.steps.now _ c.loop-position.arena c.loop-position.steps c.loop-position.invariant _ (c.requires.arcs c.loop-position.position (omega (arith, c.loop-position-test.true, c.positions-position-end.ensures)))).label

-- where the turned position's slot stands
turned_slot : (made own : List Slot) (rewrite : RewriteOf) (x positions q turned : ℕ) → ((p : ℕ) → p < positions → slice_index_or own p (record { at = 0 }) ≡ slot_of made (end_of rewrite x p)) → q < positions → q ≡ turned → slice_index_or own q (record { at = 0 }) ≡ slot_of made (end_of rewrite x turned)
turned_slot made own rewrite x positions q turned slots within is = slots q within ∙ ap (λ p. slot_of made (end_of rewrite x p)) is

pub set_alpha-requires-clause-to_live : goal.set_alpha-requires-clause-to_live
set_alpha-requires-clause-to_live g c =
    let turned = c.turn-turned.ensures.value ∙ ap (λ (r : RewriteRows). turn_at r.placed c.loop-position.position c.args.place) c.self.view_is in
    let within : c.turn-turned.result < c.args.self.now.placed.positions = rw (← c.self.view_is) c.turn-turned.ensures.within in
    rw (turned_slot (made_in (told_by c.args.self.now) c.args.slots.now) c.slots_of-own.result.now (told_by c.args.self.now) c.args.node c.args.self.now.placed.positions c.turn-turned.result _ c.slots_of-own.ensures.slots within turned)
    (still_writable c.args.arena.now (made_in (told_by c.args.self.now) c.args.slots.now) c.args.steps.now _ c.loop-position.arena c.loop-position.steps c.loop-position.invariant _ (c.requires.arcs c.loop-position.position (omega (arith, c.loop-position-test.true, c.positions-position-end.ensures)))).to.1

pub loop-position-preserved : goal.loop-position-preserved
loop-position-preserved g c =
    let here : c.loop-position.position < c.args.self.now.placed.positions = omega (arith, c.loop-position-test.true, c.positions-position-end.ensures) in
    let turned = c.turn-turned.ensures.value ∙ ap (λ (r : RewriteRows). turn_at r.placed c.loop-position.position c.args.place) c.self.view_is in
    let within : c.turn-turned.result < c.args.self.now.placed.positions = rw (← c.self.view_is) c.turn-turned.ensures.within in
    one_written c.args.arena.now (made_in (told_by c.args.self.now) c.args.slots.now) c.args.steps.now (λ p. arc_between (told_by c.args.self.now) c.args.node p c.args.label (c.args.node, turn_at c.args.self.now.placed p c.args.place)) c.loop-position.position c.loop-position.arena c.set_alpha.new.self c.loop-position.steps c.set_alpha.new.steps
    (slice_index_or c.slots_of-own.result.now c.loop-position.position (record { at = 0 })) (slice_index_or c.slots_of-own.result.now c.turn-turned.result (record { at = 0 }))
    c.loop-position.invariant (c.slots_of-own.ensures.slots c.loop-position.position here)
    (turned_slot (made_in (told_by c.args.self.now) c.args.slots.now) c.slots_of-own.result.now (told_by c.args.self.now) c.args.node c.args.self.now.placed.positions c.turn-turned.result _ c.slots_of-own.ensures.slots within turned) c.set_alpha.ensures.map c.set_alpha.ensures.cost

pub returns : goal.returns
returns g c =
    let end : c.loop-position.position ≡ c.args.self.now.placed.positions = omega (arith, c.loop-position-test.false, c.loop-position.auto.position-end, c.positions-position-end.ensures) in
    let written = rw end at c.loop-position.invariant in
    record { map = written.map; cost = written.cost }

pub loop-position-smaller : goal.loop-position-smaller
loop-position-smaller g c = falls _ _ c.loop-position-test.true
