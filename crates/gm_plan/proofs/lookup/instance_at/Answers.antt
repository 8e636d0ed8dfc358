use Rattle.std.proofs.Common.{◌≢◌, ℕ, ◌+◌, ◌*◌, List, length, get_or, ap, ◌∙◌, arith}
use Rattle.std.proofs.lemmas.Nat.{mul-add-lt}
use borrow.Author.Count.{below_more}
use Rattle.gm_arena.specs.declared.slot.Slot.{Slot}
use Rattle.gm_plan.proofs.lookup.instance_at.Goals as goal

pub loop-place-init : goal.loop-place-init
loop-place-init c = λ k less same. absurd (omega (arith, less))

pub unreachable-prove : goal.unreachable-prove
unreachable-prove c = omega (arith, c.positions.ensures.some, c.positions.ensures.value, c.if-prove.true)

pub loop-place-smaller : goal.loop-place-smaller
loop-place-smaller c = omega (arith, c.loop-place-test.true)

pub loop-place-preserved : goal.loop-place-preserved
loop-place-preserved c =
    let at : List Slot → ℕ → ℕ = λ slots k. (get_or slots k (record { at = 0 })).at in
    below_more (λ k. at c.args.found.now.slots k ≢ c.args.slot.at) c.loop-place.place c.loop-place.invariant
    (λ same. c.if-slots-place.false (ap (λ slots. at slots c.loop-place.place) c.slots-slots.ensures.slots ∙ same))

pub returns : goal.returns
returns c = λ x p within.
    let found = c.args.found.now in
    let below = mul-add-lt p found.nodes x found.positions within.1 within.0 in
    c.loop-place.invariant (p * found.nodes + x) (omega (arith, below, c.slots-slots.ensures.long, ap length c.slots-slots.ensures.slots, c.loop-place-test.false))
