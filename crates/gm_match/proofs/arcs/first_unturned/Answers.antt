use borrow.Author.Count.{below_more, below_none}
use Rattle.std.proofs.Common.{arith}
use Rattle.std.proofs.Math.Nat.{le_refl, lt_of_lt_of_le}
use Rattle.gm_arena.specs.inner.ArenaMap.{alpha}
use Rattle.gm_model.specs.declared.step.Step.TheVariants.{Imp}
use Rattle.gm_model.specs.Matches.{IsStepMet}
use Rattle.gm_plan.specs.inner.InArena.{placement_in}
use Rattle.gm_match.proofs.Leading.{turned, unturned}
use Rattle.gm_match.proofs.Stepping.{slot_live}
use Rattle.gm_match.proofs.arcs.first_unturned.Goals as goal

pub loop-position-init : goal.loop-position-init
loop-position-init g c = record { met = below_none (λ p. IsStepMet (alpha c.args.arena.now) (placement_in c.args.arena.now c.args.found.now) c.args.node p c.args.label (Imp c.args.place)); cost = omega arith; least = le_refl _ }

pub slot-from-requires-clause-node : goal.slot-from-requires-clause-node
slot-from-requires-clause-node g c = c.requires.node

pub slot-from-requires-clause-position : goal.slot-from-requires-clause-position
slot-from-requires-clause-position g c = lt_of_lt_of_le c.loop-position-test.true c.requires.end

pub turn-requires-clause-position : goal.turn-requires-clause-position
turn-requires-clause-position g c = lt_of_lt_of_le c.loop-position-test.true c.requires.end

pub turn-requires-clause-place : goal.turn-requires-clause-place
turn-requires-clause-place g c = c.requires.place

pub slot-to-requires-clause-node : goal.slot-to-requires-clause-node
slot-to-requires-clause-node g c = c.requires.node

pub slot-to-requires-clause-position : goal.slot-to-requires-clause-position
slot-to-requires-clause-position g c = c.turn.ensures.within

pub leads-requires-clause-lawful : goal.leads-requires-clause-lawful
leads-requires-clause-lawful g c = c.requires.lawful

pub leads-requires-clause-from : goal.leads-requires-clause-from
leads-requires-clause-from g c = slot_live c.args.arena.now c.args.found.now c.requires.live _ _ _ c.slot-from.ensures

pub leads-requires-clause-label : goal.leads-requires-clause-label
leads-requires-clause-label g c = c.requires.label

pub leads-requires-clause-to : goal.leads-requires-clause-to
leads-requires-clause-to g c =
    slot_live c.args.arena.now c.args.found.now c.requires.live _ _ _ c.slot-to.ensures

pub returns-then-not-leads-clause-first : goal.returns-then-not-leads-clause-first
returns-then-not-leads-clause-first g c =
    let m = c.args.arena.now in
    let found = c.args.found.now in
    record { within = c.loop-position-test.true; fails = unturned m found c.args.node c.loop-position.position c.args.label c.slot-from.result c.slot-to.result c.slot-from.ensures c.leads.result c.leads.ensures.leads c.if-not-leads.true c.args.place c.turn.result c.turn.ensures.value c.slot-to.ensures; before = c.loop-position.invariant.met }

pub returns-then-not-leads-clause-cost : goal.returns-then-not-leads-clause-cost
returns-then-not-leads-clause-cost g c = omega (arith, c.loop-position.invariant.cost, c.leads.ensures.cost, c.loop-position-test.true)

pub returns-then-not-leads-clause-least : goal.returns-then-not-leads-clause-least
returns-then-not-leads-clause-least g c =
    omega (arith, c.loop-position.invariant.least, c.leads.ensures.cost)

pub loop-position-preserved : goal.loop-position-preserved
loop-position-preserved g c =
    let m = c.args.arena.now in
    let found = c.args.found.now in
    let node = c.args.node in
    let label = c.args.label in
    let p = c.loop-position.position in
    let i = c.loop-position.invariant in
    record {
      met = below_more (λ q. IsStepMet (alpha m) (placement_in m found) node q label (Imp c.args.place)) p i.met (turned m found node p label c.slot-from.result c.slot-to.result c.slot-from.ensures c.args.place c.turn.result c.turn.ensures.value c.slot-to.ensures (c.leads.ensures.leads.0 c.if-not-leads.false));
      cost = omega (arith, i.cost, c.leads.ensures.cost);
      least = omega (arith, i.least, c.leads.ensures.cost);
    }

pub returns-clause-first : goal.returns-clause-first
returns-clause-first g c = λ p less. c.loop-position.invariant.met p (lt_of_lt_of_le less c.loop-position-test.false)

pub returns-clause-cost : goal.returns-clause-cost
returns-clause-cost g c = omega (arith, c.loop-position.invariant.cost, c.loop-position.auto.position-end)

pub returns-clause-least : goal.returns-clause-least
returns-clause-least g c = c.loop-position.invariant.least
