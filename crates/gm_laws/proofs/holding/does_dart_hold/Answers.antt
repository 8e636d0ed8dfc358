use Rattle.std.proofs.Common.{◌+◌, ◌≤◌, arith, below_more}
use Rattle.std.proofs.Math.Nat.{mul-le-mul_right}
use Rattle.std.proofs.lemmas.Bool.{and_parts}
use Rattle.gm_arena.specs.inner.ArenaMap.{name_at}
use Rattle.gm_laws.specs.inner.Holding.{Holds}
use Rattle.gm_laws.proofs.holding.does_dart_hold.Goals as goal

pub does_label_hold-hold-requires-clause-label : goal.does_label_hold-hold-requires-clause-label
does_label_hold-hold-requires-clause-label g c = omega (arith, c.loop-label-test.true, c.requires.labels)

pub loop-label-preserved : goal.loop-label-preserved
loop-label-preserved g c =
    let m = c.args.arena.now in
    let i = c.loop-label.invariant in
    record {
      holds = λ told. let both = and_parts _ _ told in below_more (Holds m c.args.slot.at (name_at m c.args.slot.at)) c.loop-label.label (i.holds both.0) (c.does_label_hold-hold.ensures.holds both.1);
      cost = omega (arith, i.cost, c.does_label_hold-hold.ensures.cost);
      least = omega (arith, i.least, c.does_label_hold-hold.ensures.least);
    }

pub returns-clause-holds : goal.returns-clause-holds
returns-clause-holds g c = λ told label within. c.loop-label.invariant.holds told label (omega (arith, within, c.loop-label-test.false, c.requires.labels))

pub returns-clause-cost : goal.returns-clause-cost
returns-clause-cost g c =
    let m = c.args.arena.now in
    let few : c.loop-label.label ≤ m.schema.dim + 1 = omega (arith, c.loop-label.auto.label-end, c.requires.labels) in
    omega (arith, c.loop-label.invariant.cost, mul-le-mul_right (m.schema.dim + 1) few)
