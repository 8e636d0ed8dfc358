use Rattle.std.proofs.Common.{◌+◌, ◌*◌, length, get_or, subst, arith, below_more}
use Rattle.gm_laws.specs.inner.Darts.{Commutes, IsFirstPair}
use Rattle.gm_laws.proofs.CostLemmas.{all_each, more_each}
use Rattle.gm_laws.proofs.NameLemmas.{has_slot, name_of_slot, first_name, all_names}
use Rattle.gm_laws.proofs.FirstLemmas.{crossing}
use Rattle.gm_laws.proofs.commuting.first_not_commuting.Goals as goal

pub unwrap-slot-requires : goal.unwrap-slot-requires
unwrap-slot-requires g c = has_slot c.args.arena.now c.args.names.now c.requires.names c.loop-name.name-index 0 c.slot_of.result c.loop-name-test.true c.slot_of.ensures.slot

pub returns-in-Some-clause-breach : goal.returns-in-Some-clause-breach
returns-in-Some-clause-breach g c =
    let m = c.args.arena.now in
    let p = c.loop-name.name-index in
    let name = name_of_slot m (get_or c.args.names.now p 0) c.slot_of.result c.unwrap-slot.result c.slot_of.ensures.slot c.unwrap-slot.ensures in
    let pair = subst (λ d. IsFirstPair m d (c.in-Some.i, c.in-Some.j)) name c.in-Some.ensures.labels in
    crossing m _ _ _ c.requires.back (first_name m c.args.names.now c.requires.names (Commutes m) p c.loop-name-test.true c.loop-name.invariant.commute
    (λ all. pair.0.fails (all c.in-Some.i pair.0.one))) pair

pub returns-clause-breach : goal.returns-clause-breach
returns-clause-breach g c =
    let m = c.args.arena.now in
    λ d i j live apart within. all_names m c.args.names.now c.requires.names (Commutes m) (λ p h. c.loop-name.invariant.commute p (omega (arith, c.loop-name-test.false))) d live i (omega arith) j (apart, within)

pub loop-name-preserved : goal.loop-name-preserved
loop-name-preserved g c =
    let m = c.args.arena.now in
    let i = c.loop-name.invariant in
    let p = c.loop-name.name-index in
    let labels = m.schema.dim + 1 in
    let name = name_of_slot m (get_or c.args.names.now p 0) c.slot_of.result c.unwrap-slot.result c.slot_of.ensures.slot c.unwrap-slot.ensures in
    record {
      commute = below_more (λ p. Commutes m (get_or c.args.names.now p 0)) p i.commute (subst (Commutes m) name c.in_default.ensures.labels);
      cost = more_each c.args.steps.now c.loop-name.steps c.labels_not_commuting.new.steps (labels * (3 * labels + 1) + 1) p i.cost (omega (arith, c.slot_of.ensures.cost, c.in_default.ensures.cost));
      least = omega (arith, i.least, c.slot_of.ensures.cost, c.in_default.ensures.least);
    }

pub returns-in-Some-clause-cost : goal.returns-in-Some-clause-cost
returns-in-Some-clause-cost g c =
    let labels = c.args.arena.now.schema.dim + 1 in
    let each = labels * (3 * labels + 1) + 1 in
    let p = c.loop-name.name-index in
    all_each c.args.steps.now c.labels_not_commuting.new.steps each (p + 1) (length c.args.names.now)
    (more_each c.args.steps.now c.loop-name.steps c.labels_not_commuting.new.steps each p c.loop-name.invariant.cost (omega (arith, c.slot_of.ensures.cost, c.in-Some.ensures.cost)))
    (omega (arith, c.loop-name-test.true))
