use Rattle.std.proofs.Common.{◌+◌, below_more, arith}
use Rattle.std.proofs.Math.Nat.{le_refl, le_trans, le-add_right}
use Rattle.gm_model.specs.declared.rule.Side.TheVariants.{Left}
use Rattle.gm_model.specs.Rules.{rule_of}
use Rattle.gm_model.specs.Structure.{IsFirstBad}
use Rattle.gm_theory.proofs.RuleSteps.{word_below}
use Rattle.gm_match.specs.inner.Firsts.{AreMetBy}
use Rattle.gm_match.specs.inner.Firsts.IsFirstStep.{NotMet}
use Rattle.gm_match.proofs.Costs.{nothing_below, part_cost, whole_cost}
use Rattle.gm_match.proofs.ForcedMet.{all_met}
use Rattle.gm_match.proofs.Stepping.{same_count}
use Rattle.gm_match.proofs.arcs.meet_in_order.Goals as goal

pub loop-node-preserved-then-not-needs_test : goal.loop-node-preserved-then-not-needs_test
loop-node-preserved-then-not-needs_test g c =
    let met = all_met c.args.arena.now c.args.plan.now c.requires.matchable c.args.found.now c.requires.candidate c.loop-node.node (c.needs_test.ensures c.if-not-needs_test.true) in
    record { met = below_more _ _ c.loop-node.invariant.met met; cost = omega (arith, c.loop-node.invariant.cost); least = c.loop-node.invariant.least }

pub broken_position-requires-clause-node : goal.broken_position-requires-clause-node
broken_position-requires-clause-node g c =
    let same = same_count (rule_of c.args.plan.now.table) _ _ c.left_nodes-node-end.ensures.left c.requires.candidate.1.laid.nodes in
    omega (arith, same)

pub returns-in-Some-clause-steps : goal.returns-in-Some-clause-steps
returns-in-Some-clause-steps g c =
    let same = same_count (rule_of c.args.plan.now.table) _ _ c.left_nodes-node-end.ensures.left c.requires.candidate.1.laid.nodes in
    let first = c.in-Some.ensures.first in
    let bad : IsFirstBad (AreMetBy c.args.arena.now (rule_of c.args.plan.now.table) c.args.found.now) c.args.found.now.nodes c.loop-node.node =
    record { within = omega (arith, same); fails = λ met. first.position.fails (met _ first.position.within); before = c.loop-node.invariant.met } in
    NotMet _ _ _ bad first

pub loop-node-preserved : goal.loop-node-preserved
loop-node-preserved g c = record { met = below_more _ _ c.loop-node.invariant.met c.in_default.ensures.first; cost = omega (arith, c.loop-node.invariant.cost, c.broken_position.ensures.cost); least = omega (arith, c.loop-node.invariant.least, c.broken_position.ensures.least) }

pub returns-clause-steps : goal.returns-clause-steps
returns-clause-steps g c =
    let same = same_count (rule_of c.args.plan.now.table) _ _ c.left_nodes-node-end.ensures.left c.requires.candidate.1.laid.nodes in
    λ x h. c.loop-node.invariant.met x (omega (arith, same))

pub loop-node-init : goal.loop-node-init
loop-node-init g c = record { met = λ x h. absurd (nothing_below h); cost = le-add_right _ _; least = le_refl _ }

pub needs_test-requires : goal.needs_test-requires
needs_test-requires g c = word_below (rule_of c.args.plan.now.table) Left _ ((c.left_nodes-node-end.ensures.left c.loop-node.node).1 c.loop-node-test.true)

pub broken_position-requires-clause-matchable : goal.broken_position-requires-clause-matchable
broken_position-requires-clause-matchable g c = c.requires.matchable

pub broken_position-requires-clause-candidate : goal.broken_position-requires-clause-candidate
broken_position-requires-clause-candidate g c = c.requires.candidate

pub returns-in-Some-clause-cost : goal.returns-in-Some-clause-cost
returns-in-Some-clause-cost g c = part_cost (c.args.arena.now.schema.dim + 1) c.args.found.now.positions _ _ _ _ _ _ c.loop-node-test.true c.left_nodes-node-end.ensures.most c.loop-node.invariant.cost c.broken_position.ensures.cost

pub returns-in-Some-clause-least : goal.returns-in-Some-clause-least
returns-in-Some-clause-least g c = le_trans c.loop-node.invariant.least c.broken_position.ensures.least

pub returns-clause-cost : goal.returns-clause-cost
returns-clause-cost g c = whole_cost (c.args.arena.now.schema.dim + 1) c.args.found.now.positions _ _ _ _ _ c.loop-node.auto.node-end c.left_nodes-node-end.ensures.most c.loop-node.invariant.cost

pub returns-clause-least : goal.returns-clause-least
returns-clause-least g c = c.loop-node.invariant.least
