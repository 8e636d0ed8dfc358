use Rattle.std.proofs.Common.{◌≡◌, ℕ, ◌+◌, ◌*◌, ◌≤◌, length, arith}
use Rattle.std.proofs.Math.Nat.{le_trans}
use Rattle.gm_model.specs.Rules.{rule_of}
use Rattle.gm_match.proofs.arcs.meet_steps.Goals as goal

-- both tests together cost no more than twice what each does at most
twice : (labels arcs start first last : ℕ) → first ≤ start + labels * arcs → last ≤ first + labels * arcs → last ≤ start + 2 * labels * arcs
twice labels arcs start first last one two = let both : 2 * labels * arcs ≡ labels * arcs + labels * arcs = omega arith in omega (arith, one, two, both)

pub returns-then-meets_all-clause-steps : goal.returns-then-meets_all-clause-steps
returns-then-meets_all-clause-steps g c = c.meets_all.ensures.met c.if-meets_all.true

pub meets_all-requires-clause-matchable : goal.meets_all-requires-clause-matchable
meets_all-requires-clause-matchable g c = c.requires.matchable

pub meets_all-requires-clause-candidate : goal.meets_all-requires-clause-candidate
meets_all-requires-clause-candidate g c = c.requires.candidate

pub meet_in_order-requires-clause-matchable : goal.meet_in_order-requires-clause-matchable
meet_in_order-requires-clause-matchable g c = c.requires.matchable

pub meet_in_order-requires-clause-candidate : goal.meet_in_order-requires-clause-candidate
meet_in_order-requires-clause-candidate g c = c.requires.candidate

pub returns-then-meets_all-clause-cost : goal.returns-then-meets_all-clause-cost
returns-then-meets_all-clause-cost g c =
    twice (c.args.arena.now.schema.dim + 1) (length (rule_of c.args.plan.now.table).nodes * c.args.found.now.positions) c.args.steps.now c.meets_all.new.steps c.meets_all.new.steps c.meets_all.ensures.cost (omega arith)

pub returns-then-meets_all-clause-least : goal.returns-then-meets_all-clause-least
returns-then-meets_all-clause-least g c = c.meets_all.ensures.least

pub returns-clause-steps : goal.returns-clause-steps
returns-clause-steps g c = c.meet_in_order.ensures.steps

pub returns-clause-cost : goal.returns-clause-cost
returns-clause-cost g c =
    twice (c.args.arena.now.schema.dim + 1) (length (rule_of c.args.plan.now.table).nodes * c.args.found.now.positions) c.args.steps.now c.meets_all.new.steps c.meet_in_order.new.steps c.meets_all.ensures.cost c.meet_in_order.ensures.cost

pub returns-clause-least : goal.returns-clause-least
returns-clause-least g c = le_trans c.meets_all.ensures.least c.meet_in_order.ensures.least
