use Rattle.std.proofs.Common.{ap, arith}
use Rattle.std.proofs.Math.Nat.{le_trans, le_refl}
use Rattle.gm_model.specs.declared.schema.Schema.{Schema}
use Rattle.gm_model.specs.Rules.{rule_of}
use Rattle.gm_match.proofs.Costs.{label_most}
use Rattle.gm_match.proofs.FirstBroken.{met_too, broken_too, all_labels, label_steps, none_yet}
use Rattle.gm_match.proofs.Stepping.{node_below}
use Rattle.gm_match.proofs.arcs.broken_position.Goals.{in-Some, in_default}
use Rattle.gm_match.proofs.arcs.broken_position.Goals as goal

pub first_broken-requires-clause-label : goal.first_broken-requires-clause-label
first_broken-requires-clause-label g c = label_most c.loop-label-test.true c.top-label-end.ensures.value (ap (λ (schema : Schema). schema.dim) c.schema.ensures)

pub loop-label-preserved : goal.loop-label-preserved
loop-label-preserved g c =
    let i = c.loop-label.invariant in
    let cost = label_steps c.loop-label.label c.args.found.now.positions c.loop-label.end _ _ _ i.so_far.within i.cost c.first_broken.ensures.cost in
    let least = le_trans i.least c.first_broken.ensures.least in
    elim c.match-first_broken.branch [
      | in-Some w ↦ record { so_far = rw (w.first-is, w.end-is) (broken_too c.args.arena.now (rule_of c.args.plan.now.table) c.args.found.now c.args.node c.loop-label.label c.loop-label.end c.loop-label.first i.so_far _ w.in-Some.ensures.first); cost = cost; least = least }
      | in_default w ↦ record { so_far = rw (w.first-is, w.end-is) (met_too c.args.arena.now (rule_of c.args.plan.now.table) c.args.found.now c.args.node c.loop-label.label c.loop-label.end c.loop-label.first i.so_far w.in_default.ensures.first); cost = cost; least = least }
    ]

pub returns-clause-first : goal.returns-clause-first
returns-clause-first g c = all_labels c.args.arena.now (rule_of c.args.plan.now.table) c.args.found.now c.args.node c.loop-label.label c.loop-label.end c.loop-label.first (omega (arith, c.loop-label-test.false, c.loop-label.auto.label-end, c.top-label-end.ensures.value, ap (λ (schema : Schema). schema.dim) c.schema.ensures)) c.loop-label.invariant.so_far

pub tested_step-step-requires-clause-node : goal.tested_step-step-requires-clause-node
tested_step-step-requires-clause-node g c = node_below c.args.arena.now c.args.plan.now c.requires.matchable c.args.found.now c.requires.candidate.1.laid _ c.requires.node

pub loop-label-init : goal.loop-label-init
loop-label-init g c = record { so_far = none_yet c.args.arena.now (rule_of c.args.plan.now.table) c.args.found.now c.args.node c.positions-end.result c.positions-end.ensures.value; cost = omega arith; least = le_refl _ }

pub first_broken-requires-clause-matchable : goal.first_broken-requires-clause-matchable
first_broken-requires-clause-matchable g c = c.requires.matchable

pub first_broken-requires-clause-candidate : goal.first_broken-requires-clause-candidate
first_broken-requires-clause-candidate g c = c.requires.candidate

pub first_broken-requires-clause-node : goal.first_broken-requires-clause-node
first_broken-requires-clause-node g c = c.requires.node

pub first_broken-requires-clause-forced : goal.first_broken-requires-clause-forced
first_broken-requires-clause-forced g c = c.tested_step-step.ensures.forced

pub first_broken-requires-clause-kept : goal.first_broken-requires-clause-kept
first_broken-requires-clause-kept g c = c.tested_step-step.ensures.kept

pub first_broken-requires-clause-end : goal.first_broken-requires-clause-end
first_broken-requires-clause-end g c = c.loop-label.invariant.so_far.within

pub returns-clause-least : goal.returns-clause-least
returns-clause-least g c = c.loop-label.invariant.least
