use Rattle.std.proofs.Common.{refl, ap, ◌∙◌}
use Rattle.std.proofs.lemmas.Result.{err_from_is_err_and}
use Rattle.gm_arena.specs.inner.ArenaAsMap.{as_map}
use Rattle.gm_theory.specs.inner.Outcomes.{IsSoundOf}
use Rattle.gm_run.specs.declared.standing.Standing.{Standing}
use Rattle.gm_run.specs.inner.Progress.{rules_of}
use Rattle.gm_model.specs.Statements.{line_of}
use Rattle.gm_run.specs.inner.Standing.{group_behind}
use Rattle.gm_run.proofs.Advancing.{named}
use Rattle.gm_run.proofs.Stepping.{applies, budget_of, skipped, unapplied}
use Rattle.std.proofs.Math.Nat.{le_refl}
use Rattle.gm_run.proofs.lines.run_line.Goals as goal

pub accepted-requires-clause-named : goal.accepted-requires-clause-named
accepted-requires-clause-named g c = named c.args.plans.now (line_of c.args.line) c.requires.good

pub returns-then-is_broken-clause-step : goal.returns-then-is_broken-clause-step
returns-then-is_broken-clause-step g c state entries stands =
    skipped (rules_of c.args.plans.now) (line_of c.args.line) c.args.arena.now c.args.arena.now c.args.standing.now c.args.standing.now state entries c.args.steps.now c.args.steps.now stands (c.is_broken.ensures.broken c.if-is_broken.true)

pub returns-in_err-outcome-clause-step : goal.returns-in_err-outcome-clause-step
returns-in_err-outcome-clause-step g c state entries stands =
    let p = err_from_is_err_and c.from_residual.result c.from_residual.ensures.1 in
    let rules = rules_of c.args.plans.now in
    let line = (line_of c.args.line) in
    let sound : IsSoundOf c.args.arena.now.schema (as_map c.args.arena.now) = record { schema_is = refl; sound = c.requires.sound } in
    rw p.1 (unapplied rules line c.args.arena.now c.apply_rule.new.arena c.args.standing.now c.apply_rule.new.standing state entries c.args.steps.now c.apply_rule.new.steps stands (c.is_broken.ensures.whole c.if-is_broken.false)
    (budget_of rules line c.args.arena.now c.accepted.ensures.rule c.requires.sound c.requires.good) sound c.accepted.ensures.rule
    c.in_err-outcome.ensures.line)

pub returns-clause-step : goal.returns-clause-step
returns-clause-step g c state entries stands =
    let rules = rules_of c.args.plans.now in
    let line = (line_of c.args.line) in
    let budget = budget_of rules line c.args.arena.now c.accepted.ensures.rule c.requires.sound c.requires.good in
    let new : Standing = record { keeps = c.apply_rule.new.standing.keeps; history = c.apply_rule.new.standing.history; group = c.behind-standing.result; scratch = c.apply_rule.new.standing.scratch } in
    applies rules line c.args.arena.now c.apply_rule.new.arena c.args.standing.now new state entries c.args.steps.now c.apply_rule.new.steps stands (c.is_broken.ensures.whole c.if-is_broken.false) budget c.in_ok-outcome.outcome
    c.in_ok-outcome.ensures.line
    (c.in_ok-outcome.ensures.history state.history stands.history)
    (c.in_ok-outcome.ensures.entries state.history entries budget.0 stands.history stands.costs budget.1)
    (c.behind-standing.ensures ∙ ap (group_behind c.in_ok-outcome.outcome) c.in_ok-outcome.ensures.group)

pub apply_rule-requires-clause-sound : goal.apply_rule-requires-clause-sound
apply_rule-requires-clause-sound g c = c.requires.sound

pub apply_rule-requires-clause-plans : goal.apply_rule-requires-clause-plans
apply_rule-requires-clause-plans g c = c.requires.plans

pub apply_rule-requires-clause-good : goal.apply_rule-requires-clause-good
apply_rule-requires-clause-good g c = c.requires.good

pub accepted-requires-clause-plans : goal.accepted-requires-clause-plans
accepted-requires-clause-plans g c = c.requires.plans

pub apply_rule-requires-clause-stands : goal.apply_rule-requires-clause-stands
apply_rule-requires-clause-stands g c = (c.requires.stands.0.history, c.requires.stands.2.history)

pub returns-then-is_broken-clause-rule : goal.returns-then-is_broken-clause-rule
returns-then-is_broken-clause-rule g c = c.accepted.ensures.rule

pub returns-then-is_broken-clause-keeps : goal.returns-then-is_broken-clause-keeps
returns-then-is_broken-clause-keeps g c = refl

pub returns-then-is_broken-clause-sound : goal.returns-then-is_broken-clause-sound
returns-then-is_broken-clause-sound g c = c.requires.sound

pub returns-then-is_broken-clause-schema : goal.returns-then-is_broken-clause-schema
returns-then-is_broken-clause-schema g c = refl

pub returns-then-is_broken-clause-spare_stays : goal.returns-then-is_broken-clause-spare_stays
returns-then-is_broken-clause-spare_stays g c = le_refl _

pub returns-then-is_broken-clause-reserved_stays : goal.returns-then-is_broken-clause-reserved_stays
returns-then-is_broken-clause-reserved_stays g c = le_refl _

pub returns-in_err-outcome-clause-rule : goal.returns-in_err-outcome-clause-rule
returns-in_err-outcome-clause-rule g c = c.accepted.ensures.rule

pub returns-in_err-outcome-clause-keeps : goal.returns-in_err-outcome-clause-keeps
returns-in_err-outcome-clause-keeps g c = c.in_err-outcome.ensures.keeps

pub returns-in_err-outcome-clause-sound : goal.returns-in_err-outcome-clause-sound
returns-in_err-outcome-clause-sound g c = c.in_err-outcome.ensures.sound

pub returns-in_err-outcome-clause-schema : goal.returns-in_err-outcome-clause-schema
returns-in_err-outcome-clause-schema g c = c.in_err-outcome.ensures.schema

pub returns-in_err-outcome-clause-spare_stays : goal.returns-in_err-outcome-clause-spare_stays
returns-in_err-outcome-clause-spare_stays g c = c.in_err-outcome.ensures.spare_stays

pub returns-in_err-outcome-clause-reserved_stays : goal.returns-in_err-outcome-clause-reserved_stays
returns-in_err-outcome-clause-reserved_stays g c = c.in_err-outcome.ensures.reserved_stays

pub returns-clause-rule : goal.returns-clause-rule
returns-clause-rule g c = c.accepted.ensures.rule

pub returns-clause-keeps : goal.returns-clause-keeps
returns-clause-keeps g c = c.in_ok-outcome.ensures.keeps

pub returns-clause-sound : goal.returns-clause-sound
returns-clause-sound g c = c.in_ok-outcome.ensures.sound

pub returns-clause-schema : goal.returns-clause-schema
returns-clause-schema g c = c.in_ok-outcome.ensures.schema

pub returns-clause-spare_stays : goal.returns-clause-spare_stays
returns-clause-spare_stays g c = c.in_ok-outcome.ensures.spare_stays

pub returns-clause-reserved_stays : goal.returns-clause-reserved_stays
returns-clause-reserved_stays g c = c.in_ok-outcome.ensures.reserved_stays
