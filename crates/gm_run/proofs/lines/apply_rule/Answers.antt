use Rattle.std.proofs.Common.{refl}
use Rattle.gm_model.specs.Statements.{line_of}
use Rattle.gm_run.specs.inner.Standing.{MayGoBack, Remembers}
use Rattle.gm_arena.specs.inner.ArenaAsMap.{as_map}
use Rattle.gm_run.proofs.Advancing.{hooks_fit, params_fit, plan_for, line_done, line_refused, line_budget_of}
use Rattle.gm_run.proofs.Stepping.{entries_refused, history_refused}
use Rattle.gm_run.proofs.lines.apply_rule.Goals as goal

pub apply-requires-clause-schema : goal.apply-requires-clause-schema
apply-requires-clause-schema g c = plan_for c.args.plans.now (line_of c.args.line) c.index-plans-line.result c.requires.good c.index-plans-line.is c.args.arena.now.schema c.requires.plans

pub apply-requires-clause-params : goal.apply-requires-clause-params
apply-requires-clause-params g c = params_fit c.args.plans.now (line_of c.args.line) c.index-plans-line.result c.requires.good c.index-plans-line.is c.args.line.params.now refl

pub apply-requires-clause-hooks : goal.apply-requires-clause-hooks
apply-requires-clause-hooks g c = hooks_fit c.args.plans.now (line_of c.args.line) c.index-plans-line.result c.requires.good c.index-plans-line.is c.args.line.hooks.now refl

pub returns-in-Ok-clause-line : goal.returns-in-Ok-clause-line
returns-in-Ok-clause-line g c =
    line_done c.args.plans.now c.args.arena.now c.apply.new.arena (line_of c.args.line) c.index-plans-line.result c.requires.good c.index-plans-line.is c.args.steps.now c.apply.new.steps c.in-Ok.ensures.most c.in-Ok.applied c.in-Ok.ensures.outcome c.in-Ok.ensures.least

pub returns-in-Ok-clause-entries : goal.returns-in-Ok-clause-entries
returns-in-Ok-clause-entries g c told entries most stands costs budget =
    c.in-Ok.ensures.entries told entries most stands costs (line_budget_of c.args.plans.now c.args.arena.now (line_of c.args.line) c.index-plans-line.result c.requires.good c.index-plans-line.is most budget)

pub returns-in-Err-clause-line : goal.returns-in-Err-clause-line
returns-in-Err-clause-line g c =
    line_refused c.args.plans.now c.args.arena.now c.apply.new.arena (line_of c.args.line) c.index-plans-line.result c.requires.good c.index-plans-line.is c.args.steps.now c.apply.new.steps c.in-Err.ensures.most c.in-Err.refusal c.refused.result c.refused.ensures c.in-Err.ensures.outcome c.in-Err.ensures.rises

pub returns-in-Err-clause-entries : goal.returns-in-Err-clause-entries
returns-in-Err-clause-entries g c told entries most remembers costs budget =
    entries_refused c.refused.result c.in-Err.refusal (MayGoBack c.apply.new.self c.apply.new.arena.schema.dim) told.group most entries c.refused.ensures
    (c.in-Err.ensures.entries told entries most remembers costs (line_budget_of c.args.plans.now c.args.arena.now (line_of c.args.line) c.index-plans-line.result c.requires.good c.index-plans-line.is most budget))

pub apply-requires-clause-sound : goal.apply-requires-clause-sound
apply-requires-clause-sound g c = c.requires.sound

pub apply-requires-clause-stands : goal.apply-requires-clause-stands
apply-requires-clause-stands g c = c.requires.stands

pub returns-in-Ok-clause-history : goal.returns-in-Ok-clause-history
returns-in-Ok-clause-history g c = c.in-Ok.ensures.history

pub returns-in-Ok-clause-keeps : goal.returns-in-Ok-clause-keeps
returns-in-Ok-clause-keeps g c = c.in-Ok.ensures.keeps

pub returns-in-Ok-clause-group : goal.returns-in-Ok-clause-group
returns-in-Ok-clause-group g c = c.in-Ok.ensures.group

pub returns-in-Ok-clause-sound : goal.returns-in-Ok-clause-sound
returns-in-Ok-clause-sound g c = c.in-Ok.ensures.sound

pub returns-in-Ok-clause-schema : goal.returns-in-Ok-clause-schema
returns-in-Ok-clause-schema g c = c.in-Ok.ensures.schema

pub returns-in-Ok-clause-spare_stays : goal.returns-in-Ok-clause-spare_stays
returns-in-Ok-clause-spare_stays g c = c.in-Ok.ensures.spare_stays

pub returns-in-Ok-clause-reserved_stays : goal.returns-in-Ok-clause-reserved_stays
returns-in-Ok-clause-reserved_stays g c = c.in-Ok.ensures.reserved_stays

pub returns-in-Err-clause-history : goal.returns-in-Err-clause-history
returns-in-Err-clause-history g c told remembers = history_refused c.refused.result c.in-Err.refusal (as_map c.args.arena.now) told c.refused.ensures (Remembers c.apply.new.self c.apply.new.arena) (c.in-Err.ensures.history told remembers)

pub returns-in-Err-clause-keeps : goal.returns-in-Err-clause-keeps
returns-in-Err-clause-keeps g c = c.in-Err.ensures.keeps

pub returns-in-Err-clause-group : goal.returns-in-Err-clause-group
returns-in-Err-clause-group g c = c.in-Err.ensures.group

pub returns-in-Err-clause-sound : goal.returns-in-Err-clause-sound
returns-in-Err-clause-sound g c = c.in-Err.ensures.sound

pub returns-in-Err-clause-schema : goal.returns-in-Err-clause-schema
returns-in-Err-clause-schema g c = c.in-Err.ensures.schema

pub returns-in-Err-clause-spare_stays : goal.returns-in-Err-clause-spare_stays
returns-in-Err-clause-spare_stays g c = c.in-Err.ensures.spare_stays

pub returns-in-Err-clause-reserved_stays : goal.returns-in-Err-clause-reserved_stays
returns-in-Err-clause-reserved_stays g c = c.in-Err.ensures.reserved_stays
