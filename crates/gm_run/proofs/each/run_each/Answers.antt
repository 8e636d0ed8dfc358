use Rattle.std.proofs.Common.{refl, sym, subst, ◌∙◌}
use Rattle.std.proofs.lemmas.Result.{err_from_is_err_and}
use Rattle.gm_arena.specs.inner.ArenaAsMap.{as_map}
use Rattle.gm_arena.proofs.Keys.{darts_counted}
use Rattle.std.specs.List.{count_by}
use Rattle.gm_model.specs.Runs.{AreLeads, is_done_turn}
use Rattle.gm_run.specs.inner.Progress.{rules_of}
use Rattle.gm_run.specs.inner.Turns.{within_turns}
use Rattle.gm_run.proofs.EachSteps.{each_step, each_stopped, few_leads, few_turns, group_is, group_within, leads_stopped}
use Rattle.gm_run.proofs.Stepping.{outside_of}
use Rattle.std.proofs.Math.Nat.{le_refl}
use Rattle.gm_run.proofs.each.run_each.Goals as goal

pub begin_entry-requires : goal.begin_entry-requires
begin_entry-requires g c = record { stands = outside_of c.args.arena.now c.args.standing.now c.requires.stands c.requires.outside }

pub take_turns-requires-clause-few : goal.take_turns-requires-clause-few
take_turns-requires-clause-few g c =
    let few = few_leads (as_map c.args.arena.now) c.args.mask c.deref.result.now c.args.arena.now.count (subst (AreLeads (as_map c.args.arena.now) c.args.mask) (sym c.deref.ensures.value) c.in_ok-leads.ensures.leads) (darts_counted c.args.arena.now c.accepted.ensures.lawful) in
    few_turns c.deref.result.now c.args.arena.now.count c.args.arena.now.spare few c.accepted.ensures.lawful.few_darts

pub take_turns-requires-clause-stands : goal.take_turns-requires-clause-stands
take_turns-requires-clause-stands g c = let out = outside_of c.args.arena.now c.args.standing.now c.requires.stands c.requires.outside in (out.0, c.begin_entry.ensures.history out.0 out.1)

pub end_entry-requires : goal.end_entry-requires
end_entry-requires g c = record {
  stands =
      let from = as_map c.args.arena.now in
      let state = c.requires.stands.0 in
      let entries = c.requires.stands.1 in
      let stands = c.requires.stands.2 in
      let have = c.in_ok-counts.ensures.turns state.history entries (c.begin_entry.ensures.history state.history stands.history) (c.begin_entry.ensures.entries entries stands.costs) in
      let done = count_by is_done_turn have.turns in
      (within_turns from state.history done, group_within from done, have.stands, group_is from state.history done);
}

pub returns-in_err-leads-clause-step : goal.returns-in_err-leads-clause-step
returns-in_err-leads-clause-step g c state entries stands =
    let p = err_from_is_err_and c.from_residual.result c.from_residual.ensures.1 in
    rw p.1
    (leads_stopped c.args.arena.now.schema (rules_of c.args.plans.now) c.args.mask c.args.rule c.args.params.now c.requires.good c.args.arena.now c.accepted.ensures.lawful refl (record { schema_is = refl; sound = c.requires.sound }) c.args.standing.now state entries stands c.requires.outside
    c.args.steps.now c.leads.new.steps c.in_err-leads.ensures.cost)

pub returns-in_err-counts-clause-step : goal.returns-in_err-counts-clause-step
returns-in_err-counts-clause-step g c state entries stands =
    let p = err_from_is_err_and c.from_residual-in_err-counts.result c.from_residual-in_err-counts.ensures.1 in
    rw p.1
    (each_stopped c.args.arena.now.schema (rules_of c.args.plans.now) c.args.mask c.args.rule c.args.params.now c.requires.good c.args.arena.now c.accepted.ensures.lawful refl (record { schema_is = refl; sound = c.requires.sound }) c.args.standing.now state entries stands c.requires.outside
    c.deref.result.now (subst (AreLeads (as_map c.args.arena.now) c.args.mask) (sym c.deref.ensures.value) c.in_ok-leads.ensures.leads) c.args.steps.now c.leads.new.steps c.in_ok-leads.ensures.cost c.in_ok-leads.ensures.least c.accepted.ensures.rule
    (as_map c.take_turns.new.arena) c.take_turns.new.steps (c.in_err-counts.ensures.turns state.history entries (c.begin_entry.ensures.history state.history stands.history) (c.begin_entry.ensures.entries entries stands.costs)))

pub returns-clause-step : goal.returns-clause-step
returns-clause-step g c state entries stands =
    each_step c.args.arena.now.schema (rules_of c.args.plans.now) c.args.mask c.args.rule c.args.params.now c.requires.good c.args.arena.now c.accepted.ensures.lawful refl (record { schema_is = refl; sound = c.requires.sound }) c.args.standing.now state entries stands c.requires.outside
    c.deref.result.now (subst (AreLeads (as_map c.args.arena.now) c.args.mask) (sym c.deref.ensures.value) c.in_ok-leads.ensures.leads) c.args.steps.now c.leads.new.steps c.in_ok-leads.ensures.cost c.in_ok-leads.ensures.least
    c.in_ok-counts.counts c.take_turns.new.standing c.end_entry.new.self c.take_turns.new.arena c.take_turns.new.steps
    (c.in_ok-counts.ensures.turns state.history entries (c.begin_entry.ensures.history state.history stands.history) (c.begin_entry.ensures.entries entries stands.costs)) c.in_ok-counts.ensures.schema c.end_entry.ensures.history c.end_entry.ensures.entries (c.end_entry.ensures.group ∙ c.in_ok-counts.ensures.group ∙ c.begin_entry.ensures.group)

pub returns-in_err-leads-clause-rule : goal.returns-in_err-leads-clause-rule
returns-in_err-leads-clause-rule g c = c.accepted.ensures.rule

pub returns-in_err-leads-clause-sound : goal.returns-in_err-leads-clause-sound
returns-in_err-leads-clause-sound g c = c.requires.sound

pub returns-in_err-leads-clause-schema : goal.returns-in_err-leads-clause-schema
returns-in_err-leads-clause-schema g c = refl

pub returns-in_err-leads-clause-spare_stays : goal.returns-in_err-leads-clause-spare_stays
returns-in_err-leads-clause-spare_stays g c = le_refl _

pub returns-in_err-leads-clause-reserved_stays : goal.returns-in_err-leads-clause-reserved_stays
returns-in_err-leads-clause-reserved_stays g c = le_refl _

pub returns-in_err-counts-clause-rule : goal.returns-in_err-counts-clause-rule
returns-in_err-counts-clause-rule g c = c.accepted.ensures.rule

pub returns-in_err-counts-clause-sound : goal.returns-in_err-counts-clause-sound
returns-in_err-counts-clause-sound g c = c.in_err-counts.ensures.sound

pub returns-in_err-counts-clause-schema : goal.returns-in_err-counts-clause-schema
returns-in_err-counts-clause-schema g c = c.in_err-counts.ensures.schema

pub returns-in_err-counts-clause-spare_stays : goal.returns-in_err-counts-clause-spare_stays
returns-in_err-counts-clause-spare_stays g c = c.in_err-counts.ensures.spare_stays

pub returns-in_err-counts-clause-reserved_stays : goal.returns-in_err-counts-clause-reserved_stays
returns-in_err-counts-clause-reserved_stays g c = c.in_err-counts.ensures.reserved_stays

pub returns-clause-rule : goal.returns-clause-rule
returns-clause-rule g c = c.accepted.ensures.rule

pub returns-clause-sound : goal.returns-clause-sound
returns-clause-sound g c = c.in_ok-counts.ensures.sound

pub returns-clause-schema : goal.returns-clause-schema
returns-clause-schema g c = c.in_ok-counts.ensures.schema

pub returns-clause-spare_stays : goal.returns-clause-spare_stays
returns-clause-spare_stays g c = c.in_ok-counts.ensures.spare_stays

pub returns-clause-reserved_stays : goal.returns-clause-reserved_stays
returns-clause-reserved_stays g c = c.in_ok-counts.ensures.reserved_stays

pub returns-in_err-leads-clause-keeps : goal.returns-in_err-leads-clause-keeps
returns-in_err-leads-clause-keeps g c = refl

pub returns-in_err-counts-clause-keeps : goal.returns-in_err-counts-clause-keeps
returns-in_err-counts-clause-keeps g c = c.in_err-counts.ensures.keeps ∙ c.begin_entry.ensures.keeps

pub returns-clause-keeps : goal.returns-clause-keeps
returns-clause-keeps g c = c.end_entry.ensures.keeps ∙ c.in_ok-counts.ensures.keeps ∙ c.begin_entry.ensures.keeps

pub take_turns-requires-clause-sound : goal.take_turns-requires-clause-sound
take_turns-requires-clause-sound g c = c.requires.sound

pub take_turns-requires-clause-plans : goal.take_turns-requires-clause-plans
take_turns-requires-clause-plans g c = c.requires.plans

pub take_turns-requires-clause-rule : goal.take_turns-requires-clause-rule
take_turns-requires-clause-rule g c = c.accepted.ensures.rule

pub accepted-requires-clause-plans : goal.accepted-requires-clause-plans
accepted-requires-clause-plans g c = c.requires.plans
