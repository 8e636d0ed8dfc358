use Rattle.std.proofs.Common.{◌+◌, take, refl, sym, subst, ◌∙◌}
use Rattle.std.proofs.lemmas.Result.{err_from_is_err_and}
use Rattle.gm_model.specs.Histories.{begun_at}
use Rattle.gm_arena.specs.inner.ArenaAsMap.{as_map}
use Rattle.gm_run.specs.inner.Progress.{rules_of, ArePlansFor}
use Rattle.gm_run.specs.inner.Turns.{HaveTurns, told_by}
use Rattle.gm_run.proofs.EachSteps.{counted_sum, no_turns, stops_at, turns_all, turns_more}
use Rattle.std.proofs.Math.Nat.{le_refl, le_trans}
use Rattle.gm_run.proofs.each.take_turns.Goals as goal

pub take_turn-requires-clause-sound : goal.take_turn-requires-clause-sound
take_turn-requires-clause-sound g c = c.loop-lead.invariant.sound

pub take_turn-requires-clause-plans : goal.take_turn-requires-clause-plans
take_turn-requires-clause-plans g c = subst (λ schema. ArePlansFor schema c.args.plans.now) (sym c.loop-lead.invariant.schema) c.requires.plans

pub take_turn-requires-clause-good : goal.take_turn-requires-clause-good
take_turn-requires-clause-good g c = c.requires.good _

pub take_turn-requires-clause-stands : goal.take_turn-requires-clause-stands
take_turn-requires-clause-stands g c = c.loop-lead.invariant.stands

pub loop-lead-init : goal.loop-lead-init
loop-lead-init g c = record {
  sound = c.requires.sound;
  schema = refl;
  spare = le_refl _;
  reserved = le_refl _;
  keeps = refl;
  group = refl;
  sum = refl;
  stands = (begun_at (as_map c.args.arena.now) c.requires.stands.0, c.requires.stands.1);
  turns = λ told entries stands costs.
      no_turns c.args.arena.now.schema (rules_of c.args.plans.now) c.args.rule c.args.params.now c.requires.rule c.requires.good (as_map c.args.arena.now) told entries c.args.standing.now c.args.arena.now c.args.steps.now refl stands costs;
}

pub loop-lead-preserved : goal.loop-lead-preserved
loop-lead-preserved g c =
    let before = c.loop-lead.invariant in
    let last = c.in_ok-turn.ensures in
    record {
      sound = last.sound;
      schema = last.schema ∙ before.schema;
      spare = le_trans before.spare last.spare_stays;
      reserved = le_trans before.reserved last.reserved_stays;
      keeps = last.keeps ∙ before.keeps;
      group = last.group ∙ before.group;
      sum = counted_sum c.loop-lead.counts c.in_ok-turn.turn c.loop-lead.lead-index c.counted-counts.result c.counted-counts.ensures before.sum;
      stands = (told_by c.in_ok-turn.turn (as_map c.loop-lead.arena) before.stands.0, last.history before.stands.0 before.stands.1);
      turns = λ told entries stands costs.
          let rules = rules_of c.args.plans.now in
          let start = as_map c.args.arena.now in
          subst (λ counts. HaveTurns rules c.args.rule c.args.params.now start told entries (take (c.loop-lead.lead-index + 1) c.args.leads.now) counts c.take_turn.new.standing c.take_turn.new.arena c.args.steps.now c.take_turn.new.steps) (sym c.counted-counts.ensures)
          (turns_more c.args.arena.now.schema rules c.args.rule c.args.params.now c.requires.rule c.requires.good start told entries c.args.leads.now c.loop-lead.lead-index _ _ c.loop-lead.counts c.loop-lead.standing c.take_turn.new.standing c.loop-lead.arena c.take_turn.new.arena
          c.args.steps.now c.loop-lead.steps c.take_turn.new.steps c.loop-lead-test.true refl (record { schema_is = refl; sound = c.requires.sound }) c.in_ok-turn.turn (before.turns told entries stands costs) last.turn last.history last.entries);
    }

pub returns-in_err-turn-clause-turns : goal.returns-in_err-turn-clause-turns
returns-in_err-turn-clause-turns g c told entries stands costs =
    let p = err_from_is_err_and c.from_residual.result c.from_residual.ensures.1 in
    let rules = rules_of c.args.plans.now in
    let start = as_map c.args.arena.now in
    rw p.1
    (stops_at c.args.arena.now.schema rules c.args.rule c.args.params.now c.requires.rule c.requires.good start told entries c.args.leads.now c.loop-lead.lead-index _ _ c.loop-lead.counts c.loop-lead.standing c.loop-lead.arena c.take_turn.new.arena
    c.args.steps.now c.loop-lead.steps c.take_turn.new.steps c.loop-lead-test.true refl (record { schema_is = refl; sound = c.requires.sound }) (c.loop-lead.invariant.turns told entries stands costs) c.in_err-turn.ensures.turn)

pub returns-clause-turns : goal.returns-clause-turns
returns-clause-turns g c told entries stands costs =
    turns_all c.args.arena.now.schema (rules_of c.args.plans.now) c.args.rule c.args.params.now c.requires.rule c.requires.good (as_map c.args.arena.now) told entries c.args.leads.now c.loop-lead.lead-index c.loop-lead.counts c.loop-lead.standing c.loop-lead.arena c.args.steps.now c.loop-lead.steps c.loop-lead-test.false
    (c.loop-lead.invariant.turns told entries stands costs)

pub returns-in_err-turn-clause-keeps : goal.returns-in_err-turn-clause-keeps
returns-in_err-turn-clause-keeps g c = c.in_err-turn.ensures.keeps ∙ c.loop-lead.invariant.keeps

pub returns-clause-keeps : goal.returns-clause-keeps
returns-clause-keeps g c = c.loop-lead.invariant.keeps

pub returns-in_err-turn-clause-group : goal.returns-in_err-turn-clause-group
returns-in_err-turn-clause-group g c = c.in_err-turn.ensures.group ∙ c.loop-lead.invariant.group

pub returns-clause-group : goal.returns-clause-group
returns-clause-group g c = c.loop-lead.invariant.group

pub returns-in_err-turn-clause-sound : goal.returns-in_err-turn-clause-sound
returns-in_err-turn-clause-sound g c = c.in_err-turn.ensures.sound

pub returns-clause-sound : goal.returns-clause-sound
returns-clause-sound g c = c.loop-lead.invariant.sound

pub returns-in_err-turn-clause-schema : goal.returns-in_err-turn-clause-schema
returns-in_err-turn-clause-schema g c = c.in_err-turn.ensures.schema ∙ c.loop-lead.invariant.schema

pub returns-clause-schema : goal.returns-clause-schema
returns-clause-schema g c = c.loop-lead.invariant.schema

pub returns-in_err-turn-clause-spare_stays : goal.returns-in_err-turn-clause-spare_stays
returns-in_err-turn-clause-spare_stays g c = le_trans c.loop-lead.invariant.spare c.in_err-turn.ensures.spare_stays

pub returns-clause-spare_stays : goal.returns-clause-spare_stays
returns-clause-spare_stays g c = c.loop-lead.invariant.spare

pub returns-in_err-turn-clause-reserved_stays : goal.returns-in_err-turn-clause-reserved_stays
returns-in_err-turn-clause-reserved_stays g c = le_trans c.loop-lead.invariant.reserved c.in_err-turn.ensures.reserved_stays

pub returns-clause-reserved_stays : goal.returns-clause-reserved_stays
returns-clause-reserved_stays g c = c.loop-lead.invariant.reserved
