use Rattle.std.proofs.Common.{not, refl, ap, subst, ◌∙◌}
use Rattle.std.proofs.lemmas.Result.{err_from_is_err_and}
use Rattle.gm_arena.specs.inner.ArenaAsMap.{as_map}
use Rattle.gm_run.specs.inner.Progress.{rules_of}
use Rattle.gm_run.specs.inner.Standing.{HasLine, IsUnapplied}
use Rattle.gm_model.specs.Runs.{line_at}
use Rattle.gm_run.proofs.Advancing.{dead_at, live_at, never_more}
use Rattle.std.proofs.Math.Nat.{le_refl}
use Rattle.gm_model.proofs.Exits.{unless_ok}
use Rattle.gm_run.proofs.each.take_turn.Goals as goal

pub returns-in_err-outcome-clause-turn : goal.returns-in_err-outcome-clause-turn
returns-in_err-outcome-clause-turn g c =
    let p = err_from_is_err_and c.from_residual.result c.from_residual.ensures.1 in
    let rules = rules_of c.args.plans.now in
    let before = as_map c.args.arena.now in
    rw p.1 (
      live_at c.args.arena.now c.args.lead c.slot_of.result c.count.ensures.lawful c.slot_of.ensures.slot (c.is_none.ensures ∙ ap not c.if-is_none.false),
      subst (λ s. IsUnapplied rules before (line_at c.args.rule c.args.params.now c.args.lead) (as_map c.apply_rule.new.arena) s c.apply_rule.new.steps) c.slot_of.ensures.cost c.in_err-outcome.ensures.line,
    )

pub returns-clause-turn : goal.returns-clause-turn
returns-clause-turn g c =
    let rules = rules_of c.args.plans.now in
    let before = as_map c.args.arena.now in (
      live_at c.args.arena.now c.args.lead c.slot_of.result c.count.ensures.lawful c.slot_of.ensures.slot (c.is_none.ensures ∙ ap not c.if-is_none.false),
      subst (λ s. HasLine rules before (line_at c.args.rule c.args.params.now c.args.lead) (as_map c.apply_rule.new.arena) s c.apply_rule.new.steps c.in_ok-outcome.outcome) c.slot_of.ensures.cost c.in_ok-outcome.ensures.line,
    )

pub prove-unreachable-requires : goal.prove-unreachable-requires
prove-unreachable-requires g c = never_more c.args.arena.now c.count.result c.count.ensures.lawful c.count.ensures.count c.if-prove.true

pub returns-then-is_none-clause-turn : goal.returns-then-is_none-clause-turn
returns-then-is_none-clause-turn g c = (dead_at c.args.arena.now c.args.lead c.slot_of.result c.slot_of.ensures.slot (c.is_none.ensures ∙ ap not c.if-is_none.true), refl, c.slot_of.ensures.cost)

pub apply_rule-requires-clause-sound : goal.apply_rule-requires-clause-sound
apply_rule-requires-clause-sound g c = c.requires.sound

pub apply_rule-requires-clause-plans : goal.apply_rule-requires-clause-plans
apply_rule-requires-clause-plans g c = c.requires.plans

pub apply_rule-requires-clause-good : goal.apply_rule-requires-clause-good
apply_rule-requires-clause-good g c = c.requires.good

pub apply_rule-requires-clause-stands : goal.apply_rule-requires-clause-stands
apply_rule-requires-clause-stands g c = c.requires.stands

pub returns-then-is_none-clause-keeps : goal.returns-then-is_none-clause-keeps
returns-then-is_none-clause-keeps g c = refl

pub returns-then-is_none-clause-group : goal.returns-then-is_none-clause-group
returns-then-is_none-clause-group g c = refl

pub returns-then-is_none-clause-sound : goal.returns-then-is_none-clause-sound
returns-then-is_none-clause-sound g c = c.requires.sound

pub returns-then-is_none-clause-schema : goal.returns-then-is_none-clause-schema
returns-then-is_none-clause-schema g c = refl

pub returns-then-is_none-clause-spare_stays : goal.returns-then-is_none-clause-spare_stays
returns-then-is_none-clause-spare_stays g c = le_refl _

pub returns-then-is_none-clause-reserved_stays : goal.returns-then-is_none-clause-reserved_stays
returns-then-is_none-clause-reserved_stays g c = le_refl _

pub returns-in_err-outcome-clause-keeps : goal.returns-in_err-outcome-clause-keeps
returns-in_err-outcome-clause-keeps g c = c.in_err-outcome.ensures.keeps

pub returns-in_err-outcome-clause-group : goal.returns-in_err-outcome-clause-group
returns-in_err-outcome-clause-group g c = c.in_err-outcome.ensures.group

pub returns-in_err-outcome-clause-sound : goal.returns-in_err-outcome-clause-sound
returns-in_err-outcome-clause-sound g c = c.in_err-outcome.ensures.sound

pub returns-in_err-outcome-clause-schema : goal.returns-in_err-outcome-clause-schema
returns-in_err-outcome-clause-schema g c = c.in_err-outcome.ensures.schema

pub returns-in_err-outcome-clause-spare_stays : goal.returns-in_err-outcome-clause-spare_stays
returns-in_err-outcome-clause-spare_stays g c = c.in_err-outcome.ensures.spare_stays

pub returns-in_err-outcome-clause-reserved_stays : goal.returns-in_err-outcome-clause-reserved_stays
returns-in_err-outcome-clause-reserved_stays g c = c.in_err-outcome.ensures.reserved_stays

pub returns-clause-keeps : goal.returns-clause-keeps
returns-clause-keeps g c = c.in_ok-outcome.ensures.keeps

pub returns-clause-group : goal.returns-clause-group
returns-clause-group g c = c.in_ok-outcome.ensures.group

pub returns-clause-sound : goal.returns-clause-sound
returns-clause-sound g c = c.in_ok-outcome.ensures.sound

pub returns-clause-schema : goal.returns-clause-schema
returns-clause-schema g c = c.in_ok-outcome.ensures.schema

pub returns-clause-spare_stays : goal.returns-clause-spare_stays
returns-clause-spare_stays g c = c.in_ok-outcome.ensures.spare_stays

pub returns-clause-reserved_stays : goal.returns-clause-reserved_stays
returns-clause-reserved_stays g c = c.in_ok-outcome.ensures.reserved_stays

pub returns-then-is_none-clause-history : goal.returns-then-is_none-clause-history
returns-then-is_none-clause-history g c told remembers = remembers

pub returns-then-is_none-clause-entries : goal.returns-then-is_none-clause-entries
returns-then-is_none-clause-entries g c told entries most remembers costs budget = costs

pub returns-in_err-outcome-clause-history : goal.returns-in_err-outcome-clause-history
returns-in_err-outcome-clause-history g c told remembers = unless_ok _ c.from_residual.result c.from_residual.ensures.0

pub returns-in_err-outcome-clause-entries : goal.returns-in_err-outcome-clause-entries
returns-in_err-outcome-clause-entries g c told entries most remembers costs budget = unless_ok _ c.from_residual.result c.from_residual.ensures.0

pub returns-clause-history : goal.returns-clause-history
returns-clause-history g c = c.in_ok-outcome.ensures.history

pub returns-clause-entries : goal.returns-clause-entries
returns-clause-entries g c = c.in_ok-outcome.ensures.entries
