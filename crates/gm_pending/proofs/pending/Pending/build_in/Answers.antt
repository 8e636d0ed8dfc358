use Rattle.std.proofs.Common.{length, replicate, None, sym, subst, ap, ◌∙◌}
use Rattle.gm_model.specs.declared.schema.Schema.{Schema}
use Rattle.gm_model.specs.Rules.{rule_of}
use Rattle.gm_plan.specs.inner.Plans.{IsPlanned}
use Rattle.gm_pending.specs.inner.Results.{IsPrepared}
use Rattle.gm_pending.proofs.on_values.AnswersKept.{no_answers, nothing_answered, nothing_prepared}
use Rattle.gm_pending.proofs.on_marks.BitsOfInstances.{all_seen}
use Rattle.gm_pending.proofs.pending.Pending.build_in.Goals as goal

pub returns-clause-pending : goal.returns-clause-pending
returns-clause-pending g c = nothing_answered c.args.arena.now c.args.plan.now.table c.args.found.now c.in_ok-orbits.orbits.items
    (c.in_ok-orbits.ensures ∙ ap (λ embeds. replicate (length embeds) None) (c.as_slice.ensures ∙ ap (λ (s : Schema). s.embeds) c.schema-3.ensures))

pub invariant_of-result : goal.invariant_of-result
invariant_of-result g c = (
  subst IsPrepared (sym (nothing_answered c.args.arena.now c.args.plan.now.table c.args.found.now c.in_ok-orbits.orbits.items
      (c.in_ok-orbits.ensures ∙ ap (λ embeds. replicate (length embeds) None) (c.as_slice.ensures ∙ ap (λ (s : Schema). s.embeds) c.schema-3.ensures))))
      (nothing_prepared c.args.arena.now c.args.plan.now.table c.args.found.now
      c.count.ensures.lawful
      (subst (λ (s : Schema). IsPlanned s (rule_of c.args.plan.now.table)) (sym c.requires.schema) c.schema.ensures.planned)
      c.requires.sound c.requires.matched.0 c.requires.matched.1),
  c.requires.schema,
  no_answers _ (length c.args.arena.now.schema.embeds) c.in_ok-orbits.orbits.items
      (c.in_ok-orbits.ensures ∙ ap (λ embeds. replicate (length embeds) None) (c.as_slice.ensures ∙ ap (λ (s : Schema). s.embeds) c.schema-3.ensures)),
  tt,
  all_seen c.args.found.now,
  c.requires.room,
)
