use Rattle.std.proofs.Common.{length, refl, sym, ◌∙◌, arith}
use Rattle.std.proofs.lemmas.Bool.{false≢true}
use Rattle.std.proofs.lemmas.Option.{slice_get_read, slice_get_within}
use Rattle.gm_plan.proofs.Collectors.{no_set_more}
use Rattle.gm_plan.proofs.collecting.sets_collect.Goals as goal
use Rattle.gm_plan.proofs.collecting.sets_collect.Goals.{else-set-embed-via-then-set-embed+else-has_collector, else-set-embed-via-else-set-embed}

pub loop-set-init : goal.loop-set-init
loop-set-init c = λ k s less there same. absurd (omega (arith, less))

pub returns-then-has_collector : goal.returns-then-has_collector
returns-then-has_collector c = (
  λ _. (c.loop-set.set-index, c.set-item.result, slice_get_read c.args.sets.now (length c.args.sets.now) c.loop-set.set-index c.set-item.result refl c.loop-set-test.true c.set-item.is, c.if-set-embed.true, sym c.if-has_collector.ensures),
  λ _. refl,
)

pub loop-set-preserved : goal.loop-set-preserved
loop-set-preserved c =
    no_set_more c.args.sets.now c.args.embed c.loop-set.set-index c.set-item.result
    (slice_get_read c.args.sets.now (length c.args.sets.now) c.loop-set.set-index c.set-item.result refl c.loop-set-test.true c.set-item.is)
    (elim c.else-set-embed.branch [
      | else-set-embed-via-then-set-embed+else-has_collector w ↦ λ same. sym w.if-has_collector.ensures
      | else-set-embed-via-else-set-embed w ↦ λ same. absurd (w.if-set-embed.false same)
    ])
    c.loop-set.invariant

pub returns : goal.returns
returns c = (
  λ e. absurd (false≢true e),
  λ some.
      let within = slice_get_within c.args.sets.now some.0 some.1 some.2 in
      sym (c.loop-set.invariant some.0 some.1 (omega (arith, within, c.loop-set-test.false)) some.2 some.3) ∙ some.4,
)
