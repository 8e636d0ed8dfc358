use Rattle.std.proofs.Common.{map, ap, ◌∙◌}
use Rattle.gm_model.specs.Rules.{assignment_of}
use Rattle.gm_dual.specs.Duals as duals
use Rattle.gm_dual.proofs.MapLemmas.{viewed_all, viewed_more}
use Rattle.gm_dual.proofs.rule.dual_sets.Goals as goal

pub loop-set-init : goal.loop-set-init
loop-set-init c = ap (map assignment_of) c.new-made.ensures.items

pub loop-set-preserved : goal.loop-set-preserved
loop-set-preserved c = rw c.in_ok-push.ensures.items (viewed_more assignment_of c.loop-set.made.items c.in_ok-dual_set.field-0 (duals.dual_assignment c.args.top) c.args.sets.now c.loop-set.set-index _ c.loop-set-test.true c.loop-set.invariant (c.in_ok-dual_set.ensures ∙ ap (λ x. duals.dual_assignment c.args.top (assignment_of x)) c.set-item.is))

pub returns : goal.returns
returns c = ap (map assignment_of) c.new.ensures ∙ (c.loop-set.invariant ∙ viewed_all assignment_of (duals.dual_assignment c.args.top) c.args.sets.now c.loop-set.set-index c.loop-set-test.false)
