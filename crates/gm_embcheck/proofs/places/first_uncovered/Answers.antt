use Rattle.std.proofs.Common.{below_more}
use Rattle.gm_model.specs.Labels.{has}
use Rattle.gm_model.specs.Rules.{rule_of}
use Rattle.gm_embcheck.specs.inner.NodeSets.{IsCovered}
use Rattle.gm_embcheck.proofs.places.first_uncovered.Goals as goal

pub loop-place-preserved : goal.loop-place-preserved
loop-place-preserved c =
    below_more (IsCovered (rule_of c.args.rule.now) (has c.args.mask) c.args.component.now c.args.left.now) c.loop-place.place c.loop-place.invariant
    (c.is_covered.ensures.0 c.if-not-is_covered.false)
