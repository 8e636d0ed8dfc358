use Rattle.std.proofs.Common.{refl, arith}
use Rattle.gm_tool.proofs.Agreeing.{same_more, all_same}
use Rattle.gm_tool.proofs.running.same_embeds.Goals as goal

pub loop-at-init : goal.loop-at-init
loop-at-init c = λ k d lt. absurd (omega (arith, lt))

pub loop-at-preserved : goal.loop-at-preserved
loop-at-preserved c =
    same_more c.args.embeds.now c.args.others.now c.loop-at.at c.loop-at.invariant c.index-embeds-at.result c.index-others-at.result c.index-embeds-at.is c.index-others-at.is c.if-embeds-others.false c.loop-at-test.true
    (c.same_embed.ensures.0 c.if-not-same_embed.false)

pub returns : goal.returns
returns c = (λ h. all_same c.args.embeds.now c.args.others.now c.loop-at.at c.loop-at.invariant c.if-embeds-others.false c.loop-at-test.false, λ h. refl)
