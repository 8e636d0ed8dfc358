use Rattle.std.proofs.Common.{◌++◌, [], ◌∷◌, sym, ap, ap₂, ◌∙◌}
use Rattle.gm_dual.specs.Duals as duals
use Rattle.gm_dual.proofs.MapLemmas.{map_all, map_more}
use Rattle.gm_dual.proofs.schema.dual_embeds.Goals as goal

pub loop-embed-init : goal.loop-embed-init
loop-embed-init c = c.new-made.ensures.items

pub loop-embed-preserved : goal.loop-embed-preserved
loop-embed-preserved c = c.in_ok-push.ensures.items ∙ (ap₂ (λ xs x. xs ++ x ∷ []) c.loop-embed.invariant (c.dual_embed.ensures ∙ ap (duals.dual_embed c.args.top) c.embed-item.is) ∙ sym (map_more (duals.dual_embed c.args.top) c.args.embeds.now c.loop-embed.embed-index _ c.loop-embed-test.true))

pub returns : goal.returns
returns c = c.new.ensures ∙ (c.loop-embed.invariant ∙ map_all (duals.dual_embed c.args.top) c.args.embeds.now c.loop-embed.embed-index c.loop-embed-test.false)
