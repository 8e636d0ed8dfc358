use Rattle.std.proofs.Common.{sym, ◌∙◌}
use Rattle.gm_dual.specs.Duals as duals
use Rattle.gm_dual.proofs.MapLemmas.{map_all, map_more}
use Rattle.gm_dual.proofs.rule.dual_links.Goals as goal

pub loop-link-init : goal.loop-link-init
loop-link-init c = c.new-made.ensures.items

pub loop-link-preserved : goal.loop-link-preserved
loop-link-preserved c = rw (c.in_ok-push.ensures.items, c.loop-link.invariant, c.dual_label.ensures) (sym (map_more (duals.dual_link c.args.top) c.args.links.now c.loop-link.link-index _ c.loop-link-test.true))

pub returns : goal.returns
returns c = c.new.ensures ∙ (c.loop-link.invariant ∙ map_all (duals.dual_link c.args.top) c.args.links.now c.loop-link.link-index c.loop-link-test.false)
