use Rattle.std.proofs.Common.{sym, ◌∙◌}
use Rattle.gm_dual.specs.Duals as duals
use Rattle.gm_dual.proofs.MapLemmas.{map_all, map_more}
use Rattle.gm_dual.proofs.labels.dual_path.Goals as goal

pub loop-label-init : goal.loop-label-init
loop-label-init c = c.new-path.ensures.items

pub loop-label-preserved : goal.loop-label-preserved
loop-label-preserved c = rw (c.in_ok-push.ensures.items, c.loop-label.invariant, c.dual_label.ensures) (sym (map_more (duals.dual_label c.args.top) c.args.labels.now c.loop-label.label-index 0 c.loop-label-test.true))

pub returns : goal.returns
returns c = c.loop-label.invariant ∙ map_all (duals.dual_label c.args.top) c.args.labels.now c.loop-label.label-index c.loop-label-test.false
