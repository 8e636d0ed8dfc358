use Rattle.std.proofs.Common.{◌<◌, length, refl, arith}
use Rattle.std.proofs.lemmas.List.{take_all, length-set}
use Rattle.gm_plan.proofs.Ranks.{no_hook_ranked, one_hook_more}
use Rattle.gm_plan.proofs.paths.hook_ranks.Goals as goal

pub loop-hook-init : goal.loop-hook-init
loop-hook-init c = record { long = refl; ranked = no_hook_ranked c.args.hooks.now 32 }

pub loop-hook-preserved : goal.loop-hook-preserved
loop-hook-preserved c =
    let b : c.loop-hook.hook-index < length c.args.hooks.now = omega arith in
    record {
      long = rw length-set c.loop-hook.invariant.long;
      ranked = one_hook_more c.args.hooks.now c.loop-hook.hook-index c.loop-hook.ranks b (rw c.loop-hook.invariant.long (c.requires c.loop-hook.hook-index 0 b)) c.loop-hook.invariant.ranked;
    }

pub returns : goal.returns
returns c = rw (take_all c.loop-hook.hook-index c.args.hooks.now c.loop-hook-test.false) at c.loop-hook.invariant.ranked
