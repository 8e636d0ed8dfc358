use Rattle.std.proofs.Common.{refl, arith}
use Rattle.gm_run.proofs.Told.{done_more}
use Rattle.gm_run.proofs.printing.count_done.Goals as goal

pub loop-outcome-preserved : goal.loop-outcome-preserved
loop-outcome-preserved c =
    let before = c.loop-outcome.invariant.within in
    let one = c.done_lines-done.ensures.one in
    record {
      within = omega (arith, before, one);
      counted = λ told tells. done_more c.args.outcomes.now told tells c.loop-outcome.outcome-index _ _ c.loop-outcome.done c.done_lines-done.result c.loop-outcome-test.true refl c.done_lines-done.ensures.done (c.loop-outcome.invariant.counted told tells);
    }
