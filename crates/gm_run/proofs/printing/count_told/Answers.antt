use Rattle.std.proofs.Common.{◌+◌, ap₂, sym, refl, ◌∙◌, arith}
use Rattle.gm_model.specs.Reports.{done_in, refused_in}
use Rattle.gm_run.proofs.Telling.{told_at}
use Rattle.gm_run.proofs.Told.{sum_more}
use Rattle.gm_run.proofs.printing.count_told.Goals as goal

pub loop-outcome-preserved : goal.loop-outcome-preserved
loop-outcome-preserved c =
    let before = c.loop-outcome.invariant in
    record {
      few_done = omega (arith, before.few_done, c.from.ensures);
      few_refused = omega (arith, before.few_refused, c.from-in-loop-outcome.ensures);
      done = λ told tells.
          let here = told_at c.args.outcomes.now told tells c.loop-outcome.outcome-index _ _ c.loop-outcome-test.true refl in
          ap₂ ◌+◌ (before.done told tells) (c.from.ensures ∙ (c.told_by-done.ensures here.outcome here.is).0) ∙ sym (sum_more told done_in c.loop-outcome.outcome-index here.outcome here.at);
      refused = λ told tells.
          let here = told_at c.args.outcomes.now told tells c.loop-outcome.outcome-index _ _ c.loop-outcome-test.true refl in
          ap₂ ◌+◌ (before.refused told tells) (c.from-in-loop-outcome.ensures ∙ (c.told_by-done.ensures here.outcome here.is).1) ∙ sym (sum_more told refused_in c.loop-outcome.outcome-index here.outcome here.at);
    }
