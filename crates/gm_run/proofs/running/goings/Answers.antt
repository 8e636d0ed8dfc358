use Rattle.std.proofs.Common.{◌≡◌, ◌+◌, sym, ap, ◌∙◌, arith, length, take, subst, ◌≤◌}
use Rattle.std.specs.List.{sum_by}
use Rattle.std.proofs.lemmas.List.{take_all}
use Rattle.gm_model.specs.Statements.{stat_of}
use Rattle.gm_run.specs.inner.Standing.{going}
use Rattle.gm_run.proofs.Settled.{one_going_more}
use Rattle.gm_run.proofs.running.goings.Goals as goal

pub loop-index-preserved : goal.loop-index-preserved
loop-index-preserved c =
    let few = c.loop-index.invariant.few in
    let one = c.going-all.ensures.one in
    record {
      few = omega (arith, few, one);
      counted = one_going_more c.args.script.now.stats c.loop-index.index (stat_of c.get.result) c.get.ensures c.loop-index.all c.going-all.result c.loop-index.invariant.counted c.going-all.ensures.going;
    }

pub returns : goal.returns
returns c = c.loop-index.invariant.counted ∙ ap (sum_by going) (take_all c.loop-index.index c.args.script.now.stats (subst (λ n. n ≤ c.loop-index.index) c.len-index-end.ensures c.loop-index-test.false))
