use Rattle.std.proofs.Common.{◌≤◌, sym, subst, arith}
use Rattle.std.proofs.lemmas.Result.{IfOk-from_err}
use Rattle.gm_model.specs.Rules.{rule_of}
use Rattle.gm_plan.proofs.Found.{labels_below, ends_within, few_ranks, searched_paths}
use Rattle.gm_plan.proofs.Hooks.{low_hooks}
use Rattle.gm_plan.proofs.Search.{search_starts}
use Rattle.gm_plan.proofs.paths.least_paths.Goals as goal

pub loop-done-init : goal.loop-done-init
loop-done-init c = rw c.new.ensures.items (search_starts _ (rule_of c.args.rule.now).hooks _ c.requires.planned.accepted.in_range.hooks_differ (rw c.as_slice.ensures at c.hook_ranks.ensures))

pub follow_rank-requires-clause-steps : goal.follow_rank-requires-clause-steps
follow_rank-requires-clause-steps c = labels_below c.args.schema.now _ c.requires.planned (omega arith) _ c.requires.rows _ (omega arith)

pub follow_rank-requires-clause-ends : goal.follow_rank-requires-clause-ends
follow_rank-requires-clause-ends c = ends_within c.args.schema.now _ c.requires.planned (omega arith) _ c.requires.rows

pub follow_rank-requires-clause-room : goal.follow_rank-requires-clause-room
follow_rank-requires-clause-room c =
    omega (arith, few_ranks c.args.schema.now _ c.requires.planned (omega arith) _ c.requires.rows _ _ _ _ _ c.loop-done.invariant, c.requires.planned.within.nodes)

pub overflow_add-done : goal.overflow_add-done
overflow_add-done c =
    omega (arith, few_ranks c.args.schema.now _ c.requires.planned (omega arith) _ c.requires.rows _ _ _ _ _ c.loop-done.invariant, c.requires.planned.within.nodes)

pub loop-done-smaller : goal.loop-done-smaller
loop-done-smaller c =
    omega (arith, few_ranks c.args.schema.now _ c.requires.planned (omega arith) _ c.requires.rows _ _ _ _ _ c.loop-done.invariant, c.requires.planned.within.nodes)

pub returns : goal.returns
returns c = searched_paths c.args.schema.now _ c.requires.planned (omega arith) _ c.requires.rows _ _ _ _ _ c.loop-done.invariant (omega arith)

pub hook_ranks-requires : goal.hook_ranks-requires
hook_ranks-requires c = low_hooks c.args.schema.now (rule_of c.args.rule.now) c.requires.planned c.as_slice.result.now c.as_slice.ensures

pub follow_rank-requires-clause-labels : goal.follow_rank-requires-clause-labels
follow_rank-requires-clause-labels c = omega (arith, c.top-labels.ensures.value, c.top-labels.ensures.greatest)

pub follow_rank-requires-clause-rows : goal.follow_rank-requires-clause-rows
follow_rank-requires-clause-rows c = subst (λ n. n ≤ 32) (sym c.requires.rows.long) c.requires.planned.within.nodes

pub follow_rank-requires-clause-rank : goal.follow_rank-requires-clause-rank
follow_rank-requires-clause-rank c = c.loop-done-test.true

pub returns-in_err-follow_rank : goal.returns-in_err-follow_rank
returns-in_err-follow_rank c = IfOk-from_err c.from_residual.result _ c.from_residual.ensures.0

pub loop-done-preserved : goal.loop-done-preserved
loop-done-preserved c = c.in_ok-follow_rank.ensures (rule_of c.args.rule.now).hooks c.loop-done.invariant
