use Rattle.std.proofs.Common.{◌<◌, subst, arith}
use Rattle.std.proofs.lemmas.Result.{IfOk-from_err}
use Rattle.gm_model.specs.Rules.{rule_of}
use Rattle.gm_plan.proofs.Tests.{are_tests}
use Rattle.gm_plan.proofs.tested.testing_of.Goals as goal

pub least_paths-requires-clause-planned : goal.least_paths-requires-clause-planned
least_paths-requires-clause-planned c = c.requires.planned

pub least_paths-requires-clause-rows : goal.least_paths-requires-clause-rows
least_paths-requires-clause-rows c = c.requires.left

pub returns-in_err-paths : goal.returns-in_err-paths
returns-in_err-paths c = IfOk-from_err c.from_residual.result _ c.from_residual.ensures.0

pub node_count-requires : goal.node_count-requires
node_count-requires c = omega (arith, c.requires.planned.within.nodes)

pub rows_of-requires : goal.rows_of-requires
rows_of-requires c node below = (c.requires.left, subst (λ n. node < n) c.node_count.ensures below)

pub returns-in_err-rows : goal.returns-in_err-rows
returns-in_err-rows c = IfOk-from_err c.from_residual-in_err-rows.result _ c.from_residual-in_err-rows.ensures.0

pub returns-in_err-tests : goal.returns-in_err-tests
returns-in_err-tests c = IfOk-from_err c.from_residual-in_err-tests.result _ c.from_residual-in_err-tests.ensures.0

pub returns : goal.returns
returns c = (
  c.in_ok-paths.ensures,
  rw (← c.as_slice-links.ensures, ← c.node_count.ensures) c.in_ok-rows.ensures,
  are_tests c.args.schema.now.dim (rule_of c.args.rule.now) _ c.in_ok-paths.ensures c.in_ok-rows.rows.items (rw (← c.as_slice-links.ensures, ← c.node_count.ensures) c.in_ok-rows.ensures) (omega (arith, c.top.ensures.value, c.top.ensures.greatest)) c.in_ok-tests.tests.items (rw (← c.as_slice.ensures.value, ← c.top.ensures.value) c.in_ok-tests.ensures),
)
