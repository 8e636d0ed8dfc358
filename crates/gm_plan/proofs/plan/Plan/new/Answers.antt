use Rattle.std.proofs.Common.{length, refl, sym, subst}
use Rattle.std.proofs.lemmas.Result.{IfOk-from_err}
use Rattle.gm_model.specs.declared.rule.Side.TheVariants.{Left, Right}
use Rattle.gm_model.specs.Rules.{rule_of}
use Rattle.gm_plan.specs.inner.Changes.{made_step}
use Rattle.gm_plan.specs.inner.Plans.{AreRows, AreSteps}
use Rattle.gm_plan.proofs.plan.Plan.new.Goals as goal

pub sides_of-requires : goal.sides_of-requires
sides_of-requires c = c.requires.planned.within.nodes

pub returns-in_err-sides : goal.returns-in_err-sides
returns-in_err-sides c = IfOk-from_err c.from_residual.result _ c.from_residual.ensures.0

pub changes_of-requires-clause-few : goal.changes_of-requires-clause-few
changes_of-requires-clause-few c = c.requires.planned.within.nodes

pub changes_of-requires-clause-left : goal.changes_of-requires-clause-left
changes_of-requires-clause-left c = c.in_ok-sides.ensures.0

pub changes_of-requires-clause-right : goal.changes_of-requires-clause-right
changes_of-requires-clause-right c = c.in_ok-sides.ensures.1

pub returns-in_err-changes : goal.returns-in_err-changes
returns-in_err-changes c = IfOk-from_err c.from_residual-in_err-changes.result _ c.from_residual-in_err-changes.ensures.0

pub testing_of-requires-clause-planned : goal.testing_of-requires-clause-planned
testing_of-requires-clause-planned c = c.requires.planned

pub testing_of-requires-clause-left : goal.testing_of-requires-clause-left
testing_of-requires-clause-left c = subst (AreSteps (rule_of c.args.rule.now) Left (length (rule_of c.args.rule.now).nodes)) (sym c.as_slice.ensures.value) c.in_ok-sides.ensures.0

pub returns-in_err-testing : goal.returns-in_err-testing
returns-in_err-testing c = IfOk-from_err c.from_residual-in_err-testing.result _ c.from_residual-in_err-testing.ensures.0

pub sources_of-requires-clause-planned : goal.sources_of-requires-clause-planned
sources_of-requires-clause-planned c = c.requires.planned

pub sources_of-requires-clause-right : goal.sources_of-requires-clause-right
sources_of-requires-clause-right c = subst (AreSteps (rule_of c.args.rule.now) Right (length (rule_of c.args.rule.now).nodes)) (sym c.as_slice-2.ensures.value) c.in_ok-sides.ensures.1

pub returns-in_err-sources : goal.returns-in_err-sources
returns-in_err-sources c = IfOk-from_err c.from_residual-in_err-sources.result _ c.from_residual-in_err-sources.ensures.0

pub labels_made-made_labels-requires-clause-few : goal.labels_made-made_labels-requires-clause-few
labels_made-made_labels-requires-clause-few c = c.requires.planned.within.nodes

pub labels_made-made_labels-requires-clause-made : goal.labels_made-made_labels-requires-clause-made
labels_made-made_labels-requires-clause-made c = subst (AreRows (made_step (rule_of c.args.rule.now)) (length (rule_of c.args.rule.now).nodes)) (sym c.as_slice-3.ensures.value) c.in_ok-changes.ensures.0

pub count_left-requires-clause-within : goal.count_left-requires-clause-within
count_left-requires-clause-within c = c.requires.planned.within.nodes

pub count_left-requires-clause-left_first : goal.count_left-requires-clause-left_first
count_left-requires-clause-left_first c = c.requires.planned.accepted.in_range.left_first

pub count_added-requires : goal.count_added-requires
count_added-requires c = c.requires.planned.within.nodes

pub count_removed-requires : goal.count_removed-requires
count_removed-requires c = c.requires.planned.within.nodes

pub nodes_removed-requires : goal.nodes_removed-requires
nodes_removed-requires c = c.requires.planned.within.nodes

pub invariant_of-result : goal.invariant_of-result
invariant_of-result c = record {
  planned = c.requires.planned;
  left_steps = c.in_ok-sides.ensures.0;
  right_steps = c.in_ok-sides.ensures.1;
  made_steps = c.in_ok-changes.ensures.0;
  freed_steps = c.in_ok-changes.ensures.1;
  tested_steps = c.in_ok-testing.ensures.1;
  are_tests = c.in_ok-testing.ensures.2;
  are_paths = c.in_ok-testing.ensures.0;
  are_sources = c.in_ok-sources.ensures;
  are_counts = record { left_is = c.count_left.ensures; added_is = c.count_added.ensures; removed_is = c.count_removed.ensures };
  are_removed = c.nodes_removed.ensures;
  are_made = c.labels_made-made_labels.ensures;
}

pub returns : goal.returns
returns c = refl
