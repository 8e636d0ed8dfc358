use Rattle.std.proofs.Common.{◌≡◌, ◌≢◌, ℕ, ◌+◌, ◌<◌, ◌≤◌, List, [], length, set, Some, below_more, arith}
use Rattle.std.specs.List.{slice_get}
use Rattle.std.proofs.lemmas.List.{get_or-set_same, get_or-set_other, length-set}
use Rattle.std.proofs.lemmas.Option.{get_or_from_slice_get}
use Rattle.gm_model.specs.declared.rule.Side.TheVariants.{Right}
use Rattle.gm_model.specs.declared.step.Step.{Step}
use Rattle.gm_model.specs.declared.step.Step.TheVariants.{Absent}
use Rattle.gm_model.specs.Rules.{Rule, rule_of, step}
use Rattle.gm_cycle.specs.inner.StepRows.{step_of, HasRows}
use Rattle.gm_cycle.proofs.steps.right_steps.Goals as goal

-- one more row
rows_more : (rule : Rule) (rows : List (List Step)) (row : List Step) (n : ℕ) → n < length rows → HasRows rule rows n → ((i : ℕ) → i < 8 → slice_get row i ≡ Some (step rule Right n i)) → HasRows rule (set rows n row) (n + 1)
rows_more rule rows row n b held new x i bx bi = below_more (λ x. (i : ℕ) → i < 8 → step_of (set rows n row) x i ≡ step rule Right x i) n
    (λ x h i bi. let ne : x ≢ n = omega arith in rw (get_or-set_other rows n x row [] ne) (held x i h bi))
    (λ i bi. rw (get_or-set_same rows n row [] b) (get_or_from_slice_get row i (step rule Right n i) Absent (new i bi)))
    x bx i bi

below : (n end count rows : ℕ) → n < end → end ≡ count → count ≤ 32 → rows ≡ 32 → n < rows
below n end count rows b e few len = omega arith

pub loop-node-preserved : goal.loop-node-preserved
loop-node-preserved c = record {
  len = rw length-set c.loop-node.invariant.len;
  rows = rows_more (rule_of c.args.rule.now) c.loop-node.rows c.steps.result c.loop-node.node (below _ _ _ _ c.loop-node-test.true c.node_count-node-end.ensures c.requires c.loop-node.invariant.len) c.loop-node.invariant.rows c.steps.ensures;
}
