use Rattle.std.proofs.Common.{nat_lt, sym, ap, subst, ◌∙◌}
use Rattle.gm_model.specs.declared.rule.RuleTable.{RuleTable}
use Rattle.gm_model.specs.declared.schema.Schema.{Schema}
use Rattle.gm_pending.specs.inner.Results.{PendingOf}
use Rattle.gm_commit.specs.inner.InstanceEdits.{RewriteRows, rows_at}
use Rattle.gm_commit.proofs.on_rewrite.RowsOfPlan.{ArePlanRows, none_more, rows_alike, rows_fitted}
use Rattle.gm_commit.proofs.changes.rewrite_of.Goals as goal

-- an application of another rule
abbrev with_table : PendingOf → RuleTable → PendingOf
with_table app table = record { map = app.map; table = table; placed = app.placed; asked = app.asked }

pub invariant_of-result : goal.invariant_of-result
invariant_of-result c =
    let app = c.args.pending.now in
    let rows : RewriteRows = rows_at c.top.result (nat_lt 0 c.removed.result) c.nodes_that_go.result c.freed_rows.result.now c.made_rows.result.now c.found.result.now in
    let plan : ArePlanRows (with_table app c.plan-plan.result.now.table) rows = record {
      dim = c.top.ensures.value ∙ ap (λ (s : Schema). s.dim) (c.schema.ensures.schema ∙ c.plan-plan.ensures.schema);
      placed = c.found.ensures;
      goes = c.nodes_that_go.ensures;
      freed = c.freed_rows.ensures;
      made = c.made_rows.ensures;
      removes = λ none. sym c.removed.ensures ∙ none_more c.removed.result none;
    } in
    rows_fitted app c.plan-plan.ensures.prepared rows (subst (λ t. ArePlanRows (with_table app t) rows) c.plan-plan.ensures.rule plan)

pub returns : goal.returns
returns c =
    let app = c.args.pending.now in
    let rows : RewriteRows = rows_at c.top.result (nat_lt 0 c.removed.result) c.nodes_that_go.result c.freed_rows.result.now c.made_rows.result.now c.found.result.now in
    let plan : ArePlanRows (with_table app c.plan-plan.result.now.table) rows = record {
      dim = c.top.ensures.value ∙ ap (λ (s : Schema). s.dim) (c.schema.ensures.schema ∙ c.plan-plan.ensures.schema);
      placed = c.found.ensures;
      goes = c.nodes_that_go.ensures;
      freed = c.freed_rows.ensures;
      made = c.made_rows.ensures;
      removes = λ none. sym c.removed.ensures ∙ none_more c.removed.result none;
    } in
    rows_alike app c.plan-plan.ensures.prepared rows (subst (λ t. ArePlanRows (with_table app t) rows) c.plan-plan.ensures.rule plan)
