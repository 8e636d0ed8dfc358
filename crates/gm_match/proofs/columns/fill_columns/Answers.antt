use Rattle.std.proofs.Common.{length, drop, sym, subst, ◌∙◌, ◌≤◌, arith}
use Rattle.std.proofs.Math.Nat.{le_refl}
use Rattle.gm_model.proofs.Exits.{never_ok}
use Rattle.gm_model.specs.Rules.{rule_of}
use Rattle.gm_plan.proofs.Hooks.{few_hooks}
use Rattle.gm_walk.specs.inner.Walks.{AreLive, names_of}
use Rattle.gm_match.specs.inner.Layout.{AreAlongWalk}
use Rattle.gm_match.proofs.Costs.{few_slots, row_cost, row_room}
use Rattle.gm_match.proofs.EdgeRows.{written_whole}
use Rattle.gm_match.proofs.Column.{resized_live}
use Rattle.gm_match.proofs.columns.fill_columns.Goals as goal

pub overflow_mul-walk : goal.overflow_mul-walk
overflow_mul-walk g c = omega (arith, row_room _ _ _ c.requires.few c.left_nodes-nodes.ensures.most c.requires.matchable.planned.within.nodes)

pub bounds-walk-0 : goal.bounds-walk-0
bounds-walk-0 g c = c.requires.some_position

pub returns-in_err-resize-clause-columns : goal.returns-in_err-resize-clause-columns
returns-in_err-resize-clause-columns g c =
    never_ok _ c.from_residual.result c.from_residual.ensures.0

pub returns-in_err-resize-clause-cost : goal.returns-in_err-resize-clause-cost
returns-in_err-resize-clause-cost g c =
    let rule = rule_of c.args.plan.now.table in
    row_cost _ _ _ (subst (λ n. n ≤ length rule.nodes) c.requires.one (few_hooks c.args.plan.now.schema rule c.requires.matchable.planned))

pub returns-in_err-resize-clause-least : goal.returns-in_err-resize-clause-least
returns-in_err-resize-clause-least g c = le_refl _

pub write_columns-requires-clause-matchable : goal.write_columns-requires-clause-matchable
write_columns-requires-clause-matchable g c = c.requires.matchable

pub write_columns-requires-clause-one : goal.write_columns-requires-clause-one
write_columns-requires-clause-one g c = c.requires.one

pub write_columns-requires-clause-nodes : goal.write_columns-requires-clause-nodes
write_columns-requires-clause-nodes g c = c.left_nodes-nodes.ensures.left

pub write_columns-requires-clause-few : goal.write_columns-requires-clause-few
write_columns-requires-clause-few g c = few_slots _ _ _ c.requires.few c.left_nodes-nodes.ensures.most c.requires.matchable.planned.within.nodes

pub write_columns-requires-clause-walk : goal.write_columns-requires-clause-walk
write_columns-requires-clause-walk g c = c.requires.walk

pub write_columns-requires-clause-long : goal.write_columns-requires-clause-long
write_columns-requires-clause-long g c = sym (c.deref_mut.ensures.len ∙ c.in_ok-resize.ensures.len)

pub write_columns-requires-clause-live : goal.write_columns-requires-clause-live
write_columns-requires-clause-live g c =
    subst (AreLive c.args.arena.now) (sym c.deref_mut.ensures.value) (resized_live c.args.arena.now _ (c.requires.walk 0 (record { at = 0 }) c.requires.some_position) _ _ _ _ c.requires.empty c.in_ok-resize.ensures.items)

pub returns-clause-columns : goal.returns-clause-columns
returns-clause-columns g c =
    let m = c.args.arena.now in
    let new = c.write_columns.new.slots in
    let nodes = c.left_nodes-nodes.result in
    let whole = written_whole new (drop (length new) c.resize.new.self.items) _ (c.write_columns.ensures.long ∙ c.deref_mut.ensures.len) in
    (nodes, c.left_nodes-nodes.ensures.left, subst (AreAlongWalk m (rule_of c.args.plan.now.table) nodes (names_of m c.args.walk.now) (length c.args.walk.now)) whole c.write_columns.ensures.columns)

pub returns-clause-cost : goal.returns-clause-cost
returns-clause-cost g c = c.write_columns.ensures.cost

pub returns-clause-least : goal.returns-clause-least
returns-clause-least g c = c.write_columns.ensures.least
