use Rattle.std.proofs.Common.{length, drop, subst, ◌∙◌, sym, arith}
use Rattle.gm_model.specs.Rules.{rule_of}
use Rattle.gm_walk.specs.inner.Walks.{names_of, AreLive}
use Rattle.gm_match.specs.inner.Layout.{AreRows}
use Rattle.gm_match.proofs.EdgeRows.{written_whole}
use Rattle.std.proofs.Math.Nat.{le_refl, le_trans}
use Rattle.gm_model.proofs.Exits.{never_ok}
use Rattle.gm_plan.proofs.Hooks.{few_hooks}
use Rattle.gm_match.proofs.Costs.{row_cost, row_room, some_node}
use Rattle.gm_match.proofs.Column.{resized_live}
use Rattle.gm_match.proofs.edges.fill_edge.Goals as goal

pub returns-clause-slots : goal.returns-clause-slots
returns-clause-slots g c = λ turns.
    let m = c.args.arena.now in
    let new = c.write_edge.new.slots in
    let whole = written_whole new (drop (length new) c.resize.new.self.items) _ (c.write_edge.ensures.long ∙ c.deref_mut.ensures.len) in
    (c.left_nodes-nodes.result, c.left_nodes-nodes.ensures.left, subst (AreRows m (rule_of c.args.plan.now.table) (names_of m c.args.darts.now) (names_of m c.args.walk.now) turns c.left_nodes-nodes.result (length c.args.walk.now)) whole (c.write_edge.ensures.rows turns))

pub overflow_mul-walk : goal.overflow_mul-walk
overflow_mul-walk g c = omega (arith, row_room (length c.args.walk.now) c.left_nodes-nodes.result _ (omega (arith, c.requires.short)) c.left_nodes-nodes.ensures.most c.requires.walked.matchable.planned.within.nodes)

pub bounds-walk-0 : goal.bounds-walk-0
bounds-walk-0 g c = c.requires.walked.some_position

pub returns-in_err-resize-clause-slots : goal.returns-in_err-resize-clause-slots
returns-in_err-resize-clause-slots g c = never_ok _ c.from_residual.result c.from_residual.ensures.0

pub returns-in_err-resize-clause-cost : goal.returns-in_err-resize-clause-cost
returns-in_err-resize-clause-cost g c = row_cost _ _ _ (some_node c.requires.walked.some c.requires.walked.count (few_hooks c.args.plan.now.schema (rule_of c.args.plan.now.table) c.requires.walked.matchable.planned))

pub returns-in_err-resize-clause-least : goal.returns-in_err-resize-clause-least
returns-in_err-resize-clause-least g c = le_refl _

pub write_edge-requires-clause-one : goal.write_edge-requires-clause-one
write_edge-requires-clause-one g c = c.requires.one

pub write_edge-requires-clause-nodes : goal.write_edge-requires-clause-nodes
write_edge-requires-clause-nodes g c = c.left_nodes-nodes.ensures.left

pub write_edge-requires-clause-few : goal.write_edge-requires-clause-few
write_edge-requires-clause-few g c = le_trans c.left_nodes-nodes.ensures.most c.requires.walked.matchable.planned.within.nodes

pub write_edge-requires-clause-short : goal.write_edge-requires-clause-short
write_edge-requires-clause-short g c = c.requires.short

pub write_edge-requires-clause-long : goal.write_edge-requires-clause-long
write_edge-requires-clause-long g c = sym (c.deref_mut.ensures.len ∙ c.in_ok-resize.ensures.len)

pub write_edge-requires-clause-live : goal.write_edge-requires-clause-live
write_edge-requires-clause-live g c = subst (AreLive c.args.arena.now) (sym c.deref_mut.ensures.value) (resized_live c.args.arena.now _ (c.requires.walked.walk_live 0 (record { at = 0 }) c.requires.walked.some_position) _ _ _ _ c.requires.empty c.in_ok-resize.ensures.items)

pub returns-clause-cost : goal.returns-clause-cost
returns-clause-cost g c = c.write_edge.ensures.cost

pub returns-clause-least : goal.returns-clause-least
returns-clause-least g c = c.write_edge.ensures.least

pub write_edge-requires-clause-walked : goal.write_edge-requires-clause-walked
write_edge-requires-clause-walked g c = c.requires.walked
