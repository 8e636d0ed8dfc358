use Rattle.std.proofs.Common.{◌∙◌, length, sym, subst}
use Rattle.std.proofs.Math.Nat.{le_refl}
use Rattle.std.proofs.lemmas.Result.{on_ok_weaker}
use Rattle.gm_model.specs.Rules.{rule_of}
use Rattle.gm_plan.specs.inner.Plans.{IsLeftCount}
use Rattle.gm_plan.proofs.Hooks.{few_hooks}
use Rattle.gm_walk.specs.inner.Walks.{names_of}
use Rattle.gm_match.specs.inner.Layout.{AreRows}
use Rattle.gm_match.proofs.Column.{column_rows}
use Rattle.gm_match.proofs.Costs.{row_cost, some_node}
use Rattle.gm_match.proofs.OneNode.{walk_rows}
use Rattle.gm_match.proofs.candidates.fill_slots.Goals as goal

pub returns-then-nodes-eq1-clause-slots : goal.returns-then-nodes-eq1-clause-slots
returns-then-nodes-eq1-clause-slots g c =
    let m = c.args.arena.now in
    let rule = rule_of c.args.plan.now.table in
    let hooks = names_of m c.args.darts.now in
    let walk = c.args.walk.now in
    let turns = c.args.turns.now in
    let one : IsLeftCount rule 1 = subst (IsLeftCount rule) c.if-nodes-eq1.true c.left_nodes-nodes.ensures.left in
    on_ok_weaker c.fill_along.result (λ same. (1, one, subst (AreRows m rule hooks (names_of m walk) turns 1 (length walk)) (sym same) (walk_rows m c.args.plan.now.schema rule c.requires.walked.matchable.planned one walk hooks turns c.requires.walked.walk_live c.requires.walked.starts))) c.fill_along.ensures.slots

pub fill_along-requires : goal.fill_along-requires
fill_along-requires g c = record { empty = c.requires.empty }

pub returns-then-nodes-eq1-clause-cost : goal.returns-then-nodes-eq1-clause-cost
returns-then-nodes-eq1-clause-cost g c = row_cost _ _ _ (some_node c.requires.walked.some c.requires.walked.count (few_hooks c.args.plan.now.schema (rule_of c.args.plan.now.table) c.requires.walked.matchable.planned))

pub returns-then-nodes-eq1-clause-least : goal.returns-then-nodes-eq1-clause-least
returns-then-nodes-eq1-clause-least g c = le_refl _

pub returns-then-hooks-eq1-clause-slots : goal.returns-then-hooks-eq1-clause-slots
returns-then-hooks-eq1-clause-slots g c =
    let m = c.args.arena.now in
    let rule = rule_of c.args.plan.now.table in
    on_ok_weaker c.fill_columns.result (λ made. (made.0, made.1, column_rows m rule (names_of m c.args.darts.now) (names_of m c.args.walk.now) c.args.turns.now made.0 _ _ (sym c.hooks.ensures ∙ c.if-hooks-eq1.true) c.requires.walked.starts made.2)) c.fill_columns.ensures.columns

pub returns-then-places-eq1-clause-slots : goal.returns-then-places-eq1-clause-slots
returns-then-places-eq1-clause-slots g c = on_ok_weaker c.fill_edge.result (λ made. made c.args.turns.now) c.fill_edge.ensures.slots

pub fill_edge-requires-clause-one : goal.fill_edge-requires-clause-one
fill_edge-requires-clause-one g c = sym c.requires.places ∙ c.if-places-eq1.true

pub fill_edge-requires-clause-short : goal.fill_edge-requires-clause-short
fill_edge-requires-clause-short g c = c.requires.short c.if-places-eq1.true

pub fill_edge-requires-clause-walked : goal.fill_edge-requires-clause-walked
fill_edge-requires-clause-walked g c = c.requires.walked

pub fill_edge-requires-clause-empty : goal.fill_edge-requires-clause-empty
fill_edge-requires-clause-empty g c = c.requires.empty

pub fill_columns-requires-clause-matchable : goal.fill_columns-requires-clause-matchable
fill_columns-requires-clause-matchable g c = c.requires.walked.matchable

pub fill_columns-requires-clause-one : goal.fill_columns-requires-clause-one
fill_columns-requires-clause-one g c = sym c.hooks.ensures ∙ c.if-hooks-eq1.true

pub fill_columns-requires-clause-some_position : goal.fill_columns-requires-clause-some_position
fill_columns-requires-clause-some_position g c = c.requires.walked.some_position

pub fill_columns-requires-clause-few : goal.fill_columns-requires-clause-few
fill_columns-requires-clause-few g c = c.requires.walked.few

pub fill_columns-requires-clause-walk : goal.fill_columns-requires-clause-walk
fill_columns-requires-clause-walk g c = c.requires.walked.walk_live

pub fill_columns-requires-clause-empty : goal.fill_columns-requires-clause-empty
fill_columns-requires-clause-empty g c = c.requires.empty

pub fill_rows-requires-clause-walked : goal.fill_rows-requires-clause-walked
fill_rows-requires-clause-walked g c = c.requires.walked

pub fill_rows-requires-clause-turns : goal.fill_rows-requires-clause-turns
fill_rows-requires-clause-turns g c = c.requires.turns

pub fill_rows-requires-clause-empty : goal.fill_rows-requires-clause-empty
fill_rows-requires-clause-empty g c = c.requires.empty

pub returns-then-places-eq1-clause-cost : goal.returns-then-places-eq1-clause-cost
returns-then-places-eq1-clause-cost g c = c.fill_edge.ensures.cost

pub returns-then-places-eq1-clause-least : goal.returns-then-places-eq1-clause-least
returns-then-places-eq1-clause-least g c = c.fill_edge.ensures.least

pub returns-then-hooks-eq1-clause-cost : goal.returns-then-hooks-eq1-clause-cost
returns-then-hooks-eq1-clause-cost g c = c.fill_columns.ensures.cost

pub returns-then-hooks-eq1-clause-least : goal.returns-then-hooks-eq1-clause-least
returns-then-hooks-eq1-clause-least g c = c.fill_columns.ensures.least

pub returns-clause-slots : goal.returns-clause-slots
returns-clause-slots g c = c.fill_rows.ensures.slots

pub returns-clause-cost : goal.returns-clause-cost
returns-clause-cost g c = c.fill_rows.ensures.cost

pub returns-clause-least : goal.returns-clause-least
returns-clause-least g c = c.fill_rows.ensures.least
