use Rattle.std.proofs.Common.{◌≡◌, ℕ, ◌+◌, ◌*◌, ◌≤◌, length, subst, ◌∙◌, sym, arith}
use Rattle.std.proofs.lemmas.Nat.{mul-le}
use Rattle.gm_commit.specs.inner.NewDartValues.{AreKeptValues, new_number}
use Rattle.gm_pending.specs.inner.Results.{PendingOf, rule_in}
use Rattle.gm_commit.proofs.on_new_darts.NodesInTurn.{first_dart, next_node, all_darts, few_darts}
use Rattle.gm_commit.proofs.on_new_darts.KeptValues.{none_kept}
use Rattle.gm_commit.proofs.on_rewrite.EndsOfInstances.{other_added}
use Rattle.gm_commit.proofs.new_darts.kept_values.Goals as goal
use Rattle.gm_commit.proofs.new_darts.kept_values.Given.{Over}

-- the darts of one node more
in_turn : (app : PendingOf) (x width start before after : ℕ) → app.placed.nodes ≤ x → before ≤ start + new_number app x 0 * width → after ≤ before + app.placed.positions * width → after ≤ start + new_number app (x + 1) 0 * width
in_turn app x width start before after h so_far more =
    let next : new_number app (x + 1) 0 ≡ new_number app x 0 + app.placed.positions = next_node app x h ∙ omega arith in
    let all : (new_number app x 0 + app.placed.positions) * width ≡ new_number app x 0 * width + app.placed.positions * width = grind arith in
    rw next (omega (arith, all))

pub loop-node-init : goal.loop-node-init
loop-node-init g c =
    let none : new_number c.args.pending.now c.left_nodes-node.result 0 ≡ 0 = rw c.left_nodes-node.ensures.left (first_dart c.args.pending.now) in
    record { right = omega (arith, c.left_nodes-node.ensures.left); so_far = rw (none, c.in_ok-values.ensures.items) (none_kept c.args.pending.now); cost = omega arith; least = omega arith }

pub returns-in_err-put_kept_values_of_node-clause-cost : goal.returns-in_err-put_kept_values_of_node-clause-cost
returns-in_err-put_kept_values_of_node-clause-cost g c =
    let few : new_number c.args.pending.now (c.loop-node.node + 1) 0 ≤ c.args.added = omega (arith, c.requires, few_darts c.args.pending.now c.nodes-node-end.ensures.prepared (c.loop-node.node + 1) (omega (arith, c.loop-node-test.true, c.nodes-node-end.ensures.nodes))) in
    omega (arith, in_turn c.args.pending.now c.loop-node.node _ c.args.steps.now c.loop-node.steps c.put_kept_values_of_node.new.steps c.loop-node.invariant.right c.loop-node.invariant.cost c.put_kept_values_of_node.ensures.cost, mul-le (new_number c.args.pending.now (c.loop-node.node + 1) 0) (length c.args.pending.now.map.schema.embeds) c.args.added (length c.args.pending.now.map.schema.embeds) few (omega arith))

pub loop-node-preserved : goal.loop-node-preserved
loop-node-preserved g c = record {
  right = omega (arith, c.loop-node.invariant.right);
  so_far = subst (λ n. AreKeptValues c.args.pending.now n c.put_kept_values_of_node.new.values.items) (sym (next_node c.args.pending.now c.loop-node.node c.loop-node.invariant.right)) c.in_ok-put_kept_values_of_node.ensures.values;
  cost = in_turn c.args.pending.now c.loop-node.node _ c.args.steps.now c.loop-node.steps c.put_kept_values_of_node.new.steps c.loop-node.invariant.right c.loop-node.invariant.cost c.put_kept_values_of_node.ensures.cost;
  least = omega (arith, c.loop-node.invariant.least, c.put_kept_values_of_node.ensures.least);
}

all_put : (g : Over) (c : goal.After-loop-node g) → new_number c.args.pending.now c.loop-node.node 0 ≡ c.args.added
all_put g c =
    let end : c.loop-node.node ≡ length (rule_in c.args.pending.now).nodes = omega (arith, c.loop-node-test.false, c.loop-node.auto.node-end, c.nodes-node-end.ensures.nodes, c.left_nodes-node.ensures.most) in
    rw (end, c.requires) (all_darts c.args.pending.now c.nodes-node-end.ensures.prepared)

pub returns-clause-values : goal.returns-clause-values
returns-clause-values g c = subst (λ n. AreKeptValues c.args.pending.now n c.loop-node.values.items) (all_put g c) c.loop-node.invariant.so_far

pub returns-clause-cost : goal.returns-clause-cost
returns-clause-cost g c = subst (λ n. c.loop-node.steps ≤ c.args.steps.now + n * length c.args.pending.now.map.schema.embeds) (all_put g c) c.loop-node.invariant.cost

pub put_kept_values_of_node-requires-clause-earlier : goal.put_kept_values_of_node-requires-clause-earlier
put_kept_values_of_node-requires-clause-earlier g c = c.loop-node.invariant.so_far

pub returns-in_err-values-clause-cost : goal.returns-in_err-values-clause-cost
returns-in_err-values-clause-cost g c = omega arith

pub returns-in_err-values-clause-least : goal.returns-in_err-values-clause-least
returns-in_err-values-clause-least g c = omega arith

pub returns-in_err-put_kept_values_of_node-clause-least : goal.returns-in_err-put_kept_values_of_node-clause-least
returns-in_err-put_kept_values_of_node-clause-least g c = omega (arith, c.loop-node.invariant.least, c.put_kept_values_of_node.ensures.least)

pub returns-clause-least : goal.returns-clause-least
returns-clause-least g c = c.loop-node.invariant.least

pub put_kept_values_of_node-requires-clause-added : goal.put_kept_values_of_node-requires-clause-added
put_kept_values_of_node-requires-clause-added g c = other_added c.args.pending.now c.nodes-node-end.ensures.prepared c.loop-node.node c.loop-node.invariant.right (omega (arith, c.loop-node-test.true, c.nodes-node-end.ensures.nodes))
