use Rattle.std.proofs.Common.{◌≡◌, ◌*◌, ◌/◌, length, ap, ◌∙◌, arith}
use Rattle.gm_plan.proofs.Placing.{whole_rows}
use Rattle.gm_plan.proofs.instances.Instances.new.Goals as goal

pub nonzero_div-nodes : goal.nonzero_div-nodes
nonzero_div-nodes c = omega (arith, c.requires.some_position)

pub with_nodes-requires-clause-some_position : goal.with_nodes-requires-clause-some_position
with_nodes-requires-clause-some_position c = c.requires.some_position

pub with_nodes-requires-clause-slots : goal.with_nodes-requires-clause-slots
with_nodes-requires-clause-slots c =
    let long : c.len.result ≡ length c.args.slots.items = omega (arith, c.len.ensures) in
    ap (λ n. c.args.positions * (n / c.args.positions)) long ∙ whole_rows c.args.positions (length c.args.slots.items) c.requires.some_position c.requires.slots

pub with_nodes-requires-clause-turns : goal.with_nodes-requires-clause-turns
with_nodes-requires-clause-turns c = c.requires.turns

pub with_nodes-requires-clause-turns_within : goal.with_nodes-requires-clause-turns_within
with_nodes-requires-clause-turns_within c = c.requires.turns_within

pub returns-clause-slots : goal.returns-clause-slots
returns-clause-slots c = c.with_nodes.ensures.slots

pub returns-clause-turns : goal.returns-clause-turns
returns-clause-turns c = c.with_nodes.ensures.turns

pub returns-clause-positions : goal.returns-clause-positions
returns-clause-positions c = c.with_nodes.ensures.positions

pub returns-clause-places : goal.returns-clause-places
returns-clause-places c = c.with_nodes.ensures.places

pub returns-clause-nodes : goal.returns-clause-nodes
returns-clause-nodes c =
    let long : c.len.result ≡ length c.args.slots.items = omega (arith, c.len.ensures) in
    ap (λ n. c.args.positions * n) c.with_nodes.ensures.nodes ∙ ap (λ n. c.args.positions * (n / c.args.positions)) long
    ∙ whole_rows c.args.positions (length c.args.slots.items) c.requires.some_position c.requires.slots
