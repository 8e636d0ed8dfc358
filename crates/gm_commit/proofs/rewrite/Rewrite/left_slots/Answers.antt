use Rattle.std.proofs.Common.{◌≡◌, ◌+◌, ◌*◌, length, ap, ◌∙◌, arith}
use Rattle.std.proofs.lemmas.Nat.{mul-le}
use Rattle.gm_model.proofs.Exits.{unless_ok}
use Rattle.gm_commit.specs.inner.InstanceEdits.{told_by, concat_below, left_slots_of}
use Rattle.gm_commit.proofs.on_rewrite.JoinedLists.{put_next}
use Rattle.gm_commit.proofs.on_rewrite.SlotTable.{some_long, one_more, rest_of_room}
use Rattle.gm_commit.proofs.rewrite.Rewrite.left_slots.Goals as goal

pub put_left_slots-requires-clause-room : goal.put_left_slots-requires-clause-room
put_left_slots-requires-clause-room c =
    let own = told_by c.args.self.now in
    let long : length c.loop-node.slots.items ≡ c.loop-node.node * own.placed.positions = ap length c.loop-node.invariant.items ∙ some_long own c.loop-node.node in
    rw long (one_more c.loop-node.node c.args.left c.args.added own.placed.positions _ c.loop-node-test.true c.loop-node.invariant.room)

pub returns-clause-slots : goal.returns-clause-slots
returns-clause-slots c =
    let own = told_by c.args.self.now in
    let end : c.loop-node.node ≡ own.placed.nodes = omega (arith, c.loop-node-test.false, c.loop-node.auto.node-end, c.requires) in
    c.loop-node.invariant.items ∙ ap (concat_below (left_slots_of own)) end

pub returns-clause-room : goal.returns-clause-room
returns-clause-room c =
    let own = told_by c.args.self.now in
    let end : c.loop-node.node ≡ c.args.left = omega (arith, c.loop-node-test.false, c.loop-node.auto.node-end) in
    let long : length c.loop-node.slots.items ≡ c.args.left * own.placed.positions = ap length c.loop-node.invariant.items ∙ some_long own c.loop-node.node ∙ ap (λ n. n * own.placed.positions) end in
    rw long (rest_of_room c.args.left c.args.added own.placed.positions _ c.loop-node.invariant.room)

pub overflow_mul-nodes : goal.overflow_mul-nodes
overflow_mul-nodes c = omega (arith, mul-le (c.args.left + c.args.added) c.positions.result 510 4294967295 (omega arith) (omega arith))

pub returns-in_err-reserve-clause-slots : goal.returns-in_err-reserve-clause-slots
returns-in_err-reserve-clause-slots c = unless_ok _ c.from_residual.result c.from_residual.ensures.0

pub returns-in_err-reserve-clause-room : goal.returns-in_err-reserve-clause-room
returns-in_err-reserve-clause-room c = unless_ok _ c.from_residual.result c.from_residual.ensures.0

pub loop-node-init : goal.loop-node-init
loop-node-init c = record {
  items = c.reserve.ensures.items ∙ c.clear.ensures.items;
  room = rw (← c.positions.ensures) (omega (arith, c.in_ok-reserve.ensures.ok));
}

pub put_left_slots-requires-clause-left : goal.put_left_slots-requires-clause-left
put_left_slots-requires-clause-left c = omega (arith, c.loop-node-test.true, c.requires)

pub loop-node-preserved : goal.loop-node-preserved
loop-node-preserved c = record {
  items = put_next (left_slots_of (told_by c.args.self.now)) c.loop-node.slots.items c.put_left_slots.new.slots.items c.loop-node.node c.put_left_slots.ensures.slots c.loop-node.invariant.items;
  room = rw c.put_left_slots.ensures.capacity c.loop-node.invariant.room;
}
