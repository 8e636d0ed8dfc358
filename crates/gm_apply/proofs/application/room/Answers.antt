use Rattle.std.proofs.Common.{◌≡◌, ◌-◌, ◌*◌, ap₂, ◌∙◌, arith}
use Rattle.gm_model.specs.Rules.{rule_of}
use Rattle.gm_plan.specs.inner.Counts.{removed_nodes}
use Rattle.gm_apply.proofs.Applying.{few_go, no_room, no_names, has_room}
use Rattle.gm_apply.proofs.application.room.Goals as goal

pub overflow_sub-live : goal.overflow_sub-live
overflow_sub-live c =
    let few = few_go c.args.arena.now c.count.ensures.lawful (rule_of c.args.plan.now.table) c.requires.found.0 c.args.found.now c.requires.found.1 in
    let gone : c.from-positions.result * c.from-2.result ≡ c.args.found.now.positions * removed_nodes (rule_of c.args.plan.now.table) = ap₂ ◌*◌ (c.from-positions.ensures ∙ c.positions.ensures.value) (c.from-2.ensures ∙ c.removed.ensures) in
    let count : c.from-3.result ≡ c.args.arena.now.count = c.from-3.ensures ∙ c.count-2.ensures.count in
    omega (arith, few, gone, count)

pub returns-then-live-more : goal.returns-then-live-more
returns-then-live-more c = record {
  fits = tt;
  room = λ hooks params answer met.
      no_room c.args.arena.now c.count.ensures.lawful (rule_of c.args.plan.now.table) hooks c.args.found.now answer params met (c.from-3.result - c.from-positions.result * c.from-2.result) (c.from-positions.result * c.from.result)
      (ap₂ ◌-◌ (c.from-3.ensures ∙ c.count-2.ensures.count) (ap₂ ◌*◌ (c.from-positions.ensures ∙ c.positions.ensures.value) (c.from-2.ensures ∙ c.removed.ensures)))
      (ap₂ ◌*◌ (c.from-positions.ensures ∙ c.positions.ensures.value) (c.from.ensures ∙ c.added.ensures)) (rw c.from-4.ensures at c.if-live-more.true);
}

pub returns-then-from-more : goal.returns-then-from-more
returns-then-from-more c = record {
  fits = tt;
  room = λ hooks params answer met.
      let next : c.next-next.result ≡ c.args.arena.now.next = c.next-next.ensures.next in
      rw next (no_names c.args.arena.now c.count.ensures.lawful (rule_of c.args.plan.now.table) hooks c.args.found.now answer params met (c.from-3.result - c.from-positions.result * c.from-2.result) (c.from-positions.result * c.from.result)
      (ap₂ ◌-◌ (c.from-3.ensures ∙ c.count-2.ensures.count) (ap₂ ◌*◌ (c.from-positions.ensures ∙ c.positions.ensures.value) (c.from-2.ensures ∙ c.removed.ensures)))
      (ap₂ ◌*◌ (c.from-positions.ensures ∙ c.positions.ensures.value) (c.from.ensures ∙ c.added.ensures)) (rw c.from-4.ensures at c.if-live-more.false)
      (let more = c.if-from-more.true in let from = c.from-5.ensures in let most = c.from-6.ensures in omega (arith, more, from, most, next)));
}

pub overflow_cast-result-3 : goal.overflow_cast-result-3
overflow_cast-result-3 c =
    let few = few_go c.args.arena.now c.count.ensures.lawful (rule_of c.args.plan.now.table) c.requires.found.0 c.args.found.now c.requires.found.1 in
    let gone : c.from-positions.result * c.from-2.result ≡ c.args.found.now.positions * removed_nodes (rule_of c.args.plan.now.table) = ap₂ ◌*◌ (c.from-positions.ensures ∙ c.positions.ensures.value) (c.from-2.ensures ∙ c.removed.ensures) in
    let count = c.count-2.ensures.count in
    let most = c.count-2.type_inv in
    omega (arith, few, gone, count, most)

pub returns : goal.returns
returns c = record {
  fits =
      let few = few_go c.args.arena.now c.count.ensures.lawful (rule_of c.args.plan.now.table) c.requires.found.0 c.args.found.now c.requires.found.1 in
      let gone : c.from-positions.result * c.from-2.result ≡ c.args.found.now.positions * removed_nodes (rule_of c.args.plan.now.table) = ap₂ ◌*◌ (c.from-positions.ensures ∙ c.positions.ensures.value) (c.from-2.ensures ∙ c.removed.ensures) in
      let count : c.from-3.result ≡ c.args.arena.now.count = c.from-3.ensures ∙ c.count-2.ensures.count in
      let most = rw c.from-4.ensures at c.if-live-more.false in
      omega (arith, few, gone, count, most);
  room = λ hooks params answer met.
      has_room c.args.arena.now c.count.ensures.lawful (rule_of c.args.plan.now.table) hooks c.args.found.now answer params met (c.from-3.result - c.from-positions.result * c.from-2.result) (c.from-positions.result * c.from.result) (c.from-positions.result * c.from-2.result)
      (ap₂ ◌-◌ (c.from-3.ensures ∙ c.count-2.ensures.count) (ap₂ ◌*◌ (c.from-positions.ensures ∙ c.positions.ensures.value) (c.from-2.ensures ∙ c.removed.ensures)))
      (ap₂ ◌*◌ (c.from-positions.ensures ∙ c.positions.ensures.value) (c.from.ensures ∙ c.added.ensures))
      (ap₂ ◌*◌ (c.from-positions.ensures ∙ c.positions.ensures.value) (c.from-2.ensures ∙ c.removed.ensures))
      (rw c.from-4.ensures at c.if-live-more.false)
      (let more = c.if-from-more.false in let from = c.from-5.ensures in let most = c.from-6.ensures in let next = c.next-next.ensures.next in omega (arith, more, from, most, next));
}
