use Rattle.std.proofs.Common.{◌+◌, ◌*◌, inl, inr, length, sym, ◌∙◌, arith}
use Rattle.std.proofs.Math.Nat.{le_refl}
use Rattle.std.proofs.lemmas.List.Elements.{All-set, All-get_or}
use Rattle.gm_arena.specs.declared.slot.Slot.{Slot}
use Rattle.gm_arena.specs.inner.ArenaMap.{IsLiveSlot, alpha}
use Rattle.gm_walk.proofs.NameLemmas.{live_at}
use Rattle.gm_match.specs.inner.Layout.{dart_at}
use Rattle.gm_match.proofs.Column.{place_within, column_begun, column_next, led_on, place_low, start_low}
use Rattle.gm_match.proofs.Paths.{row_name}
use Rattle.gm_match.proofs.columns.follow_link.Goals as goal

pub loop-position-init : goal.loop-position-init
loop-position-init g c = record {
  so_far = column_begun c.args.arena.now c.args.nodes c.args.link.to (λ p. alpha c.args.arena.now c.args.link.label (dart_at c.args.arena.now c.args.nodes c.args.slots.now c.args.link.from p)) c.args.slots.now;
  live = c.requires.live;
  cost = omega arith;
}

pub loop-position-preserved : goal.loop-position-preserved
loop-position-preserved g c =
    let m = c.args.arena.now in
    let nodes = c.args.nodes in
    let link = c.args.link in
    let p = c.loop-position.position in
    let i = c.loop-position.invariant in
    let old = c.args.slots.now in
    let slots = c.loop-position.slots in
    let long = c.requires.long ∙ sym i.so_far.long in
    let read = place_within c.args.rows nodes p link.from (length slots) long c.loop-position-test.true c.requires.from in
    let room = place_within c.args.rows nodes p link.to (length slots) long c.loop-position-test.true c.requires.to in
    let from = row_name m slots (p * nodes + link.from) (record { at = 0 }) read ∙ i.so_far.stays link.from p c.requires.from (inr (le_refl p)) in
    record {
      so_far = column_next m nodes link.to (λ q. alpha m link.label (dart_at m nodes old link.from q)) old p slots c.alpha.result c.requires.to room (led_on m nodes old link.from p link.label _ c.alpha.result from c.alpha.ensures.neighbour) i.so_far;
      live = All-set (λ (s : Slot). IsLiveSlot m s.at) slots (p * nodes + link.to) c.alpha.result (live_at m c.alpha.result.at _ c.alpha.ensures.neighbour) i.live;
      cost = omega (arith, i.cost, c.alpha.ensures.cost);
    }

pub overflow_mul-start : goal.overflow_mul-start
overflow_mul-start g c = omega (arith, start_low c.args.rows c.args.nodes c.loop-position.position c.requires.few c.loop-position-test.true)

pub overflow_add-from : goal.overflow_add-from
overflow_add-from g c = omega (arith, place_low c.args.rows c.args.nodes c.loop-position.position c.args.link.from c.requires.few c.loop-position-test.true c.requires.from)

pub overflow_add-start : goal.overflow_add-start
overflow_add-start g c = omega (arith, place_low c.args.rows c.args.nodes c.loop-position.position c.args.link.to c.requires.few c.loop-position-test.true c.requires.to)

pub bounds-slots-start : goal.bounds-slots-start
bounds-slots-start g c = place_within c.args.rows c.args.nodes c.loop-position.position c.args.link.to (length c.loop-position.slots) (c.requires.long ∙ sym c.loop-position.invariant.so_far.long) c.loop-position-test.true c.requires.to

pub alpha-requires-clause-live : goal.alpha-requires-clause-live
alpha-requires-clause-live g c = All-get_or (λ (s : Slot). IsLiveSlot c.args.arena.now s.at) c.loop-position.slots (c.loop-position.position * c.args.nodes + c.args.link.from) (record { at = 0 }) (place_within c.args.rows c.args.nodes c.loop-position.position c.args.link.from (length c.loop-position.slots) (c.requires.long ∙ sym c.loop-position.invariant.so_far.long) c.loop-position-test.true c.requires.from) c.loop-position.invariant.live

pub alpha-requires-clause-label : goal.alpha-requires-clause-label
alpha-requires-clause-label g c = c.requires.label

pub returns-clause-live : goal.returns-clause-live
returns-clause-live g c = c.loop-position.invariant.live

pub returns-clause-long : goal.returns-clause-long
returns-clause-long g c = c.loop-position.invariant.so_far.long

pub returns-clause-led : goal.returns-clause-led
returns-clause-led g c = λ p less. c.loop-position.invariant.so_far.made p (omega (arith, less, c.loop-position-test.false))

pub returns-clause-stays : goal.returns-clause-stays
returns-clause-stays g c = λ x p within apart. c.loop-position.invariant.so_far.stays x p within (inl apart)

pub returns-clause-cost : goal.returns-clause-cost
returns-clause-cost g c = omega (arith, c.loop-position.invariant.cost, c.loop-position-test.false, c.loop-position.auto.position-end)

pub loop-position-smaller : goal.loop-position-smaller
loop-position-smaller g c = omega (arith, c.loop-position-test.true)
