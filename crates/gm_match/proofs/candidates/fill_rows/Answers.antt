use Rattle.std.proofs.Common.{◌≡◌, ◌+◌, ◌*◌, ◌<◌, ◌≤◌, ◌∙◌, ℕ, Some, [], length, sym, subst, ap, arith}
use Rattle.std.proofs.Math.Nat.{le_refl, le_antisymm, le_trans, mul-le-mul_right}
use Rattle.std.proofs.lemmas.List.{length-take-le}
use Rattle.std.proofs.lemmas.List.Elements.{All-get_or, All-replicate}
use Rattle.gm_model.specs.Rules.{rule_of, width}
use Rattle.std.specs.List.{slice_get}
use Rattle.gm_arena.specs.declared.slot.Slot.{Slot}
use Rattle.gm_arena.specs.inner.ArenaMap.{IsLiveSlot}
use Rattle.gm_plan.specs.inner.Plans.{IsLeftCount}
use Rattle.gm_plan.proofs.Hooks.{few_hooks}
use Rattle.gm_walk.specs.inner.Walks.{AreLive, names_of}
use Rattle.gm_walk.proofs.NameLemmas.{name_there}
use Rattle.gm_match.specs.inner.Layout.{AreRows, dart_in, stepped}
use Rattle.gm_match.proofs.Growing.{first_next, later_next, none_yet, one_first, one_more, wide_row, none_ok}
use Rattle.gm_match.proofs.Costs.{row_cost, row_room, some_node}
use Rattle.gm_match.proofs.Stepping.{same_count}
use Rattle.gm_match.proofs.candidates.fill_rows.Goals as goal

-- ---- room and steps, as sums

room_first : (len items taken rows nodes room : ℕ) → len ≡ items → taken ≡ nodes → 1 ≤ rows → len + rows * nodes ≤ room → items + taken ≤ room
room_first len items taken rows nodes room counts is some fits = omega (arith, mul-le-mul_right nodes some, counts, is, fits)

room_more : (items taken position rows nodes room : ℕ) → position * nodes ≡ items → taken ≡ nodes → position < rows → rows * nodes ≤ room → items + taken ≤ room
room_more items taken position rows nodes room so_far is less fits = omega (arith, mul-le-mul_right nodes less, so_far, is, fits)

still_fits : (items all room room' : ℕ) → room' ≡ room → items + all ≤ room → all ≤ room'
still_fits items all room room' same fits = omega arith

none_below : (j : ℕ) → j < 0 → ⊥
none_below j less = omega arith

still_below : (to position : ℕ) → to < position → to < position + 1
still_below to position less = omega arith

first_paid : (start after darts hooks nodes : ℕ) → after + hooks ≤ start + nodes → 0 < darts → darts ≡ hooks → after + 1 ≤ start + 1 * nodes
first_paid start after darts hooks nodes cost some count = omega arith

more_paid : (start before after position nodes : ℕ) → before + position ≤ start + position * nodes → after + 1 ≤ before + nodes → after + (position + 1) ≤ start + (position + 1) * nodes
more_paid start before after position nodes so_far cost = omega arith

pub first_row-requires : goal.first_row-requires
first_row-requires g c =
    let m = c.args.arena.now in
    record {
      matchable = c.requires.walked.matchable;
      count = c.requires.walked.count;
      live = c.requires.walked.darts_live;
      row = All-replicate (λ (s : Slot). IsLiveSlot m s.at) 32 _ (All-get_or (λ (s : Slot). IsLiveSlot m s.at) c.args.darts.now 0 (record { at = 0 }) c.requires.walked.some c.requires.walked.darts_live);
    }

pub push_row-requires : goal.push_row-requires
push_row-requires g c =
    let nodes = c.left_nodes-nodes.result in
    let made = c.first_row.ensures in
    let wide = wide_row nodes _ c.first_row.new.row c.left_nodes-nodes.ensures.most c.requires.walked.matchable.planned.within.nodes made.row.long in
    record { room = room_first _ _ _ (length c.args.walk.now) nodes _ c.reserve.new.self.ok.0 (length-take-le nodes c.first_row.new.row wide) c.requires.walked.some_position c.in_ok-reserve.ensures.ok }

pub loop-position-init : goal.loop-position-init
loop-position-init g c =
    let m = c.args.arena.now in
    let schema = c.args.plan.now.schema in
    let rule = rule_of c.args.plan.now.table in
    let planned = c.requires.walked.matchable.planned in
    let hooks = names_of m c.args.darts.now in
    let walk = names_of m c.args.walk.now in
    let turns = c.args.turns.now in
    let nodes = c.left_nodes-nodes.result in
    let counts = c.left_nodes-nodes.ensures.left in
    let row = c.first_row.new.row in
    let made = c.first_row.ensures in
    let wide = wide_row nodes _ row c.left_nodes-nodes.ensures.most planned.within.nodes made.row.long in
    let none = none_yet m schema rule planned hooks walk turns nodes counts in
    let next = first_next m schema rule planned hooks walk turns nodes counts row c.requires.walked.starts made.darts in
    record {
      rows = rw (c.push_row.ensures.items, c.reserve.ensures.items, c.requires.empty) (one_more m schema rule planned hooks walk turns nodes counts 0 [] row none made.row wide next);
      row_live = made.row.live;
      capacity = still_fits _ _ _ _ c.push_row.ensures.capacity c.in_ok-reserve.ensures.ok;
      before = λ j less. absurd (none_below j less);
      cost = first_paid _ _ _ _ _ made.cost c.requires.walked.some c.requires.walked.count;
      least = made.least;
    }

pub next_turn-turn-requires-clause-some : goal.next_turn-turn-requires-clause-some
next_turn-turn-requires-clause-some g c =
    let first = c.requires.turns c.loop-position.position c.loop-position.auto.position c.loop-position-test.true in
    (first.0, first.2)

pub later_row-requires-clause-turn : goal.later_row-requires-clause-turn
later_row-requires-clause-turn g c = λ several count counts.
    let rule = rule_of c.args.plan.now.table in
    let p = c.loop-position.position in
    let turns = c.args.turns.now in
    let turn = c.next_turn-turn.result in
    let first = c.requires.turns p c.loop-position.auto.position c.loop-position-test.true in
    let long = c.loop-position.invariant.rows.along.long ∙ ap length (sym c.deref.ensures.value) in (
      p,
      subst (λ n. p * n ≡ length c.deref.result.now) (same_count rule c.left_nodes-nodes.result count c.left_nodes-nodes.ensures.left counts) long,
      subst (λ k. k < p * width rule) (one_first turns p first.0 turn first.2 c.next_turn-turn.ensures.first) first.1,
    )

pub push_row-requires-in-loop-position : goal.push_row-requires-in-loop-position
push_row-requires-in-loop-position g c =
    let nodes = c.left_nodes-nodes.result in
    let i = c.loop-position.invariant in
    let made = c.later_row.ensures in
    let wide = wide_row nodes _ c.later_row.new.row c.left_nodes-nodes.ensures.most c.requires.walked.matchable.planned.within.nodes made.row.long in
    record { room = room_more _ _ c.loop-position.position (length c.args.walk.now) nodes _ i.rows.along.long (length-take-le nodes c.later_row.new.row wide) c.loop-position-test.true i.capacity }

pub loop-position-preserved : goal.loop-position-preserved
loop-position-preserved g c =
    let m = c.args.arena.now in
    let schema = c.args.plan.now.schema in
    let rule = rule_of c.args.plan.now.table in
    let planned = c.requires.walked.matchable.planned in
    let hooks = names_of m c.args.darts.now in
    let walk = names_of m c.args.walk.now in
    let turns = c.args.turns.now in
    let nodes = c.left_nodes-nodes.result in
    let counts = c.left_nodes-nodes.ensures.left in
    let p = c.loop-position.position in
    let turn = c.next_turn-turn.result in
    let slots = c.loop-position.slots.items in
    let row = c.later_row.new.row in
    let made = c.later_row.ensures in
    let i = c.loop-position.invariant in
    let wide = wide_row nodes _ row c.left_nodes-nodes.ensures.most planned.within.nodes made.row.long in
    let along = sym (name_there m c.args.walk.now p (record { at = 0 }) c.loop-position-test.true) in
    let next = later_next m schema rule planned hooks walk turns nodes counts p turn slots row _ c.loop-position.auto.position (λ several. c.next_turn-turn.ensures.first) along made.first
    (subst (λ xs. (t h count : ℕ) → 0 < t → slice_get rule.hooks t ≡ Some h → IsLeftCount rule count → dart_in m row h ≡ stepped m rule count xs turn h) c.deref.ensures.value made.later) in
    record {
      rows = rw c.push_row-in-loop-position.ensures.items (one_more m schema rule planned hooks walk turns nodes counts p slots row i.rows made.row wide next);
      row_live = made.row.live;
      capacity = subst (λ room. length c.args.walk.now * nodes ≤ room) (sym c.push_row-in-loop-position.ensures.capacity) i.capacity;
      before = λ j less. still_below _ p (c.next_turn-turn.ensures.before j less);
      cost = more_paid _ _ _ p _ i.cost made.cost;
      least = le_trans i.least made.least;
    }

pub returns : goal.returns
returns g c =
    let m = c.args.arena.now in
    let end = le_antisymm (c.loop-position.auto.position-end c.requires.walked.some_position) c.loop-position-test.false in
    record {
      slots = (
        c.left_nodes-nodes.result,
        c.left_nodes-nodes.ensures.left,
        subst (λ n. AreRows m (rule_of c.args.plan.now.table) (names_of m c.args.darts.now) (names_of m c.args.walk.now) c.args.turns.now c.left_nodes-nodes.result n c.loop-position.slots.items) end c.loop-position.invariant.rows,
      );
      cost = subst (λ p. c.loop-position.steps + p ≤ c.args.steps.now + p * length (rule_of c.args.plan.now.table).nodes) end c.loop-position.invariant.cost;
      least = c.loop-position.invariant.least;
    }

pub overflow_mul-walk : goal.overflow_mul-walk
overflow_mul-walk g c = omega (arith, row_room _ _ _ c.requires.walked.few c.left_nodes-nodes.ensures.most c.requires.walked.matchable.planned.within.nodes)

pub returns-in_err-reserve-clause-slots : goal.returns-in_err-reserve-clause-slots
returns-in_err-reserve-clause-slots g c = none_ok c.from_residual.result _ c.from_residual.ensures.0

pub returns-in_err-reserve-clause-cost : goal.returns-in_err-reserve-clause-cost
returns-in_err-reserve-clause-cost g c = row_cost _ _ _ (some_node c.requires.walked.some c.requires.walked.count (few_hooks c.args.plan.now.schema (rule_of c.args.plan.now.table) c.requires.walked.matchable.planned))

pub returns-in_err-reserve-clause-least : goal.returns-in_err-reserve-clause-least
returns-in_err-reserve-clause-least g c = le_refl _

pub slice_bounds-row-end : goal.slice_bounds-row-end
slice_bounds-row-end g c = wide_row c.left_nodes-nodes.result _ c.first_row.new.row c.left_nodes-nodes.ensures.most c.requires.walked.matchable.planned.within.nodes c.first_row.ensures.row.long

pub slice_bounds-push_row-end : goal.slice_bounds-push_row-end
slice_bounds-push_row-end g c =
    let wide = wide_row c.left_nodes-nodes.result _ c.first_row.new.row c.left_nodes-nodes.ensures.most c.requires.walked.matchable.planned.within.nodes c.first_row.ensures.row.long in
    sym (length-take-le c.left_nodes-nodes.result c.first_row.new.row wide)

pub overflow_cast-position : goal.overflow_cast-position
overflow_cast-position g c = omega (arith, c.loop-position-test.true, c.requires.walked.few)

pub next_turn-turn-requires-clause-before : goal.next_turn-turn-requires-clause-before
next_turn-turn-requires-clause-before g c = c.loop-position.invariant.before

pub offset_bounds-walk-position : goal.offset_bounds-walk-position
offset_bounds-walk-position g c = omega (arith, c.loop-position-test.true, c.requires.walked.few)

pub bounds-walk-position : goal.bounds-walk-position
bounds-walk-position g c = c.loop-position-test.true

pub later_row-requires-clause-matchable : goal.later_row-requires-clause-matchable
later_row-requires-clause-matchable g c = c.requires.walked.matchable

pub later_row-requires-clause-some : goal.later_row-requires-clause-some
later_row-requires-clause-some g c = subst (λ n. 0 < n) c.requires.walked.count c.requires.walked.some

pub later_row-requires-clause-first : goal.later_row-requires-clause-first
later_row-requires-clause-first g c = c.requires.walked.walk_live c.loop-position.position (record { at = 0 }) c.loop-position-test.true

pub later_row-requires-clause-slots : goal.later_row-requires-clause-slots
later_row-requires-clause-slots g c = subst (AreLive c.args.arena.now) (sym c.deref.ensures.value) c.loop-position.invariant.rows.along.live

pub later_row-requires-clause-row : goal.later_row-requires-clause-row
later_row-requires-clause-row g c = c.loop-position.invariant.row_live

pub slice_bounds-row-end-in-loop-position : goal.slice_bounds-row-end-in-loop-position
slice_bounds-row-end-in-loop-position g c = wide_row c.left_nodes-nodes.result _ c.later_row.new.row c.left_nodes-nodes.ensures.most c.requires.walked.matchable.planned.within.nodes c.later_row.ensures.row.long

pub slice_bounds-push_row-end-in-loop-position : goal.slice_bounds-push_row-end-in-loop-position
slice_bounds-push_row-end-in-loop-position g c =
    let wide = wide_row c.left_nodes-nodes.result _ c.later_row.new.row c.left_nodes-nodes.ensures.most c.requires.walked.matchable.planned.within.nodes c.later_row.ensures.row.long in
    sym (length-take-le c.left_nodes-nodes.result c.later_row.new.row wide)
