use Rattle.std.proofs.Common.{◌≡◌, ℕ, not, ◌+◌, ◌-◌, ◌*◌, ◌<◌, ◌≤◌, ◌∷◌, [], ◌++◌, length, take, drop, get_or, None, refl, sym, ap, subst, ◌∙◌, arith}
use Rattle.std.proofs.lemmas.List.{length_push}
use Rattle.std.specs.FinMap.{get}
use Rattle.std.specs.Slice.Iter.{chunks_exact_rest}
use Rattle.gm_arena.specs.inner.ArenaMap.{IsAt}
use Rattle.gm_arena.specs.declared.slot.Slot.{Slot}
use Rattle.gm_model.specs.declared.schema.Schema.{Schema}
use Rattle.gm_mapfile.specs.MapText.{rows_of}
use Rattle.gm_mapfile.specs.inner.Rows.{row_in, valued, darts_in}
use Rattle.gm_mapfile.specs.inner.Building.{AreAdded, AreValued}
use Rattle.gm_mapfile.proofs.Chunks.{fewer_lines, byte_fits, width_fits, width_some, name_of_line, none_left, darts_end, rows_of_darts_in, length_darts_in}
use Rattle.gm_mapfile.proofs.Adding.{answered_none, answered_some, answered_on}
use Rattle.gm_mapfile.proofs.AddedDarts.{HasDarts, has_none, has_more_named, has_again_named, line_split, line_good, line_spare, line_long, line_values, line_below, width_read, behind_read, values_read, good_read, schema_kept}
use Rattle.gm_mapfile.proofs.building.add_darts.Goals as goal

-- steps, and a rest that is no line, as plain numbers
none_most : (first : ℕ) → first ≤ first + 2 * 0
none_most first = omega arith

none_least : (first : ℕ) → first + 0 ≤ first
none_least first = omega arith

added_most : (first before between after k more : ℕ) → before ≤ first + 2 * k → more ≡ k + 1 → between ≤ before + 1 → after ≡ between + 1 → after ≤ first + 2 * more
added_most first before between after k more most one there cost = omega (arith, most, one, there, cost)

added_least : (first before between after k more : ℕ) → first + k ≤ before → more ≡ k + 1 → before ≤ between → after ≡ between + 1 → first + more ≤ after
added_least first before between after k more least one there cost = omega (arith, least, one, there, cost)

found_most : (first before after k more : ℕ) → before ≤ first + 2 * k → more ≡ k + 1 → after ≡ before + 1 → after ≤ first + 2 * more
found_most first before after k more most one cost = omega (arith, most, one, cost)

found_least : (first before after k more : ℕ) → first + k ≤ before → more ≡ k + 1 → after ≡ before + 1 → first + more ≤ after
found_least first before after k more least one cost = omega (arith, least, one, cost)

no_less : (lines spare : ℕ) → lines ≤ spare - 1 → lines ≤ spare
no_less lines spare few = omega (arith, few)

all_short : (rest size n : ℕ) → rest < size → size ≡ n + 2 → rest < n + 2
all_short rest size n short wide = omega (arith, short, wide)

pub loop-line-init : goal.loop-line-init
loop-line-init g c =
    let schema = c.args.arena.now.schema in
    let n = schema.dim in
    let rest : chunks_exact_rest c.into_iter-line-iterator.result ≡ c.args.numbers.now = cc (c.into_iter-line-iterator.ensures.into_iter_gives, c.chunks_exact-line-items.ensures.rest) in
    record {
      front = [];
      size = cc (c.into_iter-line-iterator.ensures.into_iter_gives, c.chunks_exact-line-items.ensures.size, c.top.ensures.value, c.schema-2.ensures);
      split = ap (λ numbers. darts_in schema numbers c.args.values.now) rest;
      schema = refl;
      room = rw rest c.requires.spare;
      reserved = refl;
      long = rw rest c.requires.room.long;
      good = rw rest c.requires.room.good;
      has = has_none n c.args.arena.now c.requires.fresh;
      most = none_most c.args.steps.now;
      least = none_least c.args.steps.now;
    }

pub split_at-requires : goal.split_at-requires
split_at-requires g c =
    let schema = c.args.arena.now.schema in
    let before = c.loop-line.invariant in
    let steps = c.in-Some.ensures.steps in
    let within = line_values schema _ c.in-Some.line.now _ c.loop-line.rest.now steps.1.0 (steps.1.1 ∙ before.size) before.long in
    subst (λ n. n ≤ length c.loop-line.rest.now) (sym (width_read c.as_slice-width.result.now c.schema.result.now schema c.as_slice-width.ensures c.schema.ensures)) within

pub add-requires-clause-reserved : goal.add-requires-clause-reserved
add-requires-clause-reserved g c =
    let before = c.loop-line.invariant in
    let steps = c.in-Some.ensures.steps in
    let below = line_below c.args.arena.now.schema before.front c.args.numbers.now _ c.in-Some.line.now _ c.args.values.now c.loop-line.rest.now before.split steps.1.0 (steps.1.1 ∙ before.size) c.args.arena.now.reserved c.requires.reserved in
    subst (λ (bound : ℕ). get_or c.in-Some.line.now 0 0 < bound) (sym before.reserved) below

pub add-requires-clause-values : goal.add-requires-clause-values
add-requires-clause-values g c =
    let schema = c.args.arena.now.schema in
    let before = c.loop-line.invariant in
    let steps = c.in-Some.ensures.steps in
    let width = width_read c.as_slice-width.result.now c.schema.result.now schema c.as_slice-width.ensures c.schema.ensures in
    let good = line_good schema _ c.in-Some.line.now _ c.loop-line.rest.now (drop (length schema.embeds) c.loop-line.rest.now) steps.1.0 (steps.1.1 ∙ before.size) refl before.good in
    good_read schema (length c.as_slice-width.result.now) c.loop-line.rest.now c.split_at.result.0.now c.split_at.result.1.now width c.loop-line.arena.schema before.schema c.split_at.ensures.front good.0

pub add-requires-clause-room : goal.add-requires-clause-room
add-requires-clause-room g c =
    let schema = c.args.arena.now.schema in
    let before = c.loop-line.invariant in
    let steps = c.in-Some.ensures.steps in
    let values = c.loop-line.rest.now in
    (line_spare schema _ c.in-Some.line.now _ values (drop (length schema.embeds) values) steps.1.0 (steps.1.1 ∙ before.size) refl c.loop-line.arena.spare before.room).0

pub add-requires-clause-new_name : goal.add-requires-clause-new_name
add-requires-clause-new_name g c =
    answered_none (get c.loop-line.arena.darts (get_or c.in-Some.line.now 0 0) ≡ None) (λ (s : Slot). IsAt c.loop-line.arena s.at (get_or c.in-Some.line.now 0 0)) c.slot_there.result c.slot_there.ensures.slot (c.is_none.ensures ∙ ap not c.if-is_none.true)

pub loop-line-preserved-then-is_none : goal.loop-line-preserved-then-is_none
loop-line-preserved-then-is_none g c =
    let schema = c.args.arena.now.schema in
    let n = schema.dim in
    let before = c.loop-line.invariant in
    let steps = c.in-Some.ensures.steps in
    let line = c.in-Some.line.now in
    let name = get_or line 0 0 in
    let named = name_of_line line in
    let values = c.loop-line.rest.now in
    let others = c.split_at.result.1.now in
    let wide : length line ≡ n + 2 = steps.1.1 ∙ before.size in
    let width = width_read c.as_slice-width.result.now c.schema.result.now schema c.as_slice-width.ensures c.schema.ensures in
    let left = behind_read schema (length c.as_slice-width.result.now) values c.split_at.result.0.now others width c.split_at.ensures.back in
    let own = values_read schema (length c.as_slice-width.result.now) values c.split_at.result.0.now others width c.split_at.ensures.front in
    let dart = valued (row_in line) (take (length schema.embeds) values) in
    let new_name = answered_none (get c.loop-line.arena.darts name ≡ None) (λ (s : Slot). IsAt c.loop-line.arena s.at name) c.slot_there.result c.slot_there.ensures.slot (c.is_none.ensures ∙ ap not c.if-is_none.true) in
    let m = c.loop-line.arena in
    let after = c.add.ensures.map in
    let room = line_spare schema _ line _ values others steps.1.0 wide left m.spare before.room in
    record {
      front = before.front ++ dart ∷ [];
      size = steps.0 ∙ before.size;
      split = line_split schema _ line _ values others steps.1.0 wide left before.front _ before.split;
      schema = schema_kept m c.add.new.self c.add.result.at name c.split_at.result.0.now schema after before.schema;
      room = rw after room.1;
      reserved = rw after before.reserved;
      long = line_long schema _ line _ values others steps.1.0 wide left before.long;
      good = (line_good schema _ line _ values others steps.1.0 wide left before.good).1;
      has = subst (λ x. HasDarts n (before.front ++ dart ∷ []) x c.loop-line.twice) (sym after)
          (has_more_named n before.front dart m c.loop-line.twice before.has c.add.result.at name c.split_at.result.0.now (ap (λ (s : Schema). s.dim) before.schema) named own new_name);
      most = added_most _ _ _ _ _ _ before.most (length_push before.front dart) c.slot_there.ensures.most c.add.ensures.cost;
      least = added_least _ _ _ _ _ _ before.least (length_push before.front dart) c.slot_there.ensures.least c.add.ensures.cost;
    }

pub loop-line-preserved : goal.loop-line-preserved
loop-line-preserved g c =
    let schema = c.args.arena.now.schema in
    let n = schema.dim in
    let before = c.loop-line.invariant in
    let steps = c.in-Some.ensures.steps in
    let line = c.in-Some.line.now in
    let name = get_or line 0 0 in
    let named = name_of_line line in
    let values = c.loop-line.rest.now in
    let others = c.split_at.result.1.now in
    let wide : length line ≡ n + 2 = steps.1.1 ∙ before.size in
    let width = width_read c.as_slice-width.result.now c.schema.result.now schema c.as_slice-width.ensures c.schema.ensures in
    let left = behind_read schema (length c.as_slice-width.result.now) values c.split_at.result.0.now others width c.split_at.ensures.back in
    let dart = valued (row_in line) (take (length schema.embeds) values) in
    let m = c.loop-line.arena in
    let there = answered_some (get m.darts name ≡ None) (λ (s : Slot). IsAt m s.at name) c.slot_there.result c.slot_there.ensures.slot c.if-is_none.ensures in
    let found = answered_on (c.slot_there.new.steps ≡ c.loop-line.steps + 1) c.slot_there.result c.slot_there.ensures.found c.if-is_none.ensures in
    let room = line_spare schema _ line _ values others steps.1.0 wide left m.spare before.room in
    record {
      front = before.front ++ dart ∷ [];
      size = steps.0 ∙ before.size;
      split = line_split schema _ line _ values others steps.1.0 wide left before.front _ before.split;
      schema = before.schema;
      room = no_less _ _ room.1;
      reserved = before.reserved;
      long = line_long schema _ line _ values others steps.1.0 wide left before.long;
      good = (line_good schema _ line _ values others steps.1.0 wide left before.good).1;
      has = has_again_named n before.front dart m c.loop-line.twice before.has name c.lesser.result named (before.has.added.slots there.0.at name there.1) c.lesser.ensures;
      most = found_most _ _ _ _ _ before.most (length_push before.front dart) found;
      least = found_least _ _ _ _ _ before.least (length_push before.front dart) found;
    }

pub returns-clause-schema : goal.returns-clause-schema
returns-clause-schema g c = c.loop-line.invariant.schema

pub returns-clause-next : goal.returns-clause-next
returns-clause-next g c = c.loop-line.invariant.has.next

pub returns-clause-added : goal.returns-clause-added
returns-clause-added g c =
    let schema = c.args.arena.now.schema in
    let before = c.loop-line.invariant in
    let steps = c.in-None.ensures.steps in
    let whole = none_left before.front (darts_in schema c.args.numbers.now c.args.values.now) _ before.split (darts_end schema _ c.loop-line.rest.now (all_short _ _ _ steps.1.0 before.size)) in
    let rows = ap rows_of whole ∙ rows_of_darts_in schema c.args.numbers.now c.args.values.now in
    subst (λ rows. AreAdded schema.dim rows c.loop-line.arena c.loop-line.twice) rows before.has.added

pub returns-clause-values : goal.returns-clause-values
returns-clause-values g c =
    let schema = c.args.arena.now.schema in
    let before = c.loop-line.invariant in
    let steps = c.in-None.ensures.steps in
    let whole = none_left before.front (darts_in schema c.args.numbers.now c.args.values.now) _ before.split (darts_end schema _ c.loop-line.rest.now (all_short _ _ _ steps.1.0 before.size)) in
    subst (λ darts. AreValued darts c.loop-line.arena) whole before.has.valued

pub returns-clause-most : goal.returns-clause-most
returns-clause-most g c =
    let schema = c.args.arena.now.schema in
    let before = c.loop-line.invariant in
    let steps = c.in-None.ensures.steps in
    let whole = none_left before.front (darts_in schema c.args.numbers.now c.args.values.now) _ before.split (darts_end schema _ c.loop-line.rest.now (all_short _ _ _ steps.1.0 before.size)) in
    subst (λ (k : ℕ). c.loop-line.steps ≤ c.args.steps.now + 2 * k) (ap length whole ∙ length_darts_in schema c.args.numbers.now c.args.values.now) before.most

pub returns-clause-least : goal.returns-clause-least
returns-clause-least g c =
    let schema = c.args.arena.now.schema in
    let before = c.loop-line.invariant in
    let steps = c.in-None.ensures.steps in
    let whole = none_left before.front (darts_in schema c.args.numbers.now c.args.values.now) _ before.split (darts_end schema _ c.loop-line.rest.now (all_short _ _ _ steps.1.0 before.size)) in
    subst (λ (k : ℕ). c.args.steps.now + k ≤ c.loop-line.steps) (ap length whole ∙ length_darts_in schema c.args.numbers.now c.args.values.now) before.least

pub overflow_cast-top : goal.overflow_cast-top
overflow_cast-top g c = byte_fits c.top.result c.top.type_inv

pub overflow_add-top : goal.overflow_add-top
overflow_add-top g c = width_fits c.top.result c.top.type_inv

pub chunks_exact-line-items-requires : goal.chunks_exact-line-items-requires
chunks_exact-line-items-requires g c = width_some c.top.result

pub slot_there-requires : goal.slot_there-requires
slot_there-requires g c = record { next = c.loop-line.invariant.has.next }

pub loop-line-smaller-then-is_none : goal.loop-line-smaller-then-is_none
loop-line-smaller-then-is_none g c =
    let steps = c.in-Some.ensures.steps in
    fewer_lines c.args.arena.now.schema.dim _ _ _ c.in-Some.line.now _ steps.0 c.loop-line.invariant.size steps.1.0 steps.1.1

pub loop-line-smaller : goal.loop-line-smaller
loop-line-smaller g c =
    let steps = c.in-Some.ensures.steps in
    fewer_lines c.args.arena.now.schema.dim _ _ _ c.in-Some.line.now _ steps.0 c.loop-line.invariant.size steps.1.0 steps.1.1
