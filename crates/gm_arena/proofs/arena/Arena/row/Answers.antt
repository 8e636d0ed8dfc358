use Rattle.std.proofs.Common.{◌≡◌, ℕ, ◌+◌, ◌-◌, ◌*◌, ◌<◌, ◌≤◌, Fits, w64, length, Some, sym, ap, ◌∙◌, arith}
use Rattle.std.specs.FinMap.{get}
use Rattle.gm_arena.specs.inner.Inside.{darts_in}
use Rattle.gm_arena.proofs.InsideLemmas.{key_at, live_place, live_at, slot_at, name_in-get, row_at}
use Rattle.gm_arena.proofs.ReserveLemmas.{links_within, values_within}
use Rattle.gm_arena.proofs.arena.Arena.row.Goals as goal

-- a dart's part is within a vector, whose length is a word
product_word : (at width items len capacity : ℕ) → at * width + width ≤ items → len ≡ items → len ≤ capacity → capacity < 9223372036854775808 → Fits w64 (at * width)
product_word at width items len capacity within same room small = omega (arith, within, same, room, small)

sum_word : (at width items len capacity : ℕ) → at * width + width ≤ items → len ≡ items → len ≤ capacity → capacity < 9223372036854775808 → Fits w64 (at * width + width)
sum_word at width items len capacity within same room small = omega (arith, within, same, room, small)

no_less : (start more : ℕ) → start ≤ start + more
no_less start more = omega arith

pub read_name-requires-clause-live : goal.read_name-requires-clause-live
read_name-requires-clause-live g c = key_at c.self.inside.places _ (rw (← c.self.view_is) at c.requires)

pub slice_bounds-result-end : goal.slice_bounds-result-end
slice_bounds-result-end g c =
    let s = c.self.inside in
    let within : c.args.slot.at * s.labels + s.labels ≤ length s.neighbours.items = links_within _ _ _ _ _ _ _ _ _ _ c.self.invariant.0 c.args.slot.at (rw (← c.self.view_is) at c.requires) in
    omega (arith, within, s.neighbours.ok.0)

pub overflow_mul-result : goal.overflow_mul-result
overflow_mul-result g c =
    let s = c.self.inside in
    product_word c.args.slot.at s.labels _ _ _ (links_within _ _ _ _ _ _ _ _ _ _ c.self.invariant.0 c.args.slot.at (rw (← c.self.view_is) at c.requires)) s.neighbours.ok.0 s.neighbours.ok.1 s.neighbours.small

pub overflow_mul-result-2 : goal.overflow_mul-result-2
overflow_mul-result-2 g c =
    let s = c.self.inside in
    product_word c.args.slot.at s.labels _ _ _ (links_within _ _ _ _ _ _ _ _ _ _ c.self.invariant.0 c.args.slot.at (rw (← c.self.view_is) at c.requires)) s.neighbours.ok.0 s.neighbours.ok.1 s.neighbours.small

pub overflow_add-result : goal.overflow_add-result
overflow_add-result g c =
    let s = c.self.inside in
    sum_word c.args.slot.at s.labels _ _ _ (links_within _ _ _ _ _ _ _ _ _ _ c.self.invariant.0 c.args.slot.at (rw (← c.self.view_is) at c.requires)) s.neighbours.ok.0 s.neighbours.ok.1 s.neighbours.small

pub overflow_mul-result-3 : goal.overflow_mul-result-3
overflow_mul-result-3 g c =
    let s = c.self.inside in
    product_word c.args.slot.at s.width _ _ _ (values_within _ _ _ _ _ _ _ _ _ _ c.self.invariant.0 c.args.slot.at (rw (← c.self.view_is) at c.requires)) s.values.ok.0 s.values.ok.1 s.values.small

pub overflow_mul-result-4 : goal.overflow_mul-result-4
overflow_mul-result-4 g c =
    let s = c.self.inside in
    product_word c.args.slot.at s.width _ _ _ (values_within _ _ _ _ _ _ _ _ _ _ c.self.invariant.0 c.args.slot.at (rw (← c.self.view_is) at c.requires)) s.values.ok.0 s.values.ok.1 s.values.small

pub slice_bounds-result-end-2 : goal.slice_bounds-result-end-2
slice_bounds-result-end-2 g c =
    let s = c.self.inside in
    let within : c.args.slot.at * s.width + s.width ≤ length s.values.items = values_within _ _ _ _ _ _ _ _ _ _ c.self.invariant.0 c.args.slot.at (rw (← c.self.view_is) at c.requires) in
    omega (arith, within, s.values.ok.0)

pub returns-clause-name : goal.returns-clause-name
returns-clause-name g c =
    let places = c.self.inside.places in
    let place = live_place places c.args.slot.at (rw (← c.self.view_is) at c.requires) in
    rw (← c.self.view_is) (slot_at places _ _ place.1 ∙ ap Some (sym (c.read_name.ensures ∙ name_in-get places c.args.slot.at place.0 place.1)))

back : (n k : ℕ) → n + k - n ≡ k
back n k = omega arith

pub returns-clause-dart : goal.returns-clause-dart
returns-clause-dart g c =
    let s = c.self.inside in
    let place = live_place s.places c.args.slot.at (rw (← c.self.view_is) at c.requires) in
    let name = c.read_name.ensures ∙ name_in-get s.places c.args.slot.at place.0 place.1 in
    rw (← c.self.view_is, back (c.args.slot.at * s.labels) s.labels, back (c.args.slot.at * s.width) s.width, c.deref.ensures.value, c.deref-2.ensures.value)
    (ap (get (darts_in s.labels s.width s.places s.neighbours.items s.values.items s.table)) name ∙ row_at _ _ _ _ _ _ _ _ _ _ c.self.invariant.0 c.args.slot.at place.0 place.1)

pub returns-clause-live : goal.returns-clause-live
returns-clause-live g c =
    let place = live_place c.self.inside.places c.args.slot.at (rw (← c.self.view_is) at c.requires) in
    let placed = c.self.invariant.0.placed c.args.slot.at place.0 place.1 in
    rw (← c.self.view_is, back (c.args.slot.at * c.self.inside.labels) c.self.inside.labels, c.deref.ensures.value) (λ k d h. live_at c.self.inside.places _ (placed.live k d h))

pub read_name-requires-clause-named : goal.read_name-requires-clause-named
read_name-requires-clause-named g c = c.self.invariant.2

pub overflow_add-result-2 : goal.overflow_add-result-2
overflow_add-result-2 g c =
    let s = c.self.inside in
    sum_word c.args.slot.at s.width _ _ _ (values_within _ _ _ _ _ _ _ _ _ _ c.self.invariant.0 c.args.slot.at (rw (← c.self.view_is) at c.requires)) s.values.ok.0 s.values.ok.1 s.values.small

pub slice_bounds-result-count : goal.slice_bounds-result-count
slice_bounds-result-count g c = no_less (c.args.slot.at * c.self.inside.labels) c.self.inside.labels

pub slice_bounds-result-count-2 : goal.slice_bounds-result-count-2
slice_bounds-result-count-2 g c = no_less (c.args.slot.at * c.self.inside.width) c.self.inside.width

pub returns-clause-cost : goal.returns-clause-cost
returns-clause-cost g c = c.tick.ensures
