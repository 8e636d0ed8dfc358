use Rattle.std.proofs.Common.{◌≡◌, ℕ, ◌+◌, ◌<◌, ◌≤◌, ◌++◌, List, get_or, length, length-append, map, take, ap, sym, ◌∙◌}
use Rattle.std.proofs.Math.Nat.{le_of_lt}
use Rattle.std.proofs.lemmas.List.{length-map, length-take-le, take_all}
use Rattle.gm_arena.specs.inner.ArenaMap.{name_at}
use Rattle.gm_arena.specs.declared.slot.Slot.{Slot}
use Rattle.gm_arena.proofs.MapLemmas.{name_at-is}
use Rattle.gm_undo.proofs.Flats.{one_named}
use Rattle.gm_undo.proofs.Sums.{one_fits, one_step}
use Rattle.gm_undo.proofs.rows.push_names.Goals as goal

pub loop-slot-preserved : goal.loop-slot-preserved
loop-slot-preserved g c = record {
  items = one_named (λ (s : Slot). name_at c.args.arena.now s.at) c.args.slots.now c.loop-slot.slot-index (record { at = 0 }) c.loop-slot-test.true c.args.names.now.items c.loop-slot.names.items c.push_reserved.new.self.items c.name_of.result c.loop-slot.invariant.items (sym (name_at-is c.args.arena.now (get_or c.args.slots.now c.loop-slot.slot-index (record { at = 0 })).at c.name_of.result c.name_of.ensures.name)) c.push_reserved.ensures.items;
  capacity = c.push_reserved.ensures.capacity ∙ c.loop-slot.invariant.capacity;
  steps = one_step c.args.steps.now c.loop-slot.slot-index c.loop-slot.steps c.name_of.new.steps c.loop-slot.invariant.steps c.name_of.ensures.cost;
}

-- there is room for one more name
still_room : (name : Slot → ℕ) (slots : List Slot) (index : ℕ) (start names : List ℕ) (len room room' : ℕ) → len ≡ length names → index < length slots → names ≡ start ++ map name (take index slots) → room' ≡ room → length start + length slots ≤ room → len < room'
still_room name slots index start names len room room' counts within are same fits =
    let taken : length (map name (take index slots)) ≡ index = length-map (take index slots) name ∙ length-take-le index slots (le_of_lt within) in
    let long : len ≡ length start + length (map name (take index slots)) = counts ∙ ap length are ∙ length-append start (map name (take index slots)) in
    one_fits len (length start) (length (map name (take index slots))) index (length slots) room room' long taken within fits same

pub name_of-requires : goal.name_of-requires
name_of-requires g c = c.requires.live c.loop-slot.slot-index c.loop-slot-test.true

pub push_reserved-requires : goal.push_reserved-requires
push_reserved-requires g c =
    still_room (λ (s : Slot). name_at c.args.arena.now s.at) c.args.slots.now c.loop-slot.slot-index c.args.names.now.items c.loop-slot.names.items _ _ _ c.loop-slot.names.ok.0 c.loop-slot-test.true c.loop-slot.invariant.items c.loop-slot.invariant.capacity c.requires.room

pub returns-clause-names : goal.returns-clause-names
returns-clause-names g c = c.loop-slot.invariant.items ∙ ap (λ slots. c.args.names.now.items ++ map (λ (s : Slot). name_at c.args.arena.now s.at) slots) (take_all c.loop-slot.slot-index c.args.slots.now c.loop-slot-test.false)
