use Rattle.std.proofs.Common.{◌≡◌, ℕ, map, length, get_or, Some, None, is_some, sym, ap, subst, ◌∙◌, arith}
use Rattle.std.specs.FinMap.{get}
use Rattle.gm_arena.specs.declared.slot.Slot.{Slot}
use Rattle.gm_arena.specs.inner.ArenaMap.{ArenaMap, Dart, IsAt, name_at}
use Rattle.gm_arena.specs.inner.Edits.{with_dart}
use Rattle.gm_arena.specs.inner.Lawful.{AreGoodValues}
use Rattle.gm_arena.proofs.MapLemmas.{name_at-is, name_below}
use Rattle.gm_walk.proofs.CountLemmas.{has_slot, is_live, name_of_slot}
use Rattle.gm_dual.specs.inner.Building.{AreAdded}
use Rattle.gm_dual.proofs.BuildLemmas.{added_more, apart, good_dual}
use Rattle.gm_dual.proofs.map.add_darts.Goals as goal

same_name : (m : ArenaMap) (slot a b : ℕ) → IsAt m slot a → IsAt m slot b → a ≡ b
same_name m slot a b here there = sym (name_at-is m slot a here) ∙ name_at-is m slot b there

pub loop-name-init : goal.loop-name-init
loop-name-init g c = record { added = c.requires.none; cost = omega arith }

pub unwrap-slot-requires : goal.unwrap-slot-requires
unwrap-slot-requires g c = has_slot (λ d. ℕ) c.args.arena.now c.args.names.now c.requires.names c.loop-name.name-index 0 c.slot_of.result c.loop-name-test.true c.slot_of.ensures.slot

pub row-row-requires : goal.row-row-requires
row-row-requires g c = ap is_some (name_of_slot c.args.arena.now (get_or c.args.names.now c.loop-name.name-index 0) c.slot_of.result c.unwrap-slot.result c.slot_of.ensures.slot c.unwrap-slot.ensures)

pub add-requires-clause-room : goal.add-requires-clause-room
add-requires-clause-room g c = omega (arith, c.loop-name.invariant.added.spare, c.loop-name-test.true)

pub add-requires-clause-reserved : goal.add-requires-clause-reserved
add-requires-clause-reserved g c =
    let m = c.args.arena.now in
    let names = c.args.names.now in
    let p = c.loop-name.name-index in
    let here = name_of_slot m (get_or names p 0) c.slot_of.result c.unwrap-slot.result c.slot_of.ensures.slot c.unwrap-slot.ensures in
    let same = same_name m c.unwrap-slot.result.at (get_or names p 0) c.row-row.result.name here c.row-row.ensures.name in
    let low = name_below m (get_or names p 0) c.requires.lawful (is_live (λ d. ℕ) m names c.requires.names p 0 c.loop-name-test.true) in
    omega (arith, low, same, c.loop-name.invariant.added.reserved)

pub add-requires-clause-new_name : goal.add-requires-clause-new_name
add-requires-clause-new_name g c =
    let m = c.args.arena.now in
    let names = c.args.names.now in
    let p = c.loop-name.name-index in
    let here = name_of_slot m (get_or names p 0) c.slot_of.result c.unwrap-slot.result c.slot_of.ensures.slot c.unwrap-slot.ensures in
    let same = same_name m c.unwrap-slot.result.at (get_or names p 0) c.row-row.result.name here c.row-row.ensures.name in
    subst (λ x. get c.loop-name.dual.darts x ≡ None) same (c.loop-name.invariant.added.none (get_or names p 0) (λ q low. apart m names c.requires.names p q low c.loop-name-test.true))

pub add-requires-clause-values : goal.add-requires-clause-values
add-requires-clause-values g c =
    let m = c.args.arena.now in
    let lawful = c.requires.lawful.dart c.row-row.result.name _ c.row-row.ensures.dart in
    subst (λ s. AreGoodValues s c.row-row.result.values.now) (sym c.loop-name.invariant.added.schema_is) (good_dual m.schema c.row-row.result.values.now lawful.valued)

pub loop-name-preserved : goal.loop-name-preserved
loop-name-preserved g c =
    let m = c.args.arena.now in
    let names = c.args.names.now in
    let p = c.loop-name.name-index in
    let row = c.row-row.result in
    let here = name_of_slot m (get_or names p 0) c.slot_of.result c.unwrap-slot.result c.slot_of.ensures.slot c.unwrap-slot.ensures in
    let same = same_name m c.unwrap-slot.result.at row.name (get_or names p 0) c.row-row.ensures.name here in
    let dart : Dart = record { alphas = map (λ (s : Slot). name_at m s.at) row.alphas.now; values = row.values.now } in
    record {
      added = added_more m names c.requires.names p c.add.result.at c.loop-name.dual c.add.new.self dart c.loop-name.invariant.added c.loop-name-test.true (subst (λ x. get m.darts x ≡ Some dart) same c.row-row.ensures.dart) (c.add.ensures.map ∙ ap (λ x. with_dart c.loop-name.dual c.add.result.at x row.values.now) same);
      cost = omega (arith, c.loop-name.invariant.cost, c.slot_of.ensures.cost, c.row-row.ensures.cost, c.add.ensures.cost);
    }

pub returns-clause-added : goal.returns-clause-added
returns-clause-added g c =
    let end : c.loop-name.name-index ≡ length c.args.names.now = omega (arith, c.loop-name-test.false, c.loop-name.auto.name-index-end) in
    subst (λ k. AreAdded c.args.arena.now c.args.names.now k c.loop-name.dual) end c.loop-name.invariant.added

pub returns-clause-cost : goal.returns-clause-cost
returns-clause-cost g c =
    let end : c.loop-name.name-index ≡ length c.args.names.now = omega (arith, c.loop-name-test.false, c.loop-name.auto.name-index-end) in
    omega (arith, end, c.loop-name.invariant.cost)
