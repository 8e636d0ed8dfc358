use Rattle.std.proofs.Common.{◌≡◌, ℕ, ◌+◌, ◌*◌, length, get_or, None, is_some, sym, ap, subst, ◌∙◌, arith}
use Rattle.std.specs.FinMap.{get}
use Rattle.std.proofs.lemmas.Bool.{false≢true, some_since}
use Rattle.gm_arena.specs.declared.slot.Slot.{Slot}
use Rattle.gm_arena.specs.inner.ArenaMap.{IsAt}
use Rattle.gm_arena.proofs.MapLemmas.{name_at-is}
use Rattle.gm_walk.proofs.CountLemmas.{has_slot, is_live, name_of_slot}
use Rattle.gm_dual.specs.inner.Building.{AreLinked, IsAllBut, dual_of, free_of}
use Rattle.gm_dual.proofs.BuildLemmas.{linked_next, live_linked}
use Rattle.gm_dual.proofs.map.link_darts.Goals as goal

pub loop-name-init : goal.loop-name-init
loop-name-init g c = record { linked = c.requires.free; cost = omega arith }

pub unwrap-from-requires : goal.unwrap-from-requires
unwrap-from-requires g c = has_slot (λ d. ℕ) c.args.arena.now c.args.names.now c.requires.names c.loop-name.name-index 0 c.slot_of.result c.loop-name-test.true c.slot_of.ensures.slot

pub unwrap-own-requires : goal.unwrap-own-requires
unwrap-own-requires g c =
    let m = c.args.arena.now in
    let d = get_or c.args.names.now c.loop-name.name-index 0 in
    let live = live_linked m c.args.names.now c.requires.names c.loop-name.name-index c.loop-name.dual c.loop-name.invariant.linked d (is_live (λ d. ℕ) m c.args.names.now c.requires.names c.loop-name.name-index 0 c.loop-name-test.true) in
    some_since c.slot_of-in-loop-name.result (get c.loop-name.dual.darts d ≡ None) (λ (s : Slot). IsAt c.loop-name.dual s.at d) c.slot_of-in-loop-name.ensures.slot (λ none. false≢true (sym (ap is_some none) ∙ live))

pub link_dart-requires-clause-lawful : goal.link_dart-requires-clause-lawful
link_dart-requires-clause-lawful g c = c.requires.lawful

pub link_dart-requires-clause-from : goal.link_dart-requires-clause-from
link_dart-requires-clause-from g c = ap is_some (name_of_slot c.args.arena.now (get_or c.args.names.now c.loop-name.name-index 0) c.slot_of.result c.unwrap-from.result c.slot_of.ensures.slot c.unwrap-from.ensures)

pub link_dart-requires-clause-own : goal.link_dart-requires-clause-own
link_dart-requires-clause-own g c =
    let m = c.args.arena.now in
    let d = get_or c.args.names.now c.loop-name.name-index 0 in
    let here = name_at-is m c.unwrap-from.result.at d (name_of_slot m d c.slot_of.result c.unwrap-from.result c.slot_of.ensures.slot c.unwrap-from.ensures) in
    subst (IsAt c.loop-name.dual c.unwrap-own.result.at) (sym here) (name_of_slot c.loop-name.dual d c.slot_of-in-loop-name.result c.unwrap-own.result c.slot_of-in-loop-name.ensures.slot c.unwrap-own.ensures)

pub link_dart-requires-clause-schema : goal.link_dart-requires-clause-schema
link_dart-requires-clause-schema g c = c.loop-name.invariant.linked.schema_is

pub link_dart-requires-clause-free : goal.link_dart-requires-clause-free
link_dart-requires-clause-free g c =
    let m = c.args.arena.now in
    let d = get_or c.args.names.now c.loop-name.name-index 0 in
    let here = name_at-is m c.unwrap-from.result.at d (name_of_slot m d c.slot_of.result c.unwrap-from.result c.slot_of.ensures.slot c.unwrap-from.ensures) in
    subst (λ x. get c.loop-name.dual.darts x ≡ free_of m x) (sym here) (c.loop-name.invariant.linked.free c.loop-name.name-index (omega arith) c.loop-name-test.true)

pub link_dart-requires-clause-live : goal.link_dart-requires-clause-live
link_dart-requires-clause-live g c = live_linked c.args.arena.now c.args.names.now c.requires.names c.loop-name.name-index c.loop-name.dual c.loop-name.invariant.linked

pub loop-name-preserved : goal.loop-name-preserved
loop-name-preserved g c =
    let m = c.args.arena.now in
    let d = get_or c.args.names.now c.loop-name.name-index 0 in
    let here = name_at-is m c.unwrap-from.result.at d (name_of_slot m d c.slot_of.result c.unwrap-from.result c.slot_of.ensures.slot c.unwrap-from.ensures) in
    let but = subst (λ x. IsAllBut x c.loop-name.dual c.link_dart.new.dual) here c.link_dart.ensures.others in
    let linked = subst (λ x. get c.link_dart.new.dual.darts x ≡ dual_of m x) here c.link_dart.ensures.linked in
    record {
      linked = linked_next m c.args.names.now c.requires.names c.loop-name.name-index c.loop-name.dual c.link_dart.new.dual c.loop-name.invariant.linked c.loop-name-test.true but linked;
      cost = omega (arith, c.loop-name.invariant.cost, c.slot_of.ensures.cost, c.slot_of-in-loop-name.ensures.cost, c.link_dart.ensures.cost);
    }

pub returns-clause-linked : goal.returns-clause-linked
returns-clause-linked g c =
    let end : c.loop-name.name-index ≡ length c.args.names.now = omega (arith, c.loop-name-test.false, c.loop-name.auto.name-index-end) in
    subst (λ k. AreLinked c.args.arena.now c.args.names.now k c.loop-name.dual) end c.loop-name.invariant.linked

pub returns-clause-cost : goal.returns-clause-cost
returns-clause-cost g c =
    let end : c.loop-name.name-index ≡ length c.args.names.now = omega (arith, c.loop-name-test.false, c.loop-name.auto.name-index-end) in
    c.loop-name.invariant.cost ∙ ap (λ k. c.args.steps.now + k * (3 * c.args.arena.now.schema.dim + 6)) end
