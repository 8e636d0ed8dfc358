use Rattle.std.proofs.Common.{◌≡◌, ℕ, ◌+◌, ◌<◌, List, Some, get_or, length, set, take, sym, subst, ◌∙◌, refl, below_more, arith, length-set}
use Rattle.std.proofs.lemmas.List.{map_push, take_all, take_more, take_more_set}
use Rattle.std.proofs.lemmas.List.Elements.{All-push}
use Rattle.std.proofs.lemmas.Option.{slice_get-get_or}
use Rattle.std.specs.List.{slice_get}
use Rattle.gm_arena.specs.declared.slot.Slot.{Slot}
use Rattle.gm_arena.specs.inner.ArenaMap.{ArenaMap, IsAt, IsLiveSlot, IsLiveName, name_at}
use Rattle.gm_walk.proofs.NameLemmas.{at_name, live_at}
use Rattle.gm_theory.proofs.Lists.{some_same}
use Rattle.gm_match.specs.inner.Layout.{AreHookSlots}
use Rattle.gm_match.specs.inner.Layout.IsNoDart.{Dead}
use Rattle.gm_match.proofs.darts.hook_darts.Goals as goal

-- one more hook that names a live dart
one_more : (m : ArenaMap) (hooks : List ℕ) (slots : List Slot) (index : ℕ) (slot : Slot) → index < length hooks → index < length slots → IsAt m slot.at (get_or hooks index 0) → AreHookSlots m (take index hooks) (take index slots) →
    AreHookSlots m (take (index + 1) hooks) (take (index + 1) (set slots index slot))
one_more m hooks slots index slot here room at so_far = rw (take_more_set slots index slot room, take_more hooks index 0 here) (record {
  live = All-push (λ (s : Slot). IsLiveSlot m s.at) (take index slots) slot so_far.live (live_at m slot.at (get_or hooks index 0) at);
  names = rw (map_push (λ (s : Slot). name_at m s.at) (take index slots) slot, so_far.names, at_name m slot.at (get_or hooks index 0) at) refl;
})

pub returns-in_default-clause-darts : goal.returns-in_default-clause-darts
returns-in_default-clause-darts g c = Dead _ (get_or c.args.hooks.now c.loop-index.index 0) (slice_get-get_or c.args.hooks.now c.loop-index.index 0 (omega arith)) c.in_default.ensures.slot c.loop-index.invariant.live

pub loop-index-preserved : goal.loop-index-preserved
loop-index-preserved g c =
    let i = c.loop-index.invariant in
    let here = slice_get-get_or c.args.hooks.now c.loop-index.index 0 (omega arith) in
    record {
      whole = length-set _ _ _ ∙ i.whole;
      so_far = one_more c.args.arena.now c.args.hooks.now c.loop-index.slots c.loop-index.index c.in-Some.slot (omega arith) (omega (arith, i.whole, c.requires.few)) c.in-Some.ensures.slot i.so_far;
      live = λ k d h e. below_more (λ j. (x : ℕ) → slice_get c.args.hooks.now j ≡ Some x → IsLiveName c.args.arena.now x) c.loop-index.index (λ j less x f. i.live j x less f)
          (λ x f. c.bound.ensures.lawful.live c.in-Some.slot.at x (subst (λ y. IsAt c.args.arena.now c.in-Some.slot.at y) (some_same _ x (sym here ∙ f)) c.in-Some.ensures.slot)) k h d e;
      cost = omega (arith, i.cost, c.in-Some.ensures.cost);
      least = omega (arith, i.least, c.in-Some.ensures.cost);
    }

pub returns-clause-darts : goal.returns-clause-darts
returns-clause-darts g c =
    let all : c.loop-index.index ≡ length c.args.hooks.now = omega (arith, c.loop-index.auto.index-end) in
    rw (← all) (subst (λ xs. AreHookSlots c.args.arena.now xs (take c.loop-index.index c.loop-index.slots)) (take_all c.loop-index.index c.args.hooks.now (omega arith)) c.loop-index.invariant.so_far)
