use borrow.Author.Count.{falls_down}
use Rattle.std.proofs.Common.{◌≡◌, ◌≢◌, ℕ, ◌-◌, ◌<◌, ◌≤◌, List, Some, get_or, length, slice_get, refl, sym, ap, ◌∙◌, inl, inr, le_refl, not-le_of_lt, arith}
use Rattle.std.proofs.lemmas.Bool.{cases_eq}
use Rattle.std.proofs.lemmas.List.{get_or_default}
use Rattle.std.proofs.lemmas.Option.{get_or_from_slice_get, slice_get_within}
use Rattle.gm_theory.proofs.Lists.{contained_at}
use Rattle.gm_walk.specs.declared.mark.Mark.{Mark}
use Rattle.gm_walk.specs.inner.Keys.{key_of}
use Rattle.gm_pending.specs.inner.Marks.{HasKey, IsMarkedBy}
use Rattle.gm_pending.proofs.marks.instance_among.Goals as goal

module _ (reached : List Mark) (wanted place : ℕ) (within : place ≤ length reached) (behind : (k : ℕ) (entry : Mark) → place ≤ k → slice_get reached k ≡ Some entry → key_of entry.at ≢ wanted) where
  none_marked : place ≤ 0 → HasKey reached wanted → ⊥
  none_marked end (entry, among, same) = behind among.0 entry (omega arith) (contained_at reached entry among) same

  module _ (here : Mark) (key : ℕ) (some : 0 < place) (read : key ≡ key_of (get_or reached (place - 1) here).at) where
    found_here : (again : Mark) → key ≡ wanted → IsMarkedBy reached wanted (get_or reached (place - 1) again).instance
    found_here again is =
        let below : place - 1 < length reached = omega (arith, within, some) in
        let entry = get_or reached (place - 1) again in
        (entry, (place - 1, below, get_or_default reached (place - 1) entry again below), ap (λ (m : Mark). key_of m.at) (get_or_default reached (place - 1) again here below) ∙ sym read ∙ is, refl)

    still_behind : (key ≡ wanted → ⊥) → (k : ℕ) (entry : Mark) → place - 1 ≤ k → slice_get reached k ≡ Some entry → key_of entry.at ≢ wanted
    still_behind apart k entry late is same = elim (cases_eq k (place - 1)) [
      | inl at ↦ apart (read ∙ ap (λ p. key_of (get_or reached p here).at) (sym at) ∙ ap (λ (m : Mark). key_of m.at) (get_or_from_slice_get reached k entry here is) ∙ same)
      | inr other ↦ behind k entry (omega (arith, late, other)) is same
    ]

less : (place long : ℕ) → place ≤ long → place - 1 ≤ long
less place long within = omega arith

pub loop-place-init : goal.loop-place-init
loop-place-init c = record { within = le_refl _; behind = λ k entry past is. absurd (not-le_of_lt (slice_get_within c.args.reached.now k entry is) past) }

pub returns-then-key-wanted : goal.returns-then-key-wanted
returns-then-key-wanted c =
    let now = c.loop-place.invariant in
    found_here c.args.reached.now c.args.wanted c.loop-place.place now.within now.behind c.index-reached-place.result c.key.result c.loop-place-test.true c.key.ensures c.index-reached-place-then-key-wanted.result c.if-key-wanted.true

pub loop-place-preserved : goal.loop-place-preserved
loop-place-preserved c =
    let now = c.loop-place.invariant in
    record {
      within = less _ _ now.within;
      behind = still_behind c.args.reached.now c.args.wanted c.loop-place.place now.within now.behind c.index-reached-place.result c.key.result c.loop-place-test.true c.key.ensures c.if-key-wanted.false;
    }

pub loop-place-smaller : goal.loop-place-smaller
loop-place-smaller c = falls_down c.loop-place.place c.loop-place-test.true

pub returns : goal.returns
returns c = none_marked c.args.reached.now c.args.wanted c.loop-place.place c.loop-place.invariant.within c.loop-place.invariant.behind c.loop-place-test.false
