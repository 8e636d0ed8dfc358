use Rattle.std.proofs.Common.{rules, ◌≡◌, ◌≢◌, ℕ, ◌+◌, ◌-◌, ◌*◌, ◌%◌, ◌<◌, ◌≤◌, Fits, w8, List, subst, ◌∙◌, ap, arith}
use Rattle.gm_arena.proofs.MapLemmas.{IsAt-name_at}
use Rattle.gm_arena.specs.inner.ArenaMap.{ArenaMap, IsAt, IsLiveSlot, alpha, name_at}
use Rattle.gm_arena.specs.inner.Lawful.{IsLawful}
use Rattle.gm_cells.specs.inner.OddStart.{IsNearer}
use Rattle.gm_cells.specs.inner.Search.{mark_of}
use Rattle.gm_cells.proofs.odd_walk.nearer.Goals as goal

never_past : (at bound found : ℕ) → at < bound → found ≡ bound → found ≤ at → ⊥
never_past at bound found low is past = omega (arith, low, is, past)

labels_fit : (top dim : ℕ) → top ≡ dim → dim ≤ 7 → Fits w8 (top + 1)
labels_fit top dim is few = omega (arith, is, few)

label_low : (label top dim : ℕ) → label < top + 1 → top ≡ dim → label ≤ dim
label_low label top dim less is = omega (arith, less, is)

place_within : (to mark bound long : ℕ) → to < bound → long ≡ 2 * bound → 2 * to + mark % 2 < long
place_within to mark bound long low is = omega (arith, low, is)

some_mark : (mark : ℕ) → 1 < mark → 1 ≤ mark
some_mark mark some = omega (arith, some)

module _ (m : ArenaMap) (lawful : IsLawful m) (marks : List ℕ) (slot mark i to : ℕ) (live : IsLiveSlot m slot) (there : IsAt m to (alpha m i (name_at m slot))) where
  is_nearer : i ≤ m.schema.dim → to ≢ slot → mark_of marks to mark ≡ mark - 1 → IsNearer m marks slot mark i
  is_nearer low moves is = record {
    low = low;
    moves = λ e. moves (lawful.one_slot slot to (name_at m slot) (IsAt-name_at m slot live) (subst (IsAt m to) e there));
    to = to;
    there = there;
    is = is;
  }

pub loop-label-init : goal.loop-label-init
loop-label-init g c = λ j less near. omega (arith, less)

pub alpha-to-requires-clause-label : goal.alpha-to-requires-clause-label
alpha-to-requires-clause-label g c = label_low _ _ _ c.loop-label-test.true (c.top-label-end.ensures.value ∙ ap (λ s. s.dim) c.schema.ensures)

pub loop-label-smaller : goal.loop-label-smaller
loop-label-smaller g c = omega (arith, c.loop-label-test.true)

pub returns : goal.returns
returns g c = record {
  first = λ i near.
      let low = near.low in
      c.loop-label.invariant i (omega (arith, low, c.loop-label-test.false, c.top-label-end.ensures.value ∙ ap (λ s. s.dim) c.schema.ensures)) near;
}

pub prove-unreachable-requires : goal.prove-unreachable-requires
prove-unreachable-requires g c =
    never_past c.args.slot.at _ _ (c.bound.ensures.lawful.below_bound c.args.slot.at _ (IsAt-name_at c.args.arena.now c.args.slot.at c.requires.live)) c.bound.ensures.bound c.if-prove.true

pub overflow_add-label-end : goal.overflow_add-label-end
overflow_add-label-end g c = labels_fit _ _ c.top-label-end.ensures.value c.top-label-end.ensures.greatest

pub alpha-to-requires-clause-live : goal.alpha-to-requires-clause-live
alpha-to-requires-clause-live g c = c.requires.live

pub bounds-marks-place : goal.bounds-marks-place
bounds-marks-place g c =
    place_within c.alpha-to.result.at c.args.mark _ _ (c.bound.ensures.lawful.below_bound c.alpha-to.result.at _ c.alpha-to.ensures.neighbour) c.requires.long

pub overflow_sub-mark : goal.overflow_sub-mark
overflow_sub-mark g c = some_mark c.args.mark c.requires.some

pub returns-then-marks-place : goal.returns-then-marks-place
returns-then-marks-place g c =
    let moves : c.alpha-to.result.at ≢ c.args.slot.at = search rules in
    record {
      first = record {
        one = is_nearer c.args.arena.now c.bound.ensures.lawful c.args.marks.now c.args.slot.at c.args.mark c.loop-label.label c.alpha-to.result.at c.requires.live c.alpha-to.ensures.neighbour (label_low _ _ _ c.loop-label-test.true (c.top-label-end.ensures.value ∙ ap (λ s. s.dim) c.schema.ensures)) moves c.if-marks-place.true;
        before = c.loop-label.invariant;
      };
    }
