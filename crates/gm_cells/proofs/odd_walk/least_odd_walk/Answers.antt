use Rattle.std.proofs.Common.{◌+◌, ◌*◌, ◌-◌, ℕ, get_or, sym, subst}
use Rattle.std.proofs.lemmas.Bool.{some_since}
use Rattle.std.proofs.lemmas.Option.{MatchOption-at_some}
use Rattle.gm_cells.specs.inner.OddStart.{IsNearer, IsFirstNearer}
use Rattle.gm_cells.proofs.LeastLemmas.{IsOnWay, begins, some_nearer, one_nearer, ends}
use Rattle.gm_cells.proofs.odd_walk.least_odd_walk.Goals as goal

pub loop-mark-init : goal.loop-mark-init
loop-mark-init g c = subst (IsOnWay c.args.arena.now c.args.marks.now c.args.start.at c.args.start.at (get_or c.args.marks.now (2 * c.args.start.at + 1) 0)) (sym c.new-labels.ensures.items) (begins c.args.arena.now c.bound.ensures.lawful c.requires.generalised c.args.marks.now c.args.start.at c.requires.start)

pub unwrap-label-requires : goal.unwrap-label-requires
unwrap-label-requires g c =
    let m = c.args.arena.now in
    some_since c.nearer.result ((i : ℕ) → IsNearer m c.args.marks.now c.loop-mark.slot.at c.loop-mark.mark i → ⊥) (IsFirstNearer m c.args.marks.now c.loop-mark.slot.at c.loop-mark.mark) c.nearer.ensures.first
    (some_nearer m c.bound.ensures.lawful c.requires.generalised c.args.marks.now c.args.start.at c.requires.start c.loop-mark.slot.at c.loop-mark.mark c.loop-mark.labels.items c.loop-mark.invariant c.loop-mark-test.true)

pub loop-mark-preserved : goal.loop-mark-preserved
loop-mark-preserved g c =
    let m = c.args.arena.now in
    let first = MatchOption-at_some ((i : ℕ) → IsNearer m c.args.marks.now c.loop-mark.slot.at c.loop-mark.mark i → ⊥) (IsFirstNearer m c.args.marks.now c.loop-mark.slot.at c.loop-mark.mark) c.unwrap-label.result c.unwrap-label.ensures c.nearer.ensures.first in
    subst (IsOnWay m c.args.marks.now c.args.start.at c.alpha-slot.result.at (c.loop-mark.mark - 1)) (sym c.in_ok-push.ensures.items)
    (one_nearer m c.bound.ensures.lawful c.requires.generalised c.args.marks.now c.args.start.at c.requires.start c.loop-mark.slot.at c.loop-mark.mark c.loop-mark.labels.items c.loop-mark.invariant c.loop-mark-test.true c.unwrap-label.result c.alpha-slot.result.at first c.alpha-slot.ensures.neighbour)

pub returns : goal.returns
returns g c = record {
  walk = ends c.args.arena.now c.bound.ensures.lawful c.requires.generalised c.args.marks.now c.args.start.at c.requires.start c.loop-mark.slot.at c.loop-mark.mark c.loop-mark.labels.items c.loop-mark.invariant c.loop-mark-test.false;
}
