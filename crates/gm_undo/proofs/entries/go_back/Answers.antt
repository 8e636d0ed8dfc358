use Rattle.std.proofs.Common.{◌≡◌, ℕ, ◌+◌, ◌-◌, ◌<◌, ◌≤◌, None, arith, length, ap, subst}
use Rattle.std.proofs.Math.Nat.{le_antisymm, le_refl, le_trans}
use Rattle.gm_undo.specs.inner.Costs.{cost_to}
use Rattle.gm_undo.specs.inner.Layout.{changes_in}
use Rattle.gm_undo.specs.inner.Standing.{AreChained}
use Rattle.gm_undo.proofs.Spans.{end_high, middle_high, rows_high, middle_within, can_back, cost_next, moved}
use Rattle.gm_undo.proofs.Sums.{paid_back}
use Rattle.gm_undo.proofs.Written.{room_more, same_room}
use Rattle.gm_undo.proofs.entries.go_back.Goals as goal

-- the change before is one of them
one_before : (start index end long : ℕ) → start < index → index ≤ end → end ≤ long → index - 1 < long
one_before start index end long less high within = omega arith

next_is : (start index : ℕ) → start < index → index ≡ (index - 1) + 1
next_is start index less = omega arith

still_behind : (start index : ℕ) → start < index → start ≤ index - 1
still_behind start index less = omega arith

pub loop-index-init : goal.loop-index-init
loop-index-init g c = record {
  chained = λ states chained. chained;
  room = same_room c.args.arena.now;
  most = le_refl _;
  least = c.requires.start;
  rises = le_refl _;
}

pub bounds-changes-index : goal.bounds-changes-index
bounds-changes-index g c = one_before c.args.start c.loop-index.index c.args.end (length c.args.changes.now) c.loop-index-test.true c.loop-index.auto.index c.requires.laid_out.within

pub write-requires : goal.write-requires
write-requires g c =
    let rows = c.args.rows.now.rows in
    let changes = c.args.changes.now in
    let k = c.loop-index.index - 1 in
    let h : k < length changes = one_before c.args.start c.loop-index.index c.args.end (length changes) c.loop-index-test.true c.loop-index.auto.index c.requires.laid_out.within in
    let next : c.loop-index.index ≡ k + 1 = next_is c.args.start c.loop-index.index c.loop-index-test.true in
    let states = c.requires.chained.0 in
    let can = can_back rows changes c.args.end None c.requires.laid_out c.loop-index.arena states k h (subst (AreChained (changes_in rows changes) c.loop-index.arena states) next (c.loop-index.invariant.chained states c.requires.chained.1)) in
    record {
      from = end_high rows changes c.args.end None c.requires.laid_out k h;
      from_end = rows_high rows changes c.args.end None c.requires.laid_out k h;
      to = middle_high rows changes c.args.end None c.requires.laid_out k h;
      to_end = middle_within rows changes c.args.end None c.requires.laid_out k h;
      can = (states k, can.0, can.1);
    }

pub loop-index-preserved : goal.loop-index-preserved
loop-index-preserved g c =
    let rows = c.args.rows.now.rows in
    let changes = c.args.changes.now in
    let k = c.loop-index.index - 1 in
    let h : k < length changes = one_before c.args.start c.loop-index.index c.args.end (length changes) c.loop-index-test.true c.loop-index.auto.index c.requires.laid_out.within in
    let next : c.loop-index.index ≡ k + 1 = next_is c.args.start c.loop-index.index c.loop-index-test.true in
    let inv = c.loop-index.invariant in
    let room = c.write.ensures.room in
    let dim : c.loop-index.arena.schema.dim ≡ c.args.arena.now.schema.dim = ap (λ s. s.dim) inv.room.schema in
    let cost = rw dim at c.write.ensures.cost in
    record {
      chained = λ states chained.
          let here = subst (AreChained (changes_in rows changes) c.loop-index.arena states) next (inv.chained states chained) in
          let can = can_back rows changes c.args.end None c.requires.laid_out c.loop-index.arena states k h here in
          moved (changes_in rows changes) c.loop-index.arena c.write.new.arena states (k + 1) k here room (c.write.ensures.rows (states k) can.0 can.1);
      room = room_more c.args.arena.now c.loop-index.arena c.write.new.arena inv.room room;
      most = paid_back c.args.steps.now c.loop-index.steps c.write.new.steps _ _ _ _ _ _ (rw next at inv.most) cost (cost_next rows changes c.args.end None c.requires.laid_out c.args.arena.now.schema.dim k h);
      least = still_behind c.args.start c.loop-index.index c.loop-index-test.true;
      rises = le_trans inv.rises c.write.ensures.rises;
    }

pub returns : goal.returns
returns g c =
    let changes = changes_in c.args.rows.now.rows c.args.changes.now in
    let dim = c.args.arena.now.schema.dim in
    let inv = c.loop-index.invariant in
    let all : c.loop-index.index ≡ c.args.start = le_antisymm c.loop-index-test.false inv.least in
    record {
      chained = λ states chained. subst (AreChained changes c.loop-index.arena states) all (inv.chained states chained);
      room = inv.room;
      cost = subst (λ k. c.loop-index.steps + cost_to dim changes k ≤ c.args.steps.now + cost_to dim changes c.args.end) all inv.most;
      rises = inv.rises;
    }
