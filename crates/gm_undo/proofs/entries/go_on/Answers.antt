use Rattle.std.proofs.Common.{◌≡◌, ◌+◌, ◌<◌, ◌≤◌, None, length, ap, subst}
use Rattle.std.proofs.Math.Nat.{le_antisymm, le_refl, le_trans, lt_of_lt_of_le}
use Rattle.gm_undo.specs.inner.Costs.{cost_to}
use Rattle.gm_undo.specs.inner.Layout.{changes_in}
use Rattle.gm_undo.specs.inner.Standing.{AreChained}
use Rattle.gm_undo.proofs.Spans.{end_high, middle_high, rows_high, middle_within, can_on, cost_next, moved}
use Rattle.gm_undo.proofs.Sums.{paid_on}
use Rattle.gm_undo.proofs.Written.{room_more, same_room}
use Rattle.gm_undo.proofs.entries.go_on.Goals as goal

pub loop-index-init : goal.loop-index-init
loop-index-init g c = record {
  chained = λ states chained. chained;
  room = same_room c.args.arena.now;
  most = le_refl _;
  rises = le_refl _;
}

pub bounds-changes-index : goal.bounds-changes-index
bounds-changes-index g c = lt_of_lt_of_le c.loop-index-test.true c.requires.laid_out.within

pub write-requires : goal.write-requires
write-requires g c =
    let rows = c.args.rows.now.rows in
    let changes = c.args.changes.now in
    let k = c.loop-index.index in
    let h : k < length changes = lt_of_lt_of_le c.loop-index-test.true c.requires.laid_out.within in
    let states = c.requires.chained.0 in
    let can = can_on rows changes c.args.end None c.requires.laid_out c.loop-index.arena states k h (c.loop-index.invariant.chained states c.requires.chained.1) in
    record {
      from = middle_high rows changes c.args.end None c.requires.laid_out k h;
      from_end = middle_within rows changes c.args.end None c.requires.laid_out k h;
      to = end_high rows changes c.args.end None c.requires.laid_out k h;
      to_end = rows_high rows changes c.args.end None c.requires.laid_out k h;
      can = (states (k + 1), can.0, can.1);
    }

pub loop-index-preserved : goal.loop-index-preserved
loop-index-preserved g c =
    let rows = c.args.rows.now.rows in
    let changes = c.args.changes.now in
    let k = c.loop-index.index in
    let h : k < length changes = lt_of_lt_of_le c.loop-index-test.true c.requires.laid_out.within in
    let inv = c.loop-index.invariant in
    let room = c.write.ensures.room in
    let dim : c.loop-index.arena.schema.dim ≡ c.args.arena.now.schema.dim = ap (λ s. s.dim) inv.room.schema in
    let cost = rw dim at c.write.ensures.cost in
    record {
      chained = λ states chained.
          let here = inv.chained states chained in
          let can = can_on rows changes c.args.end None c.requires.laid_out c.loop-index.arena states k h here in
          moved (changes_in rows changes) c.loop-index.arena c.write.new.arena states k (k + 1) here room (c.write.ensures.rows (states (k + 1)) can.0 can.1);
      room = room_more c.args.arena.now c.loop-index.arena c.write.new.arena inv.room room;
      most = paid_on c.args.steps.now c.loop-index.steps c.write.new.steps _ _ _ _ inv.most cost (cost_next rows changes c.args.end None c.requires.laid_out c.args.arena.now.schema.dim k h);
      rises = le_trans inv.rises c.write.ensures.rises;
    }

pub returns : goal.returns
returns g c =
    let changes = changes_in c.args.rows.now.rows c.args.changes.now in
    let dim = c.args.arena.now.schema.dim in
    let inv = c.loop-index.invariant in
    let all : c.loop-index.index ≡ c.args.end = le_antisymm (c.loop-index.auto.index-end c.requires.start) c.loop-index-test.false in
    record {
      chained = λ states chained. subst (AreChained changes c.loop-index.arena states) all (inv.chained states chained);
      room = inv.room;
      cost = subst (λ k. c.loop-index.steps + cost_to dim changes c.args.start ≤ c.args.steps.now + cost_to dim changes k) all inv.most;
      rises = inv.rises;
    }
