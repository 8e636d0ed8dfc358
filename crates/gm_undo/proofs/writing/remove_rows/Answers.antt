use Rattle.std.proofs.Common.{◌≡◌, ◌+◌, ◌-◌, ◌*◌, ◌≤◌, None, ap, cond, subst, ◌∙◌}
use Rattle.std.proofs.Math.Nat.{le_antisymm, le_refl, le_trans, le-add_right, lt_of_lt_of_le}
use Rattle.gm_undo.specs.inner.Flat.{row_in}
use Rattle.gm_undo.specs.inner.Writing.{IsClearedRow, IsWritten}
use Rattle.gm_undo.proofs.Sides.{most_more}
use Rattle.gm_undo.proofs.Written.{next_outside, room_more, same_room, still_alone, written_more, written_none}
use Rattle.gm_undo.proofs.writing.remove_rows.Goals as goal

pub loop-index-init : goal.loop-index-init
loop-index-init g c = record {
  written = written_none (IsClearedRow c.args.arena.now) c.args.rows.now.rows c.args.part.start c.args.arena.now;
  room = same_room c.args.arena.now;
  most = le-add_right _ _;
  rises = le_refl _;
}

pub remove_row-requires : goal.remove_row-requires
remove_row-requires g c =
    let rows = c.args.rows.now.rows in
    let index = c.loop-index.index in
    let inv = c.loop-index.invariant in
    let there = inv.written.others (row_in rows index).name (next_outside (IsClearedRow c.args.arena.now) rows c.args.part.start c.args.arena.now c.args.part.end index c.requires.once c.loop-index.auto.index c.loop-index-test.true) in
    record {
      index = lt_of_lt_of_le c.loop-index-test.true c.requires.end;
      can = λ goes.
          let could = c.requires.can index (c.loop-index.auto.index, c.loop-index-test.true) goes in
          (rw there could.0, still_alone rows c.args.part.start index c.args.arena.now c.loop-index.arena inv.written (row_in rows index).name inv.room.schema could.1);
    }

pub loop-index-preserved : goal.loop-index-preserved
loop-index-preserved g c =
    let rows = c.args.rows.now.rows in
    let start = c.args.part.start in
    let index = c.loop-index.index in
    let row = row_in rows index in
    let inv = c.loop-index.invariant in
    let there = inv.written.others row.name (next_outside (IsClearedRow c.args.arena.now) rows start c.args.arena.now c.args.part.end index c.requires.once c.loop-index.auto.index c.loop-index-test.true) in
    record {
      written = written_more (IsClearedRow c.args.arena.now) rows start c.args.arena.now c.args.part.end index c.loop-index.arena c.remove_row.new.arena c.requires.once c.loop-index.auto.index c.loop-index-test.true inv.written c.remove_row.ensures.others (c.remove_row.ensures.own ∙ ap (λ o. cond row.stays o None) there);
      room = room_more c.args.arena.now c.loop-index.arena c.remove_row.new.arena inv.room c.remove_row.ensures.room;
      most = most_more 2 index start c.args.steps.now c.loop-index.steps c.remove_row.new.steps c.loop-index.auto.index inv.most c.remove_row.ensures.cost;
      rises = le_trans inv.rises c.remove_row.ensures.rises;
    }

pub returns : goal.returns
returns g c =
    let all : c.loop-index.index ≡ c.args.part.end = le_antisymm (c.loop-index.auto.index-end c.requires.part) c.loop-index-test.false in
    let inv = c.loop-index.invariant in
    record {
      written = subst (λ end. IsWritten (IsClearedRow c.args.arena.now) c.args.rows.now.rows c.args.part.start end c.args.arena.now c.loop-index.arena) all inv.written;
      room = inv.room;
      cost = subst (λ end. c.loop-index.steps ≤ c.args.steps.now + 2 * (end - c.args.part.start)) all inv.most;
      rises = inv.rises;
    }
