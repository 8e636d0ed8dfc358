use Rattle.std.proofs.Common.{◌≡◌, ℕ, ◌+◌, ◌-◌, ◌≤◌, Some, ap, arith, cond, subst, sym, ◌∙◌}
use Rattle.std.proofs.Math.Nat.{le_antisymm, le_refl, le_trans, le-add_right, lt_of_lt_of_le}
use Rattle.std.specs.FinMap.{get}
use Rattle.gm_model.specs.declared.schema.Schema.{Schema}
use Rattle.gm_arena.specs.inner.Edits.{free_dart}
use Rattle.gm_arena.specs.inner.Lawful.{AreGoodValues}
use Rattle.gm_undo.specs.inner.Flat.{row_in}
use Rattle.gm_undo.specs.inner.Writing.{IsAddedRow, IsWritten}
use Rattle.gm_undo.proofs.Sums.{never_more}
use Rattle.gm_undo.proofs.Written.{has_name, room_more, same_room, some_spare, unadded, written_more, written_none}
use Rattle.gm_undo.proofs.writing.add_rows.Goals as goal

one_past : (index start begun before after : ℕ) → start ≤ index → before ≤ begun + (index - start) → after ≤ before + 1 → after ≤ begun + (index + 1 - start)
one_past index start begun before after low most cost = omega arith

pub loop-index-init : goal.loop-index-init
loop-index-init g c = record {
  written = written_none (IsAddedRow c.args.arena.now) c.args.rows.now.rows c.args.part.start c.args.arena.now;
  room = same_room c.args.arena.now;
  most = le-add_right _ _;
  rises = le_refl _;
}

pub prove-unreachable-requires : goal.prove-unreachable-requires
prove-unreachable-requires g c = never_more c.loop-index.arena c.count.result c.count.ensures.lawful c.count.ensures.count c.if-prove.true

pub add_row-requires : goal.add_row-requires
add_row-requires g c =
    let rows = c.args.rows.now.rows in
    let start = c.args.part.start in
    let end = c.args.part.end in
    let index = c.loop-index.index in
    let inv = c.loop-index.invariant in
    let there = c.requires.can.0 in
    let can = c.requires.can.1 in
    record {
      index = lt_of_lt_of_le c.loop-index-test.true c.requires.end;
      room = some_spare rows start end index c.args.arena.now c.loop-index.arena there c.requires.once c.loop-index.auto.index c.loop-index-test.true can inv.written inv.room c.count.ensures.lawful;
      reserved = λ comes. has_name rows start end index c.args.arena.now c.loop-index.arena there c.requires.once c.loop-index.auto.index c.loop-index-test.true can inv.written inv.room c.count.ensures.lawful;
      new_name = λ comes.
          unadded rows start end index c.args.arena.now c.loop-index.arena there c.requires.once c.loop-index.auto.index c.loop-index-test.true can inv.written inv.room c.count.ensures.lawful
          ∙ can.new index (c.loop-index.auto.index, c.loop-index-test.true) comes;
      values = subst (λ schema. AreGoodValues schema (row_in rows index).dart.values) (sym inv.room.schema) (can.values index (c.loop-index.auto.index, c.loop-index-test.true));
    }

pub loop-index-preserved : goal.loop-index-preserved
loop-index-preserved g c =
    let rows = c.args.rows.now.rows in
    let start = c.args.part.start in
    let end = c.args.part.end in
    let index = c.loop-index.index in
    let row = row_in rows index in
    let inv = c.loop-index.invariant in
    let there = unadded rows start end index c.args.arena.now c.loop-index.arena c.requires.can.0 c.requires.once c.loop-index.auto.index c.loop-index-test.true c.requires.can.1 inv.written inv.room c.count.ensures.lawful in
    record {
      written = written_more (IsAddedRow c.args.arena.now) rows start c.args.arena.now end index c.loop-index.arena c.add_row.new.arena c.requires.once c.loop-index.auto.index c.loop-index-test.true inv.written c.add_row.ensures.others
          (c.add_row.ensures.own ∙ ap (λ o. cond row.stays o (Some (free_dart c.loop-index.arena.schema.dim row.name row.dart.values))) there
          ∙ ap (λ (schema : Schema). cond row.stays (get c.args.arena.now.darts row.name) (Some (free_dart schema.dim row.name row.dart.values))) inv.room.schema);
      room = room_more c.args.arena.now c.loop-index.arena c.add_row.new.arena inv.room c.add_row.ensures.room;
      most = one_past index start c.args.steps.now c.loop-index.steps c.add_row.new.steps c.loop-index.auto.index inv.most c.add_row.ensures.cost;
      rises = le_trans inv.rises c.add_row.ensures.rises;
    }

pub returns : goal.returns
returns g c =
    let all : c.loop-index.index ≡ c.args.part.end = le_antisymm (c.loop-index.auto.index-end c.requires.part) c.loop-index-test.false in
    let inv = c.loop-index.invariant in
    record {
      written = subst (λ end. IsWritten (IsAddedRow c.args.arena.now) c.args.rows.now.rows c.args.part.start end c.args.arena.now c.loop-index.arena) all inv.written;
      room = inv.room;
      cost = subst (λ end. c.loop-index.steps ≤ c.args.steps.now + (end - c.args.part.start)) all inv.most;
      rises = inv.rises;
    }
