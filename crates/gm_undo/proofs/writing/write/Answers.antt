use Rattle.std.proofs.Common.{◌≡◌, ◌+◌, ◌-◌, length, ap, ◌∙◌}
use Rattle.std.specs.FinMap.{get}
use Rattle.gm_arena.specs.inner.ArenaMap.{ArenaMap}
use Rattle.gm_arena.proofs.InsideLemmas.{is_some_at}
use Rattle.gm_undo.specs.inner.Flat.{row_in}
use Rattle.gm_undo.specs.inner.Standing.{rows_in}
use Rattle.gm_undo.proofs.Sides.{can_go, can_come, can_link, all_written, cost_rises, cost_within}
use Rattle.gm_undo.proofs.Sums.{never_more}
use Rattle.gm_undo.proofs.writing.write.Goals as goal

pub prove-unreachable-requires : goal.prove-unreachable-requires
prove-unreachable-requires g c = never_more c.args.arena.now c.count.result c.count.ensures.lawful c.count.ensures.count c.if-prove.true

pub free_rows-requires : goal.free_rows-requires
free_rows-requires g c =
    let from = c.requires.can.1.sides.from in
    record {
      part = c.requires.from;
      end = c.requires.from_end;
      once = from.once;
      live = λ k among. is_some_at (get c.args.arena.now.darts (row_in c.args.rows.now.rows k).name) (row_in c.args.rows.now.rows k).dart (from.rows_are k among);
    }

pub remove_rows-requires : goal.remove_rows-requires
remove_rows-requires g c =
    let f = c.free_rows.ensures in
    let schema1 : c.free_rows.new.arena.schema ≡ c.args.arena.now.schema = ap (λ (m : ArenaMap). m.schema) f.frame in
    record {
      part = c.requires.from;
      end = c.requires.from_end;
      once = c.requires.can.1.sides.from.once;
      can = can_go c.args.rows.now.rows c.args.from.start c.args.from.end c.args.to.start c.args.to.end c.args.arena.now c.requires.can.0 c.requires.can.1 c.free_rows.new.arena f.written f.live schema1;
    }

pub add_rows-requires : goal.add_rows-requires
add_rows-requires g c =
    let f = c.free_rows.ensures in
    let schema1 : c.free_rows.new.arena.schema ≡ c.args.arena.now.schema = ap (λ (m : ArenaMap). m.schema) f.frame in
    let total1 : c.free_rows.new.arena.count + c.free_rows.new.arena.spare ≡ c.args.arena.now.count + c.args.arena.now.spare = ap (λ (m : ArenaMap). m.count + m.spare) f.frame in
    let reserved1 : c.free_rows.new.arena.reserved ≡ c.args.arena.now.reserved = ap (λ (m : ArenaMap). m.reserved) f.frame in
    record {
      part = c.requires.to;
      end = c.requires.to_end;
      once = c.requires.can.1.sides.to.once;
      can = (c.requires.can.0, can_come c.args.rows.now.rows c.args.from.start c.args.from.end c.args.to.start c.args.to.end c.args.arena.now c.requires.can.0 c.requires.can.1 c.free_rows.new.arena f.written f.live schema1 c.remove_rows.new.arena c.remove_rows.ensures.written c.remove_rows.ensures.room total1 reserved1);
    }

pub link_rows-requires : goal.link_rows-requires
link_rows-requires g c =
    let f = c.free_rows.ensures in
    let schema1 : c.free_rows.new.arena.schema ≡ c.args.arena.now.schema = ap (λ (m : ArenaMap). m.schema) f.frame in
    let total1 : c.free_rows.new.arena.count + c.free_rows.new.arena.spare ≡ c.args.arena.now.count + c.args.arena.now.spare = ap (λ (m : ArenaMap). m.count + m.spare) f.frame in
    let reserved1 : c.free_rows.new.arena.reserved ≡ c.args.arena.now.reserved = ap (λ (m : ArenaMap). m.reserved) f.frame in
    record {
      part = c.requires.to;
      end = c.requires.to_end;
      once = c.requires.can.1.sides.to.once;
      can = can_link c.args.rows.now.rows c.args.from.start c.args.from.end c.args.to.start c.args.to.end c.args.arena.now c.requires.can.0 c.requires.can.1 c.free_rows.new.arena f.written f.live schema1 c.remove_rows.new.arena c.remove_rows.ensures.written c.remove_rows.ensures.room total1 reserved1 c.add_rows.new.arena c.add_rows.ensures.written c.add_rows.ensures.room;
    }

pub returns : goal.returns
returns g c =
    let f = c.free_rows.ensures in
    let schema1 : c.free_rows.new.arena.schema ≡ c.args.arena.now.schema = ap (λ (m : ArenaMap). m.schema) f.frame in
    let total1 : c.free_rows.new.arena.count + c.free_rows.new.arena.spare ≡ c.args.arena.now.count + c.args.arena.now.spare = ap (λ (m : ArenaMap). m.count + m.spare) f.frame in
    let reserved1 : c.free_rows.new.arena.reserved ≡ c.args.arena.now.reserved = ap (λ (m : ArenaMap). m.reserved) f.frame in
    let schema3 : c.add_rows.new.arena.schema ≡ c.args.arena.now.schema = c.add_rows.ensures.room.schema ∙ c.remove_rows.ensures.room.schema ∙ schema1 in
    let lawful = c.count.ensures.lawful in
    record {
      rows = λ there can next.
          let darts : c.link_rows.new.arena.darts ≡ there.darts = all_written c.args.rows.now.rows c.args.from.start c.args.from.end c.args.to.start c.args.to.end c.args.arena.now there can c.free_rows.new.arena f.written f.live schema1 c.remove_rows.new.arena c.remove_rows.ensures.written c.remove_rows.ensures.room total1 reserved1 c.add_rows.new.arena c.add_rows.ensures.written c.add_rows.ensures.room c.link_rows.new.arena c.link_rows.ensures.written in
          ap rows_in c.set_next.ensures ∙ (λ i. record { darts = darts i; next = next i });
      room = record {
        schema = ap (λ (m : ArenaMap). m.schema) c.set_next.ensures ∙ ap (λ (m : ArenaMap). m.schema) c.link_rows.ensures.frame ∙ schema3;
        reserved = ap (λ (m : ArenaMap). m.reserved) c.set_next.ensures ∙ ap (λ (m : ArenaMap). m.reserved) c.link_rows.ensures.frame ∙ c.add_rows.ensures.room.reserved ∙ c.remove_rows.ensures.room.reserved ∙ reserved1;
        total = ap (λ (m : ArenaMap). m.count + m.spare) c.set_next.ensures ∙ ap (λ (m : ArenaMap). m.count + m.spare) c.link_rows.ensures.frame ∙ c.add_rows.ensures.room.total ∙ c.remove_rows.ensures.room.total ∙ total1;
      };
      cost = cost_within c.args.arena.now.schema.dim (length c.args.arena.now.schema.embeds) (c.args.from.end - c.args.from.start) (c.args.to.end - c.args.to.start) c.args.steps.now c.free_rows.new.steps c.remove_rows.new.steps c.add_rows.new.steps c.link_rows.new.steps
          lawful.dim.0 lawful.schema.count f.cost c.remove_rows.ensures.cost c.add_rows.ensures.cost (rw schema3 at c.link_rows.ensures.cost);
      rises = cost_rises c.args.steps.now c.free_rows.new.steps c.remove_rows.new.steps c.add_rows.new.steps c.link_rows.new.steps _ _ f.cost c.remove_rows.ensures.rises c.add_rows.ensures.rises c.link_rows.ensures.cost;
    }
