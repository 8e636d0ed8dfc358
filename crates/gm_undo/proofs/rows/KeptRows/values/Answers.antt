use Rattle.std.proofs.Common.{◌<◌, length, sym, ap, subst, ◌∙◌, arith}
use Rattle.gm_arena.specs.inner.Parts.{part_of}
use Rattle.gm_undo.specs.inner.Flat.{RowsOf, row_in}
use Rattle.gm_undo.specs.inner.Kept.{KeptRow}
use Rattle.gm_undo.proofs.Flats.{row_is, rows_long, stretch}
use Rattle.gm_undo.proofs.rows.KeptRows.values.Goals as goal

pub part-requires : goal.part-requires
part-requires c =
    let s = c.self.inside in
    let low : c.args.index < length s.names.items = omega (arith, subst (λ (r : RowsOf). c.args.index < length r.rows) (sym c.self.view_is) c.requires, rows_long s.labels s.width s.room s.names.items s.staying.items s.neighbours.items s.values.items) in
    rw c.deref.ensures.value (stretch c.args.index (length s.names.items) s.width (length s.values.items) low c.self.invariant.values_long)

pub returns : goal.returns
returns c =
    let s = c.self.inside in
    let low : c.args.index < length s.names.items = omega (arith, subst (λ (r : RowsOf). c.args.index < length r.rows) (sym c.self.view_is) c.requires, rows_long s.labels s.width s.room s.names.items s.staying.items s.neighbours.items s.values.items) in
    c.part.ensures
    ∙ ap (λ items. part_of s.width items c.args.index) c.deref.ensures.value
    ∙ sym (ap (λ (r : KeptRow). r.dart.values) (row_is s.labels s.width s.room s.names.items s.staying.items s.neighbours.items s.values.items c.args.index _ low))
    ∙ ap (λ (r : RowsOf). (row_in r.rows c.args.index).dart.values) c.self.view_is
