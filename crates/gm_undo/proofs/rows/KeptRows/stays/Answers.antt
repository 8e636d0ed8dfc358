use Rattle.std.proofs.Common.{◌<◌, length, sym, ap, subst, ◌∙◌, arith}
use Rattle.std.proofs.Common.{false}
use Rattle.std.proofs.lemmas.List.{get_or_default}
use Rattle.gm_undo.specs.inner.Flat.{RowsOf, row_in}
use Rattle.gm_undo.specs.inner.Kept.{KeptRow}
use Rattle.gm_undo.proofs.Flats.{row_is, rows_long}
use Rattle.gm_undo.proofs.rows.KeptRows.stays.Goals as goal

pub index-requires : goal.index-requires
index-requires c =
    let s = c.self.inside in
    let low : c.args.index < length s.names.items = omega (arith, subst (λ (r : RowsOf). c.args.index < length r.rows) (sym c.self.view_is) c.requires, rows_long s.labels s.width s.room s.names.items s.staying.items s.neighbours.items s.values.items) in
    omega (arith, low, c.self.invariant.stays_long, s.staying.ok.0)

pub returns : goal.returns
returns c =
    let s = c.self.inside in
    let low : c.args.index < length s.names.items = omega (arith, subst (λ (r : RowsOf). c.args.index < length r.rows) (sym c.self.view_is) c.requires, rows_long s.labels s.width s.room s.names.items s.staying.items s.neighbours.items s.values.items) in
    c.index.ensures ∙ get_or_default s.staying.items c.args.index _ false (omega (arith, low, c.self.invariant.stays_long)) ∙ sym (ap (λ (r : KeptRow). r.stays) (row_is s.labels s.width s.room s.names.items s.staying.items s.neighbours.items s.values.items c.args.index _ low)) ∙ ap (λ (r : RowsOf). (row_in r.rows c.args.index).stays) c.self.view_is
