use Rattle.std.proofs.Common.{◌<◌, length, sym, ap, subst, ◌∙◌, arith}
use Rattle.gm_undo.specs.inner.Flat.{RowsOf, row_in}
use Rattle.gm_undo.proofs.Flats.{marked, rows_long}
use Rattle.std.proofs.Common.{set}
use Rattle.gm_undo.specs.inner.Flat.{staying}
use Rattle.gm_undo.proofs.rows.KeptRows.mark_staying.Goals as goal

pub index_mut-requires : goal.index_mut-requires
index_mut-requires c =
    let s = c.self.inside in
    let low : c.args.index < length s.names.items = omega (arith, subst (λ (r : RowsOf). c.args.index < length r.rows) (sym c.self.view_is) c.requires, rows_long s.labels s.width s.room s.names.items s.staying.items s.neighbours.items s.values.items) in
    omega (arith, low, c.self.invariant.stays_long, s.staying.ok.0)

pub returns : goal.returns
returns c =
    let s = c.self.inside in
    let low : c.args.index < length s.names.items = omega (arith, subst (λ (r : RowsOf). c.args.index < length r.rows) (sym c.self.view_is) c.requires, rows_long s.labels s.width s.room s.names.items s.staying.items s.neighbours.items s.values.items) in
    ap (λ rows. record { labels = s.labels; width = s.width; room = s.room; rows = rows }) (marked s.labels s.width s.room s.names.items s.staying.items s.neighbours.items s.values.items c.self.invariant.stays_long c.self.invariant.neighbours_long c.self.invariant.values_long c.args.index low)
    ∙ ap (λ (r : RowsOf). record { labels = r.labels; width = r.width; room = r.room; rows = set r.rows c.args.index (staying (row_in r.rows c.args.index)) }) c.self.view_is
