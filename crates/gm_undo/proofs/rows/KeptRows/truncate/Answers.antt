use Rattle.std.proofs.Common.{◌≤◌, length, sym, ap, subst, ◌∙◌, arith}
use Rattle.std.proofs.Common.{List, take}
use Rattle.gm_undo.specs.inner.Flat.{RowsOf, flat_rows}
use Rattle.gm_undo.specs.inner.Kept.{KeptRow}
use Rattle.gm_undo.proofs.Flats.{rows_long, truncated}
use Rattle.std.proofs.lemmas.Nat.{mul-le}
use Rattle.gm_undo.proofs.rows.KeptRows.truncate.Goals as goal

pub overflow_mul-rows : goal.overflow_mul-rows
overflow_mul-rows c =
    let s = c.self.inside in
    let low : c.args.rows ≤ length s.names.items = omega (arith, subst (λ (r : RowsOf). c.args.rows ≤ length r.rows) (sym c.self.view_is) c.requires, rows_long s.labels s.width s.room s.names.items s.staying.items s.neighbours.items s.values.items) in
    omega (arith, mul-le c.args.rows s.labels (length s.names.items) s.labels low (omega arith), c.self.invariant.neighbours_long, s.neighbours.ok.0, s.neighbours.small)

pub overflow_mul-rows-2 : goal.overflow_mul-rows-2
overflow_mul-rows-2 c =
    let s = c.self.inside in
    let low : c.args.rows ≤ length s.names.items = omega (arith, subst (λ (r : RowsOf). c.args.rows ≤ length r.rows) (sym c.self.view_is) c.requires, rows_long s.labels s.width s.room s.names.items s.staying.items s.neighbours.items s.values.items) in
    omega (arith, mul-le c.args.rows s.width (length s.names.items) s.width low (omega arith), c.self.invariant.values_long, s.values.ok.0, s.values.small)

pub returns : goal.returns
returns c =
    let s = c.self.inside in
    let low : c.args.rows ≤ length s.names.items = omega (arith, subst (λ (r : RowsOf). c.args.rows ≤ length r.rows) (sym c.self.view_is) c.requires, rows_long s.labels s.width s.room s.names.items s.staying.items s.neighbours.items s.values.items) in
    (λ i. flat_rows s.labels s.width s.room (c.truncate.ensures.items i) (c.truncate-2.ensures.items i) (c.truncate-3.ensures.items i) (c.truncate-4.ensures.items i))
    ∙ ap (λ (rows : List KeptRow). record { labels = s.labels; width = s.width; room = s.room; rows = rows }) (truncated s.labels s.width s.room s.names.items s.staying.items s.neighbours.items s.values.items c.self.invariant.stays_long c.self.invariant.neighbours_long c.self.invariant.values_long c.args.rows low)
    ∙ ap (λ (r : RowsOf). record { labels = r.labels; width = r.width; room = r.room; rows = take c.args.rows r.rows }) c.self.view_is
