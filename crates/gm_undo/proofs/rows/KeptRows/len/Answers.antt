use Rattle.std.proofs.Common.{length, sym, ap, ◌∙◌}
use Rattle.gm_undo.specs.inner.Flat.{RowsOf}
use Rattle.gm_undo.proofs.Flats.{rows_long}
use Rattle.gm_undo.proofs.rows.KeptRows.len.Goals as goal

pub returns : goal.returns
returns c =
    let s = c.self.inside in
    c.len.ensures ∙ s.names.ok.0 ∙ sym (rows_long s.labels s.width s.room s.names.items s.staying.items s.neighbours.items s.values.items) ∙ ap (λ (r : RowsOf). length r.rows) c.self.view_is
