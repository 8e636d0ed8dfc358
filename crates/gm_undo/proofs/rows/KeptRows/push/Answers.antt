use Rattle.gm_undo.proofs.Sums.{never_more}
use Rattle.std.proofs.Common.{◌≡◌, ◌+◌, ◌<◌, List, [], ◌∷◌, ◌++◌, map, length, sym, ap, subst, ◌∙◌, arith, length-append}
use Rattle.std.proofs.lemmas.List.{length-map, length_push}
use Rattle.gm_arena.specs.inner.ArenaMap.{name_at}
use Rattle.gm_arena.specs.declared.slot.Slot.{Slot}
use Rattle.gm_undo.specs.inner.Flat.{RowsOf, flat_rows}
use Rattle.gm_undo.specs.inner.Kept.{KeptRow}
use Rattle.gm_undo.proofs.Flats.{dart_row, more_fits, more_long, pushed, row_whole, rows_long}
use Rattle.gm_undo.proofs.rows.KeptRows.push.Goals as goal

pub push_reserved-requires : goal.push_reserved-requires
push_reserved-requires g c =
    let s = c.self.inside in
    let low : length s.names.items < s.room = omega (arith, subst (λ (r : RowsOf). length r.rows < r.room) (sym c.self.view_is) c.requires.room, rows_long s.labels s.width s.room s.names.items s.staying.items s.neighbours.items s.values.items) in
    omega (arith, low, c.self.invariant.names_fit, s.names.ok.0)

pub push_reserved-requires-2 : goal.push_reserved-requires-2
push_reserved-requires-2 g c =
    let s = c.self.inside in
    let low : length s.names.items < s.room = omega (arith, subst (λ (r : RowsOf). length r.rows < r.room) (sym c.self.view_is) c.requires.room, rows_long s.labels s.width s.room s.names.items s.staying.items s.neighbours.items s.values.items) in
    omega (arith, low, c.self.invariant.stays_fit, c.self.invariant.stays_long, s.staying.ok.0)

pub push_names-requires-clause-room : goal.push_names-requires-clause-room
push_names-requires-clause-room g c =
    let s = c.self.inside in
    let low : length s.names.items < s.room = omega (arith, subst (λ (r : RowsOf). length r.rows < r.room) (sym c.self.view_is) c.requires.room, rows_long s.labels s.width s.room s.names.items s.staying.items s.neighbours.items s.values.items) in
    let whole = row_whole c.args.arena.now c.row-row.result.name c.row-row.result.alphas.now c.row-row.result.values.now c.count.ensures.lawful c.row-row.ensures.dart in
    let labels : length c.row-row.result.alphas.now ≡ s.labels = whole.0 ∙ sym c.requires.labels ∙ sym (ap (λ (r : RowsOf). r.labels) c.self.view_is) in
    let width : length c.row-row.result.values.now ≡ s.width = whole.1 ∙ sym c.requires.width ∙ sym (ap (λ (r : RowsOf). r.width) c.self.view_is) in
    more_fits (length s.names.items) s.room s.labels _ (length s.neighbours.items) (length c.row-row.result.alphas.now) low c.self.invariant.neighbours_fit c.self.invariant.neighbours_long labels

pub push_values-requires : goal.push_values-requires
push_values-requires g c =
    let s = c.self.inside in
    let low : length s.names.items < s.room = omega (arith, subst (λ (r : RowsOf). length r.rows < r.room) (sym c.self.view_is) c.requires.room, rows_long s.labels s.width s.room s.names.items s.staying.items s.neighbours.items s.values.items) in
    let whole = row_whole c.args.arena.now c.row-row.result.name c.row-row.result.alphas.now c.row-row.result.values.now c.count.ensures.lawful c.row-row.ensures.dart in
    let labels : length c.row-row.result.alphas.now ≡ s.labels = whole.0 ∙ sym c.requires.labels ∙ sym (ap (λ (r : RowsOf). r.labels) c.self.view_is) in
    let width : length c.row-row.result.values.now ≡ s.width = whole.1 ∙ sym c.requires.width ∙ sym (ap (λ (r : RowsOf). r.width) c.self.view_is) in
    more_fits (length s.names.items) s.room s.width _ (length s.values.items) (length c.row-row.result.values.now) low c.self.invariant.values_fit c.self.invariant.values_long width

pub invariant_of-self : goal.invariant_of-self
invariant_of-self g c =
    let s = c.self.inside in
    let whole = row_whole c.args.arena.now c.row-row.result.name c.row-row.result.alphas.now c.row-row.result.values.now c.count.ensures.lawful c.row-row.ensures.dart in
    let labels : length c.row-row.result.alphas.now ≡ s.labels = whole.0 ∙ sym c.requires.labels ∙ sym (ap (λ (r : RowsOf). r.labels) c.self.view_is) in
    let width : length c.row-row.result.values.now ≡ s.width = whole.1 ∙ sym c.requires.width ∙ sym (ap (λ (r : RowsOf). r.width) c.self.view_is) in
    let own : length (map (λ (q : Slot). name_at c.args.arena.now q.at) c.row-row.result.alphas.now) ≡ s.labels = length-map c.row-row.result.alphas.now (λ (q : Slot). name_at c.args.arena.now q.at) ∙ labels in
    let n : length c.push_reserved.new.self.items ≡ length s.names.items + 1 = ap length c.push_reserved.ensures.items ∙ length_push s.names.items c.row-row.result.name in
    record {
      stays_long = ap length c.push_reserved-2.ensures.items ∙ length_push s.staying.items c.args.stays ∙ ap (λ k. k + 1) c.self.invariant.stays_long ∙ sym n;
      neighbours_long = rw n (more_long (length s.names.items) s.labels (length s.neighbours.items) (length (map (λ (q : Slot). name_at c.args.arena.now q.at) c.row-row.result.alphas.now)) _ c.self.invariant.neighbours_long own (ap length c.push_names.ensures.names ∙ length-append s.neighbours.items (map (λ (q : Slot). name_at c.args.arena.now q.at) c.row-row.result.alphas.now)));
      values_long = rw n (more_long (length s.names.items) s.width (length s.values.items) (length c.row-row.result.values.now) _ c.self.invariant.values_long width (ap length c.push_values.ensures.values ∙ length-append s.values.items c.row-row.result.values.now));
      names_fit = rw c.push_reserved.ensures.capacity c.self.invariant.names_fit;
      stays_fit = rw c.push_reserved-2.ensures.capacity c.self.invariant.stays_fit;
      neighbours_fit = rw c.push_names.ensures.capacity c.self.invariant.neighbours_fit;
      values_fit = rw c.push_values.ensures.capacity c.self.invariant.values_fit;
    }

pub returns-clause-row : goal.returns-clause-row
returns-clause-row g c dart is =
    let s = c.self.inside in
    let whole = row_whole c.args.arena.now c.row-row.result.name c.row-row.result.alphas.now c.row-row.result.values.now c.count.ensures.lawful c.row-row.ensures.dart in
    let labels : length c.row-row.result.alphas.now ≡ s.labels = whole.0 ∙ sym c.requires.labels ∙ sym (ap (λ (r : RowsOf). r.labels) c.self.view_is) in
    let width : length c.row-row.result.values.now ≡ s.width = whole.1 ∙ sym c.requires.width ∙ sym (ap (λ (r : RowsOf). r.width) c.self.view_is) in
    let own : length (map (λ (q : Slot). name_at c.args.arena.now q.at) c.row-row.result.alphas.now) ≡ s.labels = length-map c.row-row.result.alphas.now (λ (q : Slot). name_at c.args.arena.now q.at) ∙ labels in
    let new : KeptRow = record { name = c.row-row.result.name; stays = c.args.stays; dart = record { alphas = (map (λ (q : Slot). name_at c.args.arena.now q.at) c.row-row.result.alphas.now); values = c.row-row.result.values.now } } in
    (λ i. flat_rows s.labels s.width s.room (c.push_reserved.ensures.items i) (c.push_reserved-2.ensures.items i) (c.push_names.ensures.names i) (c.push_values.ensures.values i))
    ∙ ap (λ (rows : List KeptRow). record { labels = s.labels; width = s.width; room = s.room; rows = rows }) (pushed s.labels s.width s.room s.names.items s.staying.items s.neighbours.items s.values.items c.self.invariant.stays_long c.self.invariant.neighbours_long c.self.invariant.values_long c.row-row.result.name c.args.stays (map (λ (q : Slot). name_at c.args.arena.now q.at) c.row-row.result.alphas.now) c.row-row.result.values.now own width)
    ∙ ap (λ (r : RowsOf). record { labels = r.labels; width = r.width; room = r.room; rows = r.rows ++ new ∷ [] }) c.self.view_is
    ∙ ap (λ (row : KeptRow). record { labels = c.args.self.now.labels; width = c.args.self.now.width; room = c.args.self.now.room; rows = c.args.self.now.rows ++ row ∷ [] }) (dart_row c.args.arena.now c.args.slot.at c.row-row.result.name (map (λ (q : Slot). name_at c.args.arena.now q.at) c.row-row.result.alphas.now) c.row-row.result.values.now dart c.args.stays c.row-row.ensures.name c.row-row.ensures.dart is)

pub returns-clause-cost : goal.returns-clause-cost
returns-clause-cost g c =
    let whole = row_whole c.args.arena.now c.row-row.result.name c.row-row.result.alphas.now c.row-row.result.values.now c.count.ensures.lawful c.row-row.ensures.dart in
    omega (arith, c.row-row.ensures.cost, c.push_names.ensures.cost, whole.0)

pub prove-unreachable-requires : goal.prove-unreachable-requires
prove-unreachable-requires g c = never_more c.args.arena.now c.count.result c.count.ensures.lawful c.count.ensures.count c.if-prove.true
