use Rattle.std.proofs.Common.{◌≡◌, ℕ, ◌*◌, ◌<◌, length, sym, ap, ◌∙◌, inl, inr, arith}
use Rattle.std.proofs.lemmas.Bool.{cases_lt}
use Rattle.gm_undo.specs.inner.Flat.{RowsOf}
use Rattle.gm_undo.proofs.Flats.{rows_long}
use Rattle.gm_undo.proofs.rows.KeptRows.grow.Goals as goal

-- where the shape changes there are no rows yet
still_long : (n old new long : ℕ) → long ≡ n * old → (0 < n → new ≡ old) → long ≡ n * new
still_long n old new long is same = elim (cases_lt 0 n) [
  | inl some ↦ is ∙ ap (λ k. n * k) (sym (same some))
  | inr none ↦
      let zero : n ≡ 0 = omega arith in
      let before : n * old ≡ 0 = rw zero (omega arith) in
      let after : n * new ≡ 0 = rw zero (omega arith) in
      omega (arith, is, before, after)
]

pub invariant_of-self-2 : goal.invariant_of-self-2
invariant_of-self-2 c =
    let s = c.self.inside in
    let some : 0 < length s.names.items → 0 < length c.args.self.now.rows = λ h. omega (arith, h, rows_long s.labels s.width s.room s.names.items s.staying.items s.neighbours.items s.values.items, ap (λ (r : RowsOf). length r.rows) c.self.view_is) in
    record {
      stays_long = ap length c.make_room-2.ensures.items ∙ c.self.invariant.stays_long ∙ sym (ap length c.make_room.ensures.items);
      neighbours_long = rw (c.make_room.ensures.items, c.make_room-3.ensures.items) (still_long (length s.names.items) s.labels c.args.labels (length s.neighbours.items) c.self.invariant.neighbours_long (λ h. c.requires.labels (some h) ∙ sym (ap (λ (r : RowsOf). r.labels) c.self.view_is)));
      values_long = rw (c.make_room.ensures.items, c.make_room-4.ensures.items) (still_long (length s.names.items) s.width c.args.width (length s.values.items) c.self.invariant.values_long (λ h. c.requires.width (some h) ∙ sym (ap (λ (r : RowsOf). r.width) c.self.view_is)));
      names_fit = c.in_ok-make_room.ensures.room;
      stays_fit = c.in_ok-make_room-2.ensures.room;
      neighbours_fit = omega (arith, c.in_ok-make_room-3.ensures.room, c.in_ok-neighbours.ensures);
      values_fit = omega (arith, c.in_ok-make_room-4.ensures.room, c.in_ok-values.ensures);
    }
