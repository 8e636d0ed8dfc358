-- The rows of a change, as a part of all the kept rows.
use Rattle.std.proofs.Common.{◌≡◌, ◌≢◌, ℕ, ◌+◌, ◌-◌, ◌<◌, ◌≤◌, true, false, Bool, List, [], ◌∷◌, ◌++◌, length, drop, set, Option, Some, None, is_some, slice_get, refl, sym, ap, ◌∙◌, arith}
use Rattle.std.specs.FinMap.{get}
use Rattle.std.specs.List.{slice_range}
use Rattle.std.proofs.lemmas.Bool.{false≢true}
use Rattle.std.proofs.lemmas.List.{get_or_append_left, get_or-append-add, get_or-drop, get_or-take, get_or-set_other, get_or-set_same, length-drop, length-take-le}
use Rattle.std.proofs.lemmas.Option.{get_or_from_slice_get, slice_get-get_or, slice_get_within}
use Rattle.gm_undo.specs.inner.Flat.{row_in, staying}
use Rattle.gm_undo.specs.inner.Kept.{KeptRow}
use Rattle.gm_undo.specs.inner.Standing.{Rows, AreRowsOf, AreSides, IsNoneOf}
use Rattle.gm_undo.specs.inner.Writing.{AreRowsAt, AreSidesAt, IsAmong, IsOutside}

abbrev no_row : KeptRow
no_row = record { name = 0; stays = false; dart = record { alphas = []; values = [] } }

-- ---- one row

pub row_before : (rows : List KeptRow) (row : KeptRow) (k : ℕ) → k < length rows → row_in (rows ++ row ∷ []) k ≡ row_in rows k
row_before rows row k h = get_or_append_left rows (row ∷ []) no_row k h

pub row_behind : (rows : List KeptRow) (row : KeptRow) (k : ℕ) → k ≡ length rows → row_in (rows ++ row ∷ []) k ≡ row
row_behind rows row k is = ap (row_in (rows ++ row ∷ [])) (let e : k ≡ length rows + 0 = omega (arith, is) in e) ∙ get_or-append-add rows (row ∷ []) 0 no_row

pub row_marked : (rows : List KeptRow) (j : ℕ) → j < length rows → row_in (set rows j (staying (row_in rows j))) j ≡ staying (row_in rows j)
row_marked rows j h = get_or-set_same rows j (staying (row_in rows j)) no_row h

pub row_unmarked : (rows : List KeptRow) (j k : ℕ) → k ≢ j → row_in (set rows j (staying (row_in rows j))) k ≡ row_in rows k
row_unmarked rows j k apart = get_or-set_other rows j k (staying (row_in rows j)) no_row apart

is_some_of : {A : Type 0} (o : Option A) → is_some o ≡ false → o ≡ None
is_some_of None e = refl
is_some_of (Some x) e = absurd (false≢true (sym e))

module _ (rows : List KeptRow) (start end : ℕ) (low : start ≤ end) (high : end ≤ length rows) where
  abbrev range : List KeptRow
  range = slice_range rows start end

  pub range_long : length range ≡ end - start
  range_long = length-take-le (end - start) (drop start rows) (omega (arith, low, high, length-drop start rows))

  range_row : (k : ℕ) → k < end - start → row_in range k ≡ row_in rows (start + k)
  range_row k h = get_or-take (end - start) (drop start rows) k no_row h ∙ get_or-drop start rows k no_row

  pub range_at : (k : ℕ) → IsAmong start end k → slice_get range (k - start) ≡ Some (row_in rows k)
  range_at k among =
      let within : k - start < end - start = omega (arith, among.0, among.1) in
      slice_get-get_or range (k - start) no_row (omega (arith, within, range_long)) ∙ ap Some (range_row (k - start) within ∙ ap (row_in rows) (let e : start + (k - start) ≡ k = omega (arith, among.0) in e))

  pub range_within : (k : ℕ) (row : KeptRow) → slice_get range k ≡ Some row → IsAmong start end (start + k)
  range_within k row is = let h = slice_get_within range k row is in (omega arith, omega (arith, h, range_long))

  pub range_is : (k : ℕ) (row : KeptRow) → slice_get range k ≡ Some row → row_in rows (start + k) ≡ row
  range_is k row is = let h = slice_get_within range k row is in sym (range_row k (omega (arith, h, range_long))) ∙ get_or_from_slice_get range k row no_row is

  -- no row is the dart's, either way
  pub none_of : (d : ℕ) → IsOutside rows start end d → IsNoneOf range d
  none_of d outside k row is e = outside (start + k) (range_within k row is) (e ∙ ap (λ (r : KeptRow). r.name) (sym (range_is k row is)))

  pub outside_of : (d : ℕ) → IsNoneOf range d → IsOutside rows start end d
  outside_of d none k among e = none (k - start) (row_in rows k) (range_at k among) e

  pub rows_at : (here there : Rows) → AreRowsOf range here there → AreRowsAt rows start end here there
  rows_at here there are = record {
    rows_are = λ k among. are.rows (k - start) (row_in rows k) (range_at k among);
    goes = λ k among goes. is_some_of (get there.darts (row_in rows k).name) (sym (are.stays (k - start) (row_in rows k) (range_at k among)) ∙ goes);
    lasts = λ k among not. by (row_in rows k).stays (are.stays (k - start) (row_in rows k) (range_at k among)) not;
    once = λ k l a b same. let e = are.once (k - start) (l - start) (row_in rows k) (row_in rows l) (range_at k a) (range_at l b) same in omega (arith, e, a.0, b.0);
  }
    where
      by : {o : Bool} (b : Bool) → b ≡ o → (b ≡ false → ⊥) → o ≡ true
      by true e not = sym e
      by false e not = absurd (not refl)

  pub rows_of : (here there : Rows) → AreRowsAt rows start end here there → AreRowsOf range here there
  rows_of here there are = record {
    rows = λ k row is. rw (← range_is k row is) (are.rows_are (start + k) (range_within k row is));
    stays = λ k row is. rw (← range_is k row is) (by (row_in rows (start + k)).stays refl (range_within k row is));
    once = λ k l a b at_k at_l same.
        let e = are.once (start + k) (start + l) (range_within k a at_k) (range_within l b at_l) (ap (λ (r : KeptRow). r.name) (range_is k a at_k) ∙ same ∙ sym (ap (λ (r : KeptRow). r.name) (range_is l b at_l))) in
        omega (arith, e);
  }
    where
      by : {k : ℕ} (b : Bool) → (row_in rows k).stays ≡ b → IsAmong start end k → (row_in rows k).stays ≡ is_some (get there.darts (row_in rows k).name)
      by {k = k} true e among = e ∙ sym (are.lasts k among (λ no. false≢true (sym no ∙ e)))
      by {k = k} false e among = e ∙ sym (ap is_some (are.goes k among e))

module _ (rows : List KeptRow) (fs fe ts te : ℕ) (from : fs ≤ fe) (from_high : fe ≤ length rows) (to : ts ≤ te) (to_high : te ≤ length rows) (here there : Rows) where
  pub sides_at : AreSides (slice_range rows fs fe) (slice_range rows ts te) here there → AreSidesAt rows fs fe ts te here there
  sides_at sides = record {
    from = rows_at rows fs fe from from_high here there sides.from;
    to = rows_at rows ts te to to_high there here sides.to;
    from_lasts = λ k among lasts outside. sides.from_lasts (k - fs) (row_in rows k) (range_at rows fs fe from from_high k among) lasts (none_of rows ts te to to_high (row_in rows k).name outside);
    to_lasts = λ k among lasts outside. sides.to_lasts (k - ts) (row_in rows k) (range_at rows ts te to to_high k among) lasts (none_of rows fs fe from from_high (row_in rows k).name outside);
    elsewhere = λ d outside outside'. sides.elsewhere d (none_of rows fs fe from from_high d outside) (none_of rows ts te to to_high d outside');
  }

  pub sides_of : AreSidesAt rows fs fe ts te here there → AreSides (slice_range rows fs fe) (slice_range rows ts te) here there
  sides_of sides = record {
    from = rows_of rows fs fe from from_high here there sides.from;
    to = rows_of rows ts te to to_high there here sides.to;
    from_lasts = λ k row is lasts none.
        let e : row_in rows (fs + k) ≡ row = range_is rows fs fe from from_high k row is in
        sides.from_lasts (fs + k) (range_within rows fs fe from from_high k row is) (rw e lasts) (rw e (outside_of rows ts te to to_high row.name none));
    to_lasts = λ k row is lasts none.
        let e : row_in rows (ts + k) ≡ row = range_is rows ts te to to_high k row is in
        sides.to_lasts (ts + k) (range_within rows ts te to to_high k row is) (rw e lasts) (rw e (outside_of rows fs fe from from_high row.name none));
    elsewhere = λ d none none'. sides.elsewhere d (outside_of rows fs fe from from_high d none) (outside_of rows ts te to to_high d none');
  }

-- the other way round
pub sides_back : (own other : List KeptRow) (here there : Rows) → AreSides own other here there → AreSides other own there here
sides_back own other here there sides = record { from = sides.to; to = sides.from; from_lasts = sides.to_lasts; to_lasts = sides.from_lasts; elsewhere = λ d none none'. sym (sides.elsewhere d none' none) }
