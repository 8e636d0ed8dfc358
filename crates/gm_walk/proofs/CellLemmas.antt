-- How a list of rows grows by a row, and what holds of each of its entries.
use Rattle.std.proofs.Common.{◌≡◌, ℕ, zero, suc, ◌+◌, ◌*◌, ◌/◌, ◌%◌, ◌<◌, ◌≤◌, List, [], ◌∷◌, ◌++◌, length, get_or, take, Some, sym, ap, subst, ◌∙◌, inl, inr, arith, length-append}
use Rattle.std.proofs.Math.Nat.{mul-le-mul_right}
use Rattle.std.proofs.lemmas.Bool.{cases_lt}
use Rattle.std.proofs.lemmas.List.{get_or_append_left, get_or_push, get_or-append-add, get_or-take, length-take-le, length_push}
use Rattle.std.proofs.lemmas.Nat.{div-add-mod'}
use Rattle.std.proofs.lemmas.Option.{slice_get-get_or, slice_get_within, get_or_from_slice_get}
use Rattle.std.specs.List.{slice_get, All}
use Rattle.gm_walk.specs.inner.Cells.{AreCells, AreFirstCells, IsRow}

module _ {X : Type 0} where
  pub no_cells : (P : ℕ → ℕ → X → Type 0) (width : ℕ) → AreCells P 0 width []
  no_cells P width = record { long = omega arith; each = λ p x h k. absurd (omega (arith, h)) }

  pub get_left : (xs ys : List X) (i : ℕ) (v : X) → slice_get xs i ≡ Some v → slice_get (xs ++ ys) i ≡ Some v
  get_left xs ys i v e =
      let within : i < length xs = slice_get_within xs i v e in
      slice_get-get_or (xs ++ ys) i v (omega (arith, length-append xs ys)) ∙ ap Some (get_or_append_left xs ys v i within ∙ get_or_from_slice_get xs i v v e)

  pub get_right : (xs ys : List X) (i : ℕ) (v : X) → slice_get ys i ≡ Some v → slice_get (xs ++ ys) (length xs + i) ≡ Some v
  get_right xs ys i v e =
      let within : i < length ys = slice_get_within ys i v e in
      slice_get-get_or (xs ++ ys) (length xs + i) v (omega (arith, length-append xs ys)) ∙ ap Some (get_or-append-add xs ys i v ∙ get_or_from_slice_get ys i v v e)

  pub get_front : (xs : List X) (n i : ℕ) (v : X) → n ≤ length xs → i < n → slice_get xs i ≡ Some v → slice_get (take n xs) i ≡ Some v
  get_front xs n i v wide h e = slice_get-get_or (take n xs) i v (omega (arith, length-take-le n xs wide)) ∙ ap Some (get_or-take n xs i v h ∙ get_or_from_slice_get xs i v v e)

  module _ (P : ℕ → ℕ → X → Type 0) (width : ℕ) where
    pub no_rows : AreCells P 0 width []
    no_rows = record { long = omega arith; each = λ p x h k. absurd (omega arith) }

    -- one row more
    pub one_row : (rows : ℕ) (list row : List X) → AreCells P rows width list → length row ≡ width → IsRow (P rows) width row → AreCells P (rows + 1) width (list ++ row)
    one_row rows list row cells wide has = record {
      long = omega (arith, cells.long, length-append list row, wide);
      each = λ p x h k. elim (cases_lt p rows) [
        | inl less ↦ earlier p x (cells.each p x less k)
        | inr more ↦ last p x (omega arith) k (has x k)
      ];
    }
      where
        earlier : (p x : ℕ) → (v : X) × (slice_get list (p * width + x) ≡ Some v) × P p x v → (v : X) × (slice_get (list ++ row) (p * width + x) ≡ Some v) × P p x v
        earlier p x (v, e, h) = (v, get_left list row (p * width + x) v e, h)

        last : (p x : ℕ) → rows ≡ p → x < width → (v : X) × (slice_get row x ≡ Some v) × P rows x v → (v : X) × (slice_get (list ++ row) (p * width + x) ≡ Some v) × P p x v
        last p x same k (v, e, h) =
            let at : length list + x ≡ p * width + x = ap (λ n. n + x) (sym cells.long) ∙ ap (λ n. n * width + x) same in
            (v, subst (λ n. slice_get (list ++ row) n ≡ Some v) at (get_right list row x v e), subst (λ q. P q x v) same h)

    -- a part of a row more
    pub part_row : (rows : ℕ) (list row : List X) → AreCells P rows width list → IsRow (P rows) (length row) row → length row < width → AreFirstCells P width (list ++ row)
    part_row rows list row cells has short p x k h = elim (cases_lt p rows) [
      | inl less ↦ earlier (cells.each p x less k)
      | inr more ↦ last (same more)
    ]
      where
        within : p * width + x < rows * width + length row
        within = omega (arith, h, cells.long, length-append list row)

        same : rows ≤ p → rows ≡ p
        same more = elim (cases_lt rows p) [
          | inl past ↦ absurd (omega (arith, within, short, mul-le-mul_right width past))
          | inr here ↦ omega (arith, more, here)
        ]

        earlier : (v : X) × (slice_get list (p * width + x) ≡ Some v) × P p x v → (v : X) × (slice_get (list ++ row) (p * width + x) ≡ Some v) × P p x v
        earlier (v, e, h) = (v, get_left list row (p * width + x) v e, h)

        in_row : rows ≡ p → x < length row
        in_row e = omega (arith, within, ap (λ n. n * width) e)

        there : rows ≡ p → (v : X) × (slice_get row x ≡ Some v) × P rows x v → (v : X) × (slice_get (list ++ row) (p * width + x) ≡ Some v) × P p x v
        there e (v, at, h) =
            let place : length list + x ≡ p * width + x = ap (λ n. n + x) (sym cells.long) ∙ ap (λ n. n * width + x) e in
            (v, subst (λ n. slice_get (list ++ row) n ≡ Some v) place (get_right list row x v at), subst (λ q. P q x v) e h)

        last : rows ≡ p → (v : X) × (slice_get (list ++ row) (p * width + x) ≡ Some v) × P p x v
        last e = there e (has x (in_row e))

    row_of_entry : (rows k : ℕ) → 0 < width → k < rows * width → k / width < rows
    row_of_entry rows k some h = elim (cases_lt (k / width) rows) [
      | inl less ↦ less
      | inr more ↦ absurd (omega (arith, mul-le-mul_right width more, div-add-mod' k width))
    ]

    some_width : (rows k w : ℕ) → k < rows * w → 0 < w
    some_width rows k zero h = absurd (omega arith)
    some_width rows k (suc w) h = omega arith

    -- what each entry has
    pub each_entry : (Q : X → Type 0) (rows : ℕ) (list : List X) → AreCells P rows width list → ((p x : ℕ) (v : X) → P p x v → Q v) → All Q list
    each_entry Q rows list cells implies k d h = go (cells.each (k / width) (k % width) (row_of_entry rows k some within) (omega (arith, some)))
      where
        within : k < rows * width
        within = omega (arith, cells.long)

        some : 0 < width
        some = some_width rows k width within

        go : (v : X) × (slice_get list (k / width * width + k % width) ≡ Some v) × P (k / width) (k % width) v → Q (get_or list k d)
        go (v, e, has) = subst Q (sym (get_or_from_slice_get list k v d (subst (λ n. slice_get list n ≡ Some v) (div-add-mod' k width) e))) (implies (k / width) (k % width) v has)

  -- one entry more in a row
  pub one_entry : (P : ℕ → X → Type 0) (row : List X) (v : X) → IsRow P (length row) row → P (length row) v → IsRow P (length row + 1) (row ++ v ∷ [])
  one_entry P row v has here x h = elim (cases_lt x (length row)) [ inl less ↦ earlier (has x less) | inr more ↦ last (omega arith) ]
    where
      earlier : (w : X) × (slice_get row x ≡ Some w) × P x w → (w : X) × (slice_get (row ++ v ∷ []) x ≡ Some w) × P x w
      earlier (w, e, k) = (w, get_left row (v ∷ []) x w e, k)

      last : length row ≡ x → (w : X) × (slice_get (row ++ v ∷ []) x ≡ Some w) × P x w
      last same = (v, slice_get-get_or (row ++ v ∷ []) x v (omega (arith, length_push row v)) ∙ ap Some (get_or_push row v v x same), subst (λ n. P n v) same here)
