-- A map that is a grid is sound: its neighbours are live and point back, the labels 0 and 2 commute, and the darts around a corner have one point.
use Rattle.std.proofs.Common.{◌≡◌, ℕ, zero, suc, ◌+◌, ◌*◌, ◌-◌, ◌/◌, ◌<◌, ◌≤◌, true, false, IsTrue, FitsSigned, List, [], ◌∷◌, inl, inr, refl, sym, ap, ap₂, subst, ◌∙◌, arith, pos, mod-lt, w64}
use Rattle.std.specs.Prelude.{nat_lt}
use Rattle.std.proofs.lemmas.Bool.{cases_lt, false≢true}
use Rattle.std.proofs.lemmas.Bool.Decides.{nat_tests}
use Rattle.std.proofs.lemmas.Nat.{div-add-mod', div_below}
use Rattle.gm_model.specs.declared.schema.Embed.{Embed}
use Rattle.gm_model.specs.declared.schema.Schema.{Schema}
use Rattle.gm_model.specs.declared.value.Kind.TheVariants as kinds
use Rattle.gm_model.specs.declared.value.Value.TheVariants.{Vec3}
use Rattle.gm_model.specs.Maps.{Map, IsDart, IsEmbedAt, IsMap, IsGeneralised, IsWellEmbedded, IsSound, type_of}
use Rattle.gm_model.specs.Orbits.{IsPathIn, follow}
use Rattle.gm_model.specs.Values.{IsValueOf}
use Rattle.gm_grid.specs.GridMap.{positions, grid_schema, dart_count, along, around, corner_x, corner_y, dart, across, neighbour, point, IsGridMap}
use Rattle.gm_grid.specs.inner.Building.{row_of, column_of, number_of}
use Rattle.gm_grid.proofs.Finished.{dart_below}
use Rattle.gm_grid.proofs.GridSchema.{only_positions, label_low}

-- ---- one square

-- what holds of the numbers from 0 to 7 holds of each number of a dart in its square
each_number : (P : ℕ → Type 0) → P 0 → P 1 → P 2 → P 3 → P 4 → P 5 → P 6 → P 7 → (k : ℕ) → k < 8 → P k
each_number P a b c d e f g h zero small = a
each_number P a b c d e f g h (suc zero) small = b
each_number P a b c d e f g h (suc (suc zero)) small = c
each_number P a b c d e f g h (suc (suc (suc zero))) small = d
each_number P a b c d e f g h (suc (suc (suc (suc zero)))) small = e
each_number P a b c d e f g h (suc (suc (suc (suc (suc zero))))) small = f
each_number P a b c d e f g h (suc (suc (suc (suc (suc (suc zero)))))) small = g
each_number P a b c d e f g h (suc (suc (suc (suc (suc (suc (suc zero))))))) small = h
each_number P a b c d e f g h (suc (suc (suc (suc (suc (suc (suc (suc k)))))))) small = absurd (omega (arith, small))

pub below_from : (a b : ℕ) → nat_lt a b ≡ true → a < b
below_from a b is = grind (arith, nat_tests, is)

along_low : (k : ℕ) → k < 8 → along k < 8
along_low k small = below_from (along k) 8 (each_number (λ k. nat_lt (along k) 8 ≡ true) refl refl refl refl refl refl refl refl k small)

along_back : (k : ℕ) → k < 8 → along (along k) ≡ k
along_back = each_number (λ k. along (along k) ≡ k) refl refl refl refl refl refl refl refl

around_low : (k : ℕ) → k < 8 → around k < 8
around_low k small = below_from (around k) 8 (each_number (λ k. nat_lt (around k) 8 ≡ true) refl refl refl refl refl refl refl refl k small)

around_back : (k : ℕ) → k < 8 → around (around k) ≡ k
around_back = each_number (λ k. around (around k) ≡ k) refl refl refl refl refl refl refl refl

corner_x_low : (k : ℕ) → k < 8 → corner_x k < 5
corner_x_low k small = below_from (corner_x k) 5 (each_number (λ k. nat_lt (corner_x k) 5 ≡ true) refl refl refl refl refl refl refl refl k small)

corner_y_low : (k : ℕ) → k < 8 → corner_y k < 5
corner_y_low k small = below_from (corner_y k) 5 (each_number (λ k. nat_lt (corner_y k) 5 ≡ true) refl refl refl refl refl refl refl refl k small)

one_corner : (row column k : ℕ) → k < 8 → point row column (around k) ≡ point row column k
one_corner row column = each_number (λ k. point row column (around k) ≡ point row column k) refl refl refl refl refl refl refl refl

same_point : (row column k row' column' k' : ℕ) → 4 * column + corner_x k ≡ 4 * column' + corner_x k' → 4 * row + corner_y k ≡ 4 * row' + corner_y k' → point row column k ≡ point row' column' k'
same_point row column k row' column' k' x_is y_is = ap₂ (λ x y. Vec3 (pos x) (pos y) (pos 0)) x_is y_is

-- ---- across a seam

-- The dart of row' and column' at k' meets that of row and column at k, and so do the other darts of their sides; on the border a dart meets itself.
record Meets (m row column k row' column' k' : ℕ) : Type 0 where
  row_low : row' < m
  column_low : column' < m
  number_low : k' < 8
  there : across m row column k ≡ dart m row' column' k'
  back : across m row' column' k' ≡ dart m row column k
  beside : across m row column (along k) ≡ dart m row' column' (along k')
  one_point : point row' column' k' ≡ point row column k

abbrev Met : ℕ → ℕ → ℕ → ℕ → Type 0
Met m row column k = (row' : ℕ) × (column' : ℕ) × (k' : ℕ) × Meets m row column k row' column' k'

-- a row and the next
module _ (m row column : ℕ) (row_low : row + 1 < m) (column_low : column < m) where
  next_row : nat_lt (row + 1) m ≡ true
  next_row = grind (arith, nat_tests, row_low)

  row_before : nat_lt 0 (row + 1) ≡ true
  row_before = grind (arith, nat_tests)

  row_again : row + 1 - 1 ≡ row
  row_again = omega arith

  down_4 : across m row column 4 ≡ dart m (row + 1) column 1
  down_4 = rw next_row refl

  down_5 : across m row column 5 ≡ dart m (row + 1) column 0
  down_5 = rw next_row refl

  up_0 : across m (row + 1) column 0 ≡ dart m row column 5
  up_0 = rw (row_before, row_again) refl

  up_1 : across m (row + 1) column 1 ≡ dart m row column 4
  up_1 = rw (row_before, row_again) refl

  meets_4 : Meets m row column 4 (row + 1) column 1
  meets_4 = record { row_low = row_low; column_low = column_low; number_low = omega arith; there = down_4; back = up_1; beside = down_5; one_point = same_point (row + 1) column 1 row column 4 (omega arith) (omega arith) }

  meets_5 : Meets m row column 5 (row + 1) column 0
  meets_5 = record { row_low = row_low; column_low = column_low; number_low = omega arith; there = down_5; back = up_0; beside = down_4; one_point = same_point (row + 1) column 0 row column 5 (omega arith) (omega arith) }

  meets_0 : Meets m (row + 1) column 0 row column 5
  meets_0 = record { row_low = omega (arith, row_low); column_low = column_low; number_low = omega arith; there = up_0; back = down_5; beside = up_1; one_point = sym meets_5.one_point }

  meets_1 : Meets m (row + 1) column 1 row column 4
  meets_1 = record { row_low = omega (arith, row_low); column_low = column_low; number_low = omega arith; there = up_1; back = down_4; beside = up_0; one_point = sym meets_4.one_point }

-- a column and the next
module _ (m row column : ℕ) (row_low : row < m) (column_low : column + 1 < m) where
  next_column : nat_lt (column + 1) m ≡ true
  next_column = grind (arith, nat_tests, column_low)

  column_before : nat_lt 0 (column + 1) ≡ true
  column_before = grind (arith, nat_tests)

  column_again : column + 1 - 1 ≡ column
  column_again = omega arith

  right_2 : across m row column 2 ≡ dart m row (column + 1) 7
  right_2 = rw next_column refl

  right_3 : across m row column 3 ≡ dart m row (column + 1) 6
  right_3 = rw next_column refl

  left_6 : across m row (column + 1) 6 ≡ dart m row column 3
  left_6 = rw (column_before, column_again) refl

  left_7 : across m row (column + 1) 7 ≡ dart m row column 2
  left_7 = rw (column_before, column_again) refl

  meets_2 : Meets m row column 2 row (column + 1) 7
  meets_2 = record { row_low = row_low; column_low = column_low; number_low = omega arith; there = right_2; back = left_7; beside = right_3; one_point = same_point row (column + 1) 7 row column 2 (omega arith) (omega arith) }

  meets_3 : Meets m row column 3 row (column + 1) 6
  meets_3 = record { row_low = row_low; column_low = column_low; number_low = omega arith; there = right_3; back = left_6; beside = right_2; one_point = same_point row (column + 1) 6 row column 3 (omega arith) (omega arith) }

  meets_6 : Meets m row (column + 1) 6 row column 3
  meets_6 = record { row_low = row_low; column_low = omega (arith, column_low); number_low = omega arith; there = left_6; back = right_3; beside = left_7; one_point = sym meets_3.one_point }

  meets_7 : Meets m row (column + 1) 7 row column 2
  meets_7 = record { row_low = row_low; column_low = omega (arith, column_low); number_low = omega arith; there = left_7; back = right_2; beside = left_6; one_point = sym meets_2.one_point }

module _ (m row column : ℕ) (row_low : row < m) (column_low : column < m) where
  -- on the border
  alone : (k : ℕ) → k < 8 → across m row column k ≡ dart m row column k → across m row column (along k) ≡ dart m row column (along k) → Met m row column k
  alone k small there beside = (row, column, k, record { row_low = row_low; column_low = column_low; number_low = small; there = there; back = there; beside = beside; one_point = refl })

  met : (k : ℕ) → k < 8 → Met m row column k
  met = each_number (Met m row column) met_0 met_1 met_2 met_3 met_4 met_5 met_6 met_7
    where
      earlier_row : (k : ℕ) → 0 < row → Met m (row - 1 + 1) column k → Met m row column k
      earlier_row k some there = subst (λ r. Met m r column k) (omega (arith, some)) there

      earlier_column : (k : ℕ) → 0 < column → Met m row (column - 1 + 1) k → Met m row column k
      earlier_column k some there = subst (λ c. Met m row c k) (omega (arith, some)) there

      not_below : (a b : ℕ) → b ≤ a → nat_lt a b ≡ false
      not_below a b is = grind (arith, nat_tests, is)

      met_0 : Met m row column 0
      met_0 = elim (cases_lt 0 row) [
        | inl some ↦ earlier_row 0 some (row - 1, column, 5, meets_0 m (row - 1) column (omega (arith, some, row_low)) column_low)
        | inr none ↦ alone 0 (omega arith) (rw (not_below 0 row none) refl) (rw (not_below 0 row none) refl)
      ]

      met_1 : Met m row column 1
      met_1 = elim (cases_lt 0 row) [
        | inl some ↦ earlier_row 1 some (row - 1, column, 4, meets_1 m (row - 1) column (omega (arith, some, row_low)) column_low)
        | inr none ↦ alone 1 (omega arith) (rw (not_below 0 row none) refl) (rw (not_below 0 row none) refl)
      ]

      met_2 : Met m row column 2
      met_2 = elim (cases_lt (column + 1) m) [
        | inl some ↦ (row, column + 1, 7, meets_2 m row column row_low some)
        | inr none ↦ alone 2 (omega arith) (rw (not_below (column + 1) m none) refl) (rw (not_below (column + 1) m none) refl)
      ]

      met_3 : Met m row column 3
      met_3 = elim (cases_lt (column + 1) m) [
        | inl some ↦ (row, column + 1, 6, meets_3 m row column row_low some)
        | inr none ↦ alone 3 (omega arith) (rw (not_below (column + 1) m none) refl) (rw (not_below (column + 1) m none) refl)
      ]

      met_4 : Met m row column 4
      met_4 = elim (cases_lt (row + 1) m) [
        | inl some ↦ (row + 1, column, 1, meets_4 m row column some column_low)
        | inr none ↦ alone 4 (omega arith) (rw (not_below (row + 1) m none) refl) (rw (not_below (row + 1) m none) refl)
      ]

      met_5 : Met m row column 5
      met_5 = elim (cases_lt (row + 1) m) [
        | inl some ↦ (row + 1, column, 0, meets_5 m row column some column_low)
        | inr none ↦ alone 5 (omega arith) (rw (not_below (row + 1) m none) refl) (rw (not_below (row + 1) m none) refl)
      ]

      met_6 : Met m row column 6
      met_6 = elim (cases_lt 0 column) [
        | inl some ↦ earlier_column 6 some (row, column - 1, 3, meets_6 m row (column - 1) row_low (omega (arith, some, column_low)))
        | inr none ↦ alone 6 (omega arith) (rw (not_below 0 column none) refl) (rw (not_below 0 column none) refl)
      ]

      met_7 : Met m row column 7
      met_7 = elim (cases_lt 0 column) [
        | inl some ↦ earlier_column 7 some (row, column - 1, 2, meets_7 m row (column - 1) row_low (omega (arith, some, column_low)))
        | inr none ↦ alone 7 (omega arith) (rw (not_below 0 column none) refl) (rw (not_below 0 column none) refl)
      ]

-- ---- along each label

-- where the neighbour of a dart lies, from which the label leads back
record Turn (m i row column k : ℕ) : Type 0 where
  to_row : ℕ
  to_column : ℕ
  to_number : ℕ
  row_low : to_row < m
  column_low : to_column < m
  number_low : to_number < 8
  there : neighbour m i row column k ≡ dart m to_row to_column to_number
  back : neighbour m i to_row to_column to_number ≡ dart m row column k
  one_point : 0 < i → point to_row to_column to_number ≡ point row column k

turn : (m i row column k : ℕ) → i ≤ 2 → row < m → column < m → k < 8 → Turn m i row column k
turn m zero row column k low_label row_low column_low number_low = record {
  to_row = row;
  to_column = column;
  to_number = along k;
  row_low = row_low;
  column_low = column_low;
  number_low = along_low k number_low;
  there = refl;
  back = ap (dart m row column) (along_back k number_low);
  one_point = λ positive. absurd (omega (arith, positive));
}
turn m (suc zero) row column k low_label row_low column_low number_low = record {
  to_row = row;
  to_column = column;
  to_number = around k;
  row_low = row_low;
  column_low = column_low;
  number_low = around_low k number_low;
  there = refl;
  back = ap (dart m row column) (around_back k number_low);
  one_point = λ positive. one_corner row column k number_low;
}
turn m (suc (suc zero)) row column k low_label row_low column_low number_low =
    let (row', column', k', meets) = met m row column row_low column_low k number_low in record {
      to_row = row';
      to_column = column';
      to_number = k';
      row_low = meets.row_low;
      column_low = meets.column_low;
      number_low = meets.number_low;
      there = meets.there;
      back = meets.back;
      one_point = λ positive. meets.one_point;
    }
turn m (suc (suc (suc i))) row column k low_label row_low column_low number_low = absurd (omega (arith, low_label))

-- ---- the map

some_rows : (m d : ℕ) → d < dart_count m → 0 < m
some_rows zero d below = absurd (omega (arith, below))
some_rows (suc m) d below = omega arith

small_fits : (n : ℕ) → n ≤ 1000 → FitsSigned w64 (pos n)
small_fits n small = record { sfits = omega (arith, small) }

module _ (m : ℕ) (small : m ≤ 100) (map : Map) (grid : IsGridMap m map) where
  -- what holds of each dart of each square holds of each dart
  pub by_square : (P : ℕ → Type 0) → ((row column k : ℕ) → row < m → column < m → k < 8 → P (dart m row column k)) → (d : ℕ) → IsDart map d → P d
  by_square P holds d live =
      let below : d < dart_count m = (grid.darts d).0 live in
      let some : 0 < m = some_rows m d below in
      let same : dart m (row_of m d) (column_of m d) (number_of d) ≡ d = omega (arith, div-add-mod' (d / 8) m) in
      subst P same (holds (row_of m d) (column_of m d) (number_of d) (div_below (d / 8) m m some (omega (arith, below))) (mod-lt (d / 8) some) (omega arith))

  dimension_is : map.schema.dim ≡ 2
  dimension_is = ap (λ (s : Schema). s.dim) grid.schema_is

  module _ (row column k : ℕ) (row_low : row < m) (column_low : column < m) (number_low : k < 8) where
    live : IsDart map (dart m row column k)
    live = (grid.darts (dart m row column k)).1 (dart_below m row column k row_low column_low number_low)

    leads : (i : ℕ) → i ≤ 2 → map.alpha i (dart m row column k) ≡ neighbour m i row column k
    leads i low_label = grid.neighbours row column k i row_low column_low number_low low_label

  module _ (row column k : ℕ) (row_low : row < m) (column_low : column < m) (number_low : k < 8) where
    module _ (i : ℕ) (low_label : i ≤ 2) where
      to : Turn m i row column k
      to = turn m i row column k low_label row_low column_low number_low

      arrives : map.alpha i (dart m row column k) ≡ dart m to.to_row to.to_column to.to_number
      arrives = leads row column k row_low column_low number_low i low_label ∙ to.there

      square_stays : IsDart map (map.alpha i (dart m row column k))
      square_stays = subst (IsDart map) (sym arrives) (live to.to_row to.to_column to.to_number to.row_low to.column_low to.number_low)

      square_back : map.alpha i (map.alpha i (dart m row column k)) ≡ dart m row column k
      square_back = ap (map.alpha i) arrives ∙ (leads to.to_row to.to_column to.to_number to.row_low to.column_low to.number_low i low_label ∙ to.back)

      square_point : 0 < i → map.value 0 (dart m row column k) ≡ map.value 0 (map.alpha i (dart m row column k))
      square_point positive =
          grid.points row column k row_low column_low number_low
          ∙ (sym (to.one_point positive) ∙ (sym (grid.points to.to_row to.to_column to.to_number to.row_low to.column_low to.number_low) ∙ ap (map.value 0) (sym arrives)))

    square_commutes : map.alpha 0 (map.alpha 2 (dart m row column k)) ≡ map.alpha 2 (map.alpha 0 (dart m row column k))
    square_commutes =
        let (row', column', k', meets) = met m row column row_low column_low k number_low in
        let first : map.alpha 0 (map.alpha 2 (dart m row column k)) ≡ dart m row' column' (along k') =
        ap (map.alpha 0) (leads row column k row_low column_low number_low 2 (omega arith) ∙ meets.there) ∙ leads row' column' k' meets.row_low meets.column_low meets.number_low 0 (omega arith) in
        let second : map.alpha 2 (map.alpha 0 (dart m row column k)) ≡ dart m row' column' (along k') =
        ap (map.alpha 2) (leads row column k row_low column_low number_low 0 (omega arith)) ∙ (leads row column (along k) row_low column_low (along_low k number_low) 2 (omega arith) ∙ meets.beside) in
        first ∙ sym second

    square_value : IsValueOf kinds.Vec3 (map.value 0 (dart m row column k))
    square_value = subst (IsValueOf kinds.Vec3) (sym (grid.points row column k row_low column_low number_low)) (record {
      kind_is = refl;
      range = (
        small_fits (4 * column + corner_x k) (omega (arith, column_low, small, corner_x_low k number_low)),
        small_fits (4 * row + corner_y k) (omega (arith, row_low, small, corner_y_low k number_low)),
        small_fits 0 (omega arith),
      );
    })

  stays : (d i : ℕ) → IsDart map d → i ≤ 2 → IsDart map (map.alpha i d)
  stays d i here low_label = by_square (λ d. IsDart map (map.alpha i d)) (λ row column k row_low column_low number_low. square_stays row column k row_low column_low number_low i low_label) d here

  commutes : (d i j : ℕ) → IsDart map d → i + 2 ≤ j → j ≤ 2 → map.alpha i (map.alpha j d) ≡ map.alpha j (map.alpha i d)
  commutes d i j here apart low_label =
      let first : 0 ≡ i = omega (arith, apart, low_label) in
      let last : 2 ≡ j = omega (arith, apart, low_label) in
      subst (λ i. map.alpha i (map.alpha j d) ≡ map.alpha j (map.alpha i d)) first (subst (λ j. map.alpha 0 (map.alpha j d) ≡ map.alpha j (map.alpha 0 d)) last
      (by_square (λ d. map.alpha 0 (map.alpha 2 d) ≡ map.alpha 2 (map.alpha 0 d)) square_commutes d here))

  generalised : IsGeneralised map
  generalised = record {
    stays = λ d i here low_label. stays d i here (subst (λ n. i ≤ n) dimension_is low_label);
    back = λ d i here low_label. by_square (λ d. map.alpha i (map.alpha i d) ≡ d) (λ row column k row_low column_low number_low. square_back row column k row_low column_low number_low i (subst (λ n. i ≤ n) dimension_is low_label)) d here;
    commutes = λ d i j here apart low_label. commutes d i j here apart (subst (λ n. j ≤ n) dimension_is low_label);
  }

  positive : (i : ℕ) → IsTrue (type_of positions i) → 0 < i
  positive zero there = absurd (false≢true there)
  positive (suc i) there = omega arith

  one_point : (path : List ℕ) (d : ℕ) → IsPathIn (type_of positions) path → IsDart map d → map.value 0 d ≡ map.value 0 (follow map.alpha path d)
  one_point [] d all here = refl
  one_point (i ∷ path) d all here =
      by_square (λ d. map.value 0 d ≡ map.value 0 (map.alpha i d)) (λ row column k row_low column_low number_low. square_point row column k row_low column_low number_low i (label_low i all.0) (positive i all.0)) d here
      ∙ one_point path (map.alpha i d) all.1 (stays d i here (label_low i all.0))

  embed_at : (e : ℕ) (embed : Embed) → IsEmbedAt map.schema e embed → IsEmbedAt grid_schema e embed
  embed_at e embed at = subst (λ s. IsEmbedAt s e embed) grid.schema_is at

  embedded : IsWellEmbedded map
  embedded e embed at d d' here (path, all, is) =
      only_positions (λ e embed. IsPathIn (type_of embed) path → map.value e d ≡ map.value e d') (λ all. one_point path d all here ∙ ap (map.value 0) is) e embed (embed_at e embed at) all

  is_map : IsMap map
  is_map = record {
    below = λ d here. subst (λ n. d < n) (sym grid.next_is) ((grid.darts d).0 here);
    values = λ e d embed at here. only_positions (λ e embed. IsValueOf embed.kind (map.value e d)) (by_square (λ d. IsValueOf kinds.Vec3 (map.value 0 d)) square_value d here) e embed (embed_at e embed at);
  }

  pub is_sound : IsSound map
  is_sound = record { is_map = is_map; generalised = generalised; embedded = embedded }
