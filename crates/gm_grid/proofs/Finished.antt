-- An arena whose darts are all linked by name is the grid, by rows, columns and numbers.
use Rattle.std.proofs.Common.{◌≡◌, ℕ, zero, suc, ◌+◌, ◌*◌, ◌/◌, ◌%◌, ◌<◌, ◌≤◌, Some, is_some, inl, inr, refl, sym, ap, ◌∙◌, arith, pos}
use Rattle.std.specs.Prelude.{slice_index_or}
use Rattle.std.specs.Option.{option_map_or}
use Rattle.std.specs.FinMap.{get}
use Rattle.std.proofs.lemmas.Bool.{cases_lt, false≢true}
use Rattle.std.proofs.lemmas.Nat.{div-mul-add, mod-mul-add, mul-add-lt}
use Rattle.gm_model.specs.declared.value.Value.TheVariants.{Int}
use Rattle.gm_arena.specs.inner.ArenaAsMap.{as_map}
use Rattle.gm_arena.specs.inner.ArenaMap.{ArenaMap, Dart}
use Rattle.gm_grid.specs.GridMap.{dart, dart_count, neighbour, point, IsGridMap}
use Rattle.gm_grid.specs.inner.Building.{row_of, column_of, number_of, neighbour_of, point_of, linked_of, AreLinked}

module _ (m row column k : ℕ) (row_low : row < m) (column_low : column < m) (k_low : k < 8) where
  square : dart m row column k / 8 ≡ row * m + column
  square = omega arith

  pub number_is : number_of (dart m row column k) ≡ k
  number_is = omega arith

  pub row_is : row_of m (dart m row column k) ≡ row
  row_is = ap (λ s. s / m) square ∙ div-mul-add row m column column_low

  pub column_is : column_of m (dart m row column k) ≡ column
  column_is = ap (λ s. s % m) square ∙ mod-mul-add row m column column_low

  pub dart_below : dart m row column k < dart_count m
  dart_below = omega (arith, mul-add-lt row m column m row_low column_low)

  pub neighbour_is : (i : ℕ) → neighbour m i row column k ≡ neighbour_of m i (dart m row column k)
  neighbour_is i = rw (row_is, column_is, number_is) refl

  pub point_named : point row column k ≡ point_of m (dart m row column k)
  point_named = rw (row_is, column_is, number_is) refl

  module _ (a : ArenaMap) (all : AreLinked m (dart_count m) a) where
    here : get a.darts (dart m row column k) ≡ Some (linked_of m (dart m row column k))
    here = all.linked (dart m row column k) dart_below

    pub alpha_is : (i : ℕ) → i ≤ 2 → (as_map a).alpha i (dart m row column k) ≡ neighbour m i row column k
    alpha_is i low = ap (λ o. option_map_or (λ (x : Dart). slice_index_or x.alphas i (dart m row column k)) o (dart m row column k)) here ∙ (label i low ∙ sym (neighbour_is i))
      where
        label : (i : ℕ) → i ≤ 2 → slice_index_or (linked_of m (dart m row column k)).alphas i (dart m row column k) ≡ neighbour_of m i (dart m row column k)
        label zero low = refl
        label (suc zero) low = refl
        label (suc (suc zero)) low = refl
        label (suc (suc (suc i))) low = absurd (omega (arith, low))

    pub point_is : (as_map a).value 0 (dart m row column k) ≡ point row column k
    point_is = ap (λ o. option_map_or (λ (x : Dart). slice_index_or x.values 0 (Int (pos 0))) o (Int (pos 0))) here ∙ sym point_named

pub is_grid : (m : ℕ) (a : ArenaMap) → AreLinked m (dart_count m) a → IsGridMap m (as_map a)
is_grid m a all = record {
  schema_is = all.schema_is;
  darts = λ d. (
    λ live. elim (cases_lt d (dart_count m)) [
      | inl low ↦ low
      | inr high ↦ absurd (false≢true (sym (ap is_some (all.none d high)) ∙ live))
    ],
    λ low. ap is_some (all.linked d low),
  );
  neighbours = λ row column k i row_low column_low k_low label. alpha_is m row column k row_low column_low k_low a all i label;
  points = λ row column k row_low column_low k_low. point_is m row column k row_low column_low k_low a all;
  next_is = all.next_is;
}
