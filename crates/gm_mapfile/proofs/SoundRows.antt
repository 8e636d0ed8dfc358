-- The listed darts of an arena are its map, so what is sound as the one is sound as the other.
use Rattle.std.proofs.Common.{◌≡◌, ℕ, Option, Some, None, is_some, refl, sym, ap, subst, ◌∙◌, pos, slice_index_or}
use Rattle.std.specs.Option.{option_map, option_map_or}
use Rattle.std.specs.FinMap.{get}
use Rattle.gm_model.specs.declared.value.Value.TheVariants.{Int}
use Rattle.gm_model.specs.GMap.{Row, row_of}
use Rattle.gm_model.specs.GMap as written
use Rattle.gm_model.specs.Maps.{IsSound}
use Rattle.gm_arena.specs.inner.ArenaAsMap.{as_map, value}
use Rattle.gm_arena.specs.inner.ArenaMap.{ArenaMap, Dart, alpha}
use Rattle.gm_arena.specs.inner.Lawful.{IsLawful}
use Rattle.gm_mapfile.specs.MapText.{DartRow, bare, rows_of, value_in, map_of}
use Rattle.gm_mapfile.specs.inner.Rows.{darts_of, listed_of}
use Rattle.gm_mapfile.proofs.ArenaDarts.{dart_with, dart_of_arena, row_of_dart}

module _ (m : ArenaMap) where
  row_found : (d : ℕ) → row_of (rows_of (darts_of m)) d ≡ option_map bare (option_map (dart_with d) (get m.darts d))
  row_found d = row_of_dart (darts_of m) d ∙ ap (option_map bare) (dart_of_arena m d)

  live_in : (d : ℕ) (o : Option Dart) → is_some (option_map bare (option_map (dart_with d) o)) ≡ is_some o
  live_in d None = refl
  live_in d (Some dart) = refl

  alpha_in : (i d : ℕ) (o : Option Dart) → option_map_or (λ (row : Row). slice_index_or row.alphas i d) (option_map bare (option_map (dart_with d) o)) d ≡ option_map_or (λ (dart : Dart). slice_index_or dart.alphas i d) o d
  alpha_in i d None = refl
  alpha_in i d (Some dart) = refl

  value_at : (e d : ℕ) (o : Option Dart) → option_map_or (λ (dart : DartRow). slice_index_or dart.values e (Int (pos 0))) (option_map (dart_with d) o) (Int (pos 0)) ≡ option_map_or (λ (dart : Dart). slice_index_or dart.values e (Int (pos 0))) o (Int (pos 0))
  value_at e d None = refl
  value_at e d (Some dart) = refl

  live_each : (d : ℕ) → is_some (get m.darts d) ≡ is_some (row_of (rows_of (darts_of m)) d)
  live_each d = sym (ap is_some (row_found d) ∙ live_in d (get m.darts d))

  alpha_each : (i d : ℕ) → alpha m i d ≡ written.alpha (rows_of (darts_of m)) i d
  alpha_each i d = sym (ap (λ o. option_map_or (λ (row : Row). slice_index_or row.alphas i d) o d) (row_found d) ∙ alpha_in i d (get m.darts d))

  value_each : (e d : ℕ) → value m e d ≡ value_in (darts_of m) e d
  value_each e d = sym (ap (λ o. option_map_or (λ (dart : DartRow). slice_index_or dart.values e (Int (pos 0))) o (Int (pos 0))) (dart_of_arena m d) ∙ value_at e d (get m.darts d))

  pub same_map : as_map m ≡ map_of (listed_of m)
  same_map = λ k. record { schema = m.schema; live = λ d. live_each d k; alpha = λ i d. alpha_each i d k; value = λ e d. value_each e d k; next = m.next }

pub as_listed : (m : ArenaMap) → IsLawful m → IsSound (as_map m) → IsSound (map_of (listed_of m))
as_listed m lawful sound = subst IsSound (same_map m) sound
