-- The map in an arena, apart from how it is kept.
use Rattle.std.specs.Prelude.{ℕ, slice_index_or, pos}
use Rattle.std.specs.FinMap.{get}
use Rattle.std.specs.Option.{is_some, option_map_or}
use Rattle.gm_model.specs.declared.value.Value.{Value}
use Rattle.gm_model.specs.declared.value.Value.TheVariants.{Int}
use Rattle.gm_model.specs.Maps.{Map}
use Rattle.gm_arena.specs.inner.ArenaMap.{ArenaMap, Dart, alpha}

-- the value of an embedding, by its number, at a live dart
abbrev pub value : ArenaMap → ℕ → ℕ → Value
value m e name = option_map_or (λ (dart : Dart). slice_index_or dart.values e (Int (pos 0))) (get m.darts name) (Int (pos 0))

abbrev pub as_map : ArenaMap → Map
as_map m = record { schema = m.schema; live = λ name. is_some (get m.darts name); alpha = alpha m; value = value m; next = m.next }
