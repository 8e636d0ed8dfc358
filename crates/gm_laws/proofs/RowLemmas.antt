-- What a dart's row in the arena says of its neighbours and its values.
use Rattle.std.proofs.Common.{◌≡◌, ℕ, ◌<◌, Some, length, get_or, sym, ap, ◌∙◌}
use Rattle.std.specs.Option.{option_map_or}
use Rattle.std.specs.Prelude.{pos}
use Rattle.std.specs.FinMap.{get}
use Rattle.std.proofs.lemmas.List.{length-map, get_or_default}
use Rattle.gm_model.specs.declared.schema.Embed.{Embed}
use Rattle.gm_model.specs.declared.value.Value.{Value}
use Rattle.gm_model.specs.declared.value.Value.TheVariants.{Int}
use Rattle.gm_model.specs.Values.{kind_of}
use Rattle.gm_arena.specs.inner.ArenaMap.{ArenaMap, Dart}
use Rattle.gm_arena.specs.inner.Lawful.{IsLawful}
use Rattle.gm_arena.specs.inner.ArenaAsMap.{value}

module _ (m : ArenaMap) where
  -- a dart has one value for each embedding
  pub values_long : IsLawful m → (name : ℕ) (dart : Dart) → get m.darts name ≡ Some dart → length dart.values ≡ length m.schema.embeds
  values_long lawful name dart e = sym (length-map dart.values kind_of) ∙ (ap length (lawful.dart name dart e).valued.kinds ∙ length-map m.schema.embeds (λ (e : Embed). e.kind))

  pub value_is : (name e : ℕ) (dart : Dart) (d : Value) → get m.darts name ≡ Some dart → e < length dart.values → value m e name ≡ get_or dart.values e d
  value_is name e dart d at h = ap (λ o. option_map_or (λ (dart : Dart). get_or dart.values e (Int (pos 0))) o (Int (pos 0))) at ∙ get_or_default dart.values e (Int (pos 0)) d h
