-- The map in an arena is one: its names lie below the next, and each value is one of its embedding's kind.
use Rattle.std.proofs.Common.{◌≡◌, ℕ, ◌<◌, List, Option, Some, None, length, map, slice_get, slice_index_or, IsTrue, refl, sym, ◌∙◌, ap, subst, pos}
use Rattle.std.specs.FinMap.{get}
use Rattle.std.specs.Option.{is_some, option_map, option_map_or}
use Rattle.std.proofs.lemmas.Bool.{false≢true}
use Rattle.std.proofs.lemmas.List.{length-map}
use Rattle.std.proofs.lemmas.Option.{slice_get-map, slice_get-get_or, slice_get_within}
use Rattle.gm_model.specs.declared.schema.Embed.{Embed}
use Rattle.gm_model.specs.declared.value.Kind.{Kind}
use Rattle.gm_model.specs.declared.value.Value.{Value}
use Rattle.gm_model.specs.declared.value.Value.TheVariants.{Int}
use Rattle.gm_model.specs.Maps.{IsEmbedAt, IsMap}
use Rattle.gm_model.specs.Values.{kind_of, IsValueOf}
use Rattle.gm_arena.specs.inner.ArenaAsMap.{as_map}
use Rattle.gm_arena.specs.inner.ArenaMap.{ArenaMap, Dart}
use Rattle.gm_arena.specs.inner.Lawful.{IsLawful, AreGoodValues}

some_same : {A : Type 0} (x y : A) → Some x ≡ Some y → x ≡ y
some_same x y e = cc

module _ (m : ArenaMap) (lawful : IsLawful m) where
  -- a value among good ones
  value_at : (values : List Value) → AreGoodValues m.schema values → (e : ℕ) (embed : Embed) → IsEmbedAt m.schema e embed → IsValueOf embed.kind (slice_index_or values e (Int (pos 0)))
  value_at values good e embed at = record { kind_is = some_same _ _ kinds; range = good.ranges e (Int (pos 0)) within }
    where
      embeds : List Kind
      embeds = map (λ (embed : Embed). embed.kind) m.schema.embeds

      long : length values ≡ length m.schema.embeds
      long = sym (length-map values _) ∙ (ap length good.kinds ∙ length-map m.schema.embeds _)

      within : e < length values
      within = subst (λ n. e < n) (sym long) (slice_get_within m.schema.embeds e embed at)

      kinds : Some (kind_of (slice_index_or values e (Int (pos 0)))) ≡ Some embed.kind
      kinds =
          sym (slice_get-map kind_of values e ∙ ap (option_map kind_of) (slice_get-get_or values e (Int (pos 0)) within))
          ∙ (ap (λ kinds. slice_get kinds e) good.kinds ∙ (slice_get-map (λ (embed : Embed). embed.kind) m.schema.embeds e ∙ ap (option_map (λ (embed : Embed). embed.kind)) at))

  below : (d : ℕ) (o : Option Dart) → get m.darts d ≡ o → IsTrue (is_some o) → d < m.next
  below d (Some dart) at live = (lawful.dart d dart at).below_next
  below d None at live = absurd (false≢true live)

  values : (e d : ℕ) (embed : Embed) → IsEmbedAt m.schema e embed → (o : Option Dart) → get m.darts d ≡ o → IsTrue (is_some o) → IsValueOf embed.kind (option_map_or (λ (dart : Dart). slice_index_or dart.values e (Int (pos 0))) o (Int (pos 0)))
  values e d embed embed_at (Some dart) at live = value_at dart.values (lawful.dart d dart at).valued e embed embed_at
  values e d embed embed_at None at live = absurd (false≢true live)

  pub is_map : IsMap (as_map m)
  is_map = record { below = λ d live. below d (get m.darts d) refl live; values = λ e d embed at live. values e d embed at (get m.darts d) refl live }
