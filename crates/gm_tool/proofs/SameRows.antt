-- Listed maps are the same where they have the same darts in ascending order, with the same neighbours and values.
use Rattle.std.proofs.Common.{◌≡◌, ℕ, ◌+◌, ◌<◌, true, false, List, [], length, get_or, pos, Option, Some, None, is_some, refl, sym, ap, ◌∙◌, arith}
use Rattle.std.specs.List.{AllByRecursion}
use Rattle.std.specs.List.Sorted.{IsStrictlyIncreasing}
use Rattle.std.specs.Option.{option_map, option_map_or}
use Rattle.std.proofs.lemmas.List.{same_lists, get_or_default, length-map}
use Rattle.std.proofs.lemmas.Option.{slice_get-get_or}
use Rattle.gm_mapfile.specs.MapReading.{IsWhole, AreOfKinds}
use Rattle.gm_mapfile.specs.MapText.{DartRow, ListedMap, map_of, bare, rows_of, dart_of, value_in, names}
use Rattle.gm_mapfile.proofs.Ascending.{same_ascending}
use Rattle.gm_mapfile.proofs.Darts.{row_of_dart, live_dart, shape_found}
use Rattle.gm_mapfile.proofs.Permuted.{split_found, same_permuted, distinct_ascending}
use Rattle.gm_model.specs.declared.schema.Embed.{Embed}
use Rattle.gm_model.specs.declared.value.Kind.TheVariants as kinds
use Rattle.gm_model.specs.declared.value.Value.{Value}
use Rattle.gm_model.specs.declared.value.Value.TheVariants.{Int}
use Rattle.gm_model.specs.GMap.{Row}
use Rattle.gm_model.specs.GMap as written
use Rattle.gm_model.specs.Values.{kind_of}
use Rattle.gm_run.specs.inner.Alike.{AreAlike}

valued_each : (embeds : List Embed) (values : List Value) → AreOfKinds embeds values → length values ≡ length embeds
valued_each embeds values kinds = sym (length-map values kind_of) ∙ (ap length kinds ∙ length-map embeds (λ (embed : Embed). embed.kind))

module _ (a b : ListedMap) (whole : AllByRecursion (IsWhole a.schema) a.darts) (whole' : AllByRecursion (IsWhole b.schema) b.darts) (alike : AreAlike (map_of a) (map_of b)) where
  abbrev nothing : Value
  nothing = Int (pos 0)

  -- what stands for an embedding that isn't there
  abbrev no_embed : Embed
  no_embed = record { name = []; mask = record { bits = 0 }; kind = kinds.Int }

  module _ (d : ℕ) (dart other : DartRow) (is : dart_of a.darts d ≡ Some dart) (there : dart_of b.darts d ≡ Some other) where
    live : (map_of a).live d ≡ true
    live = live_dart a.darts d ∙ ap is_some is

    shape : IsWhole a.schema dart
    shape = shape_found (IsWhole a.schema) a.darts d dart whole is

    shape' : IsWhole b.schema other
    shape' = shape_found (IsWhole b.schema) b.darts d other whole' there

    dims : a.schema.dim ≡ b.schema.dim
    dims = ap (λ s. s.dim) alike.schema

    alphas : dart.alphas ≡ other.alphas
    alphas = same_lists dart.alphas other.alphas (shape.0 ∙ (ap (λ n. n + 1) dims ∙ sym shape'.0)) each
      where
        neighbour : (darts : List DartRow) (found : DartRow) (i : ℕ) → dart_of darts d ≡ Some found → option_map_or (λ (row : Row). get_or row.alphas i d) (option_map bare (dart_of darts d)) d ≡ get_or found.alphas i d
        neighbour darts found i at = ap (λ o. option_map_or (λ (row : Row). get_or row.alphas i d) (option_map bare o) d) at

        at_row : (darts : List DartRow) (found : DartRow) (i : ℕ) → dart_of darts d ≡ Some found → written.alpha (rows_of darts) i d ≡ get_or found.alphas i d
        at_row darts found i at = ap (λ o. option_map_or (λ (row : Row). get_or row.alphas i d) o d) (row_of_dart darts d) ∙ neighbour darts found i at

        each : (i x : ℕ) → i < length dart.alphas → get_or dart.alphas i x ≡ get_or other.alphas i x
        each i x lt =
            let long : length dart.alphas ≡ a.schema.dim + 1 = shape.0 in
            let wide : length other.alphas ≡ b.schema.dim + 1 = shape'.0 in
            get_or_default dart.alphas i x d lt
            ∙ (sym (at_row a.darts dart i is) ∙ (alike.same.arcs d i live (omega (arith, long, lt)) ∙ (at_row b.darts other i there ∙ get_or_default other.alphas i d x (omega (arith, long, wide, lt, dims)))))

    values : dart.values ≡ other.values
    values = same_lists dart.values other.values (valued_each a.schema.embeds dart.values shape.1 ∙ (ap (λ s. length s.embeds) alike.schema ∙ sym (valued_each b.schema.embeds other.values shape'.1))) each
      where
        at_dart : (darts : List DartRow) (found : DartRow) (e : ℕ) → dart_of darts d ≡ Some found → value_in darts e d ≡ get_or found.values e nothing
        at_dart darts found e at = ap (λ o. option_map_or (λ (row : DartRow). get_or row.values e nothing) o nothing) at

        each : (e : ℕ) (x : Value) → e < length dart.values → get_or dart.values e x ≡ get_or other.values e x
        each e x lt =
            let many : length dart.values ≡ length a.schema.embeds = valued_each a.schema.embeds dart.values shape.1 in
            let many' : length other.values ≡ length b.schema.embeds = valued_each b.schema.embeds other.values shape'.1 in
            let same : length a.schema.embeds ≡ length b.schema.embeds = ap (λ s. length s.embeds) alike.schema in
            let within : e < length a.schema.embeds = omega (arith, many, lt) in
            get_or_default dart.values e x nothing lt
            ∙ (sym (at_dart a.darts dart e is)
            ∙ (alike.values e d (get_or a.schema.embeds e no_embed) (slice_get-get_or a.schema.embeds e no_embed within) live
            ∙ (at_dart b.darts other e there ∙ get_or_default other.values e nothing x (omega (arith, many, many', same, lt)))))

    same_dart : dart ≡ other
    same_dart =
        let name : dart.name ≡ other.name = (split_found a.darts d dart is).3 ∙ sym (split_found b.darts d other there).3 in
        λ k. record { name = name k; alphas = alphas k; values = values k }

  same_found : (d : ℕ) → dart_of a.darts d ≡ dart_of b.darts d
  same_found d = go (dart_of a.darts d) (dart_of b.darts d) refl refl
    where
      go : (o p : Option DartRow) → dart_of a.darts d ≡ o → dart_of b.darts d ≡ p → o ≡ p
      go None None is there = refl
      go None (Some other) is there = let no : false ≡ true = sym (ap is_some is) ∙ (sym (live_dart a.darts d) ∙ (alike.same.darts d).1 (live_dart b.darts d ∙ ap is_some there)) in absurd cc
      go (Some dart) None is there = let no : false ≡ true = sym (ap is_some there) ∙ (sym (live_dart b.darts d) ∙ (alike.same.darts d).0 (live_dart a.darts d ∙ ap is_some is)) in absurd cc
      go (Some dart) (Some other) is there = ap Some (same_dart d dart other is there)

  pub same_listed : IsStrictlyIncreasing (names a.darts) → IsStrictlyIncreasing (names b.darts) → a ≡ b
  same_listed up up' =
      let darts : a.darts ≡ b.darts = same_ascending a.darts b.darts up up' (same_permuted a.darts b.darts (distinct_ascending a.darts up) (distinct_ascending b.darts up') same_found) in
      let schema : a.schema ≡ b.schema = alike.schema in
      let next : a.next ≡ b.next = alike.same.next in
      λ k. record { schema = schema k; darts = darts k; next = next k }
