-- Each map that is listed has its dual, listed: the same darts in the same order, each with its neighbours the other way round.
use Rattle.std.proofs.Common.{◌≡◌, ℕ, eqb, List, [], ◌∷◌, map, get_or, reverse, pos, Option, Some, None, is_some, inl, inr, refl, sym, ap, subst, ◌∙◌}
use Rattle.std.specs.List.{AllByRecursion}
use Rattle.std.specs.List.Sorted.{IsStrictlyIncreasing}
use Rattle.std.specs.Option.{option_map, option_map_or}
use Rattle.std.proofs.Math.Path.{fun_ext}
use Rattle.std.proofs.lemmas.Bool.{cases_Bool}
use Rattle.std.proofs.lemmas.List.{length-reverse}
use Rattle.gm_dual.proofs.LabelLemmas.{turned_neighbour}
use Rattle.gm_dual.specs.Duals.{dual_embed, dual_label, dual_map, dual_schema}
use Rattle.gm_mapfile.proofs.Darts.{is_some-map, live_dart, row_of_dart, shape_found}
use Rattle.gm_mapfile.specs.MapReading.{IsWhole}
use Rattle.gm_mapfile.specs.MapText.{DartRow, ListedMap, MapText, bare, dart_of, map_of, names}
use Rattle.gm_mapfile.specs.declared.version.MapVersion.{MapVersion}
use Rattle.gm_model.specs.declared.schema.Embed.{Embed}
use Rattle.gm_model.specs.declared.value.Kind.{Kind}
use Rattle.gm_model.specs.declared.value.Value.TheVariants.{Int}
use Rattle.gm_model.specs.GMap.{Row}
use Rattle.gm_tool.specs.DualAnswer.{IsListedDual}
use Rattle.gm_tool.proofs.ListedMaps.{whole_darts}

abbrev turned : DartRow → DartRow
turned dart = record { name = dart.name; alphas = reverse dart.alphas; values = dart.values }

-- ---- look-ups

names_stay : (darts : List DartRow) → names (map turned darts) ≡ names darts
names_stay [] = refl
names_stay (dart ∷ darts) = ap (λ xs. dart.name ∷ xs) (names_stay darts)

turned_found : (darts : List DartRow) (d : ℕ) → dart_of (map turned darts) d ≡ option_map turned (dart_of darts d)
turned_found [] d = refl
turned_found (dart ∷ darts) d =
    elim (cases_Bool (eqb dart.name d)) [
      | inl here ↦ rw here refl
      | inr other ↦ rw other (turned_found darts d)
    ]

-- ---- the dual

module _ (listed : ListedMap) (ascending : IsStrictlyIncreasing (names listed.darts)) (whole : AllByRecursion (IsWhole listed.schema) listed.darts) where
  abbrev dual : ListedMap
  dual = record { schema = dual_schema listed.schema; darts = map turned listed.darts; next = listed.next }

  live_same : (d : ℕ) → (map_of dual).live d ≡ (map_of listed).live d
  live_same d = live_dart dual.darts d ∙ (ap is_some (turned_found listed.darts d) ∙ (is_some-map turned (dart_of listed.darts d) ∙ sym (live_dart listed.darts d)))

  arc_same : (i d : ℕ) → (map_of dual).alpha i d ≡ (map_of listed).alpha (dual_label listed.schema.dim i) d
  arc_same i d =
      ap (λ o. option_map_or (λ (row : Row). get_or row.alphas i d) o d) (row_of_dart dual.darts d ∙ ap (option_map bare) (turned_found listed.darts d))
      ∙ (go (dart_of listed.darts d) refl
      ∙ sym (ap (λ o. option_map_or (λ (row : Row). get_or row.alphas (dual_label listed.schema.dim i) d) o d) (row_of_dart listed.darts d)))
    where
      go : (o : Option DartRow) → dart_of listed.darts d ≡ o
          → option_map_or (λ (row : Row). get_or row.alphas i d) (option_map bare (option_map turned o)) d ≡ option_map_or (λ (row : Row). get_or row.alphas (dual_label listed.schema.dim i) d) (option_map bare o) d
      go None is = refl
      go (Some dart) is = let shape : IsWhole listed.schema dart = shape_found (IsWhole listed.schema) listed.darts d dart whole is in turned_neighbour listed.schema.dim i d dart.alphas shape.0

  value_same : (e d : ℕ) → (map_of dual).value e d ≡ (map_of listed).value e d
  value_same e d = ap (λ o. option_map_or (λ (dart : DartRow). get_or dart.values e (Int (pos 0))) o (Int (pos 0))) (turned_found listed.darts d) ∙ go (dart_of listed.darts d)
    where
      go : (o : Option DartRow) → option_map_or (λ (dart : DartRow). get_or dart.values e (Int (pos 0))) (option_map turned o) (Int (pos 0)) ≡ option_map_or (λ (dart : DartRow). get_or dart.values e (Int (pos 0))) o (Int (pos 0))
      go None = refl
      go (Some dart) = refl

  same_map : map_of dual ≡ dual_map (map_of listed)
  same_map =
      let live : (map_of dual).live ≡ (map_of listed).live = fun_ext live_same in
      let alpha : (map_of dual).alpha ≡ (dual_map (map_of listed)).alpha = fun_ext (λ i. fun_ext (arc_same i)) in
      let value : (map_of dual).value ≡ (map_of listed).value = fun_ext (λ e. fun_ext (value_same e)) in
      λ k. record { schema = dual_schema listed.schema; live = live k; alpha = alpha k; value = value k; next = listed.next }

  -- the kinds of the embeddings stay
  kinds_same : (embeds : List Embed) → map (λ (embed : Embed). embed.kind) (map (dual_embed listed.schema.dim) embeds) ≡ map (λ (embed : Embed). embed.kind) embeds
  kinds_same [] = refl
  kinds_same (embed ∷ embeds) = ap (λ (ks : List Kind). embed.kind ∷ ks) (kinds_same embeds)

  turned_whole : (darts : List DartRow) → AllByRecursion (IsWhole listed.schema) darts → AllByRecursion (IsWhole dual.schema) (map turned darts)
  turned_whole [] all = tt
  turned_whole (dart ∷ darts) all = ((length-reverse dart.alphas ∙ all.0.0, all.0.1 ∙ sym (kinds_same listed.schema.embeds)), turned_whole darts all.1)

  pub dual_listed : (dual : ListedMap) × IsListedDual listed dual
  dual_listed = (
    dual,
    record {
      is = same_map;
      ascending = subst IsStrictlyIncreasing (sym (names_stay listed.darts)) ascending;
      whole = turned_whole listed.darts whole;
    },
  )

-- a map that a text stands for has its dual, listed
pub dual_of_text : (text : List ℕ) (version : MapVersion) (listed : ListedMap) → MapText text version listed → (dual : ListedMap) × IsListedDual listed dual
dual_of_text text version listed stands = dual_listed listed stands.ascending (whole_darts text version listed stands)
