-- What a lawful arena holds within the limits can be printed, if its map is sound.
use Rattle.std.proofs.Common.{◌≡◌, ℕ, ◌<◌, true, get_or, Option, Some, None, is_some, refl, sym, ap, subst, ◌∙◌, arith}
use Rattle.std.specs.FinMap.{get, keys}
use Rattle.std.specs.List.{AllByRecursion}
use Rattle.std.proofs.lemmas.Bool.{false≢true}
use Rattle.std.proofs.lemmas.List.{get_or_default}
use Rattle.std.proofs.lemmas.List.Elements.{recursion_from_All}
use Rattle.gm_model.specs.Limits.{most_names}
use Rattle.gm_model.specs.Maps.{IsSound}
use Rattle.gm_text.specs.inner.SchemaPrinting.{AreParts}
use Rattle.gm_arena.specs.inner.ArenaAsMap.{as_map}
use Rattle.gm_arena.specs.inner.ArenaMap.{ArenaMap, Dart, IsLiveName}
use Rattle.gm_arena.specs.inner.Lawful.{IsLawful}
use Rattle.gm_mapfile.specs.MapText.{MapText, canonical}
use Rattle.gm_mapfile.specs.inner.Printing.{renumbered, IsPrintableDart, IsPrintable}
use Rattle.gm_mapfile.specs.inner.Rows.{dart_of_entry, darts_of, listed_of}
use Rattle.gm_mapfile.specs.declared.version.MapVersion.{MapVersion}
use Rattle.gm_mapfile.proofs.Again.{printed}
use Rattle.gm_mapfile.proofs.ArenaDarts.{darts_ascending}
use Rattle.gm_mapfile.proofs.Printed.{nobody, dart_at, dart_at-is, dart_at_place, darts_counted}
use Rattle.gm_mapfile.proofs.SoundRows.{as_listed}

module _ (m : ArenaMap) (lawful : IsLawful m) where
  -- a live name is below the limit
  name_small : (name : ℕ) → IsLiveName m name → name < most_names
  name_small name live = go (get m.darts name) refl live
    where
      go : (o : Option Dart) → get m.darts name ≡ o → is_some o ≡ true → name < most_names
      go (Some dart) there some = omega (arith, (lawful.dart name dart there).below_next, lawful.few_names)
      go None there some = absurd (false≢true some)

  printable_entry : (name : ℕ) (dart : Dart) → get m.darts name ≡ Some dart → IsPrintableDart (listed_of m) (dart_of_entry (name, dart))
  printable_entry name dart there =
      let held = lawful.dart name dart there in
      record {
        name_small = name_small name (ap is_some there);
        alphas_small = recursion_from_All (λ a. a < most_names) dart.alphas (λ k d within. name_small (get_or dart.alphas k d) (held.neighbours k d within));
        long = omega (arith, held.whole);
        values = held.valued;
      }

  printable_live : (name : ℕ) → IsLiveName m name → IsPrintableDart (listed_of m) (dart_at m name)
  printable_live name live = go (get m.darts name) refl live
    where
      go : (o : Option Dart) → get m.darts name ≡ o → is_some o ≡ true → IsPrintableDart (listed_of m) (dart_at m name)
      go (Some dart) there some = subst (IsPrintableDart (listed_of m)) (sym (dart_at-is m name dart there)) (printable_entry name dart there)
      go None there some = absurd (false≢true some)

  pub darts_printable : AllByRecursion (IsPrintableDart (listed_of m)) (darts_of m)
  darts_printable = recursion_from_All (IsPrintableDart (listed_of m)) (darts_of m) (λ k d within.
      let at = dart_at_place m k within in
      subst (IsPrintableDart (listed_of m)) (at.0 ∙ get_or_default (darts_of m) k nobody d within) (printable_live (get_or (keys m.darts) k 0) at.1))

pub arena_printable : (m : ArenaMap) → IsLawful m → AreParts m.schema.embeds → IsSound (as_map m) → IsPrintable (listed_of m)
arena_printable m lawful parts sound = record {
  schema = lawful.schema;
  parts = parts;
  dim = lawful.dim;
  few = omega (arith, darts_counted m lawful, lawful.few_darts);
  darts = darts_printable m lawful;
  ascending = darts_ascending m;
  next = lawful.few_names;
  sound = as_listed m lawful sound;
}

-- so its canonical text, in either version, stands for it
pub arena_printed : (version : MapVersion) (m : ArenaMap) → IsLawful m → AreParts m.schema.embeds → IsSound (as_map m) → MapText (canonical version (listed_of m)) version (renumbered version (listed_of m))
arena_printed version m lawful parts sound = printed version (listed_of m) (arena_printable m lawful parts sound)
