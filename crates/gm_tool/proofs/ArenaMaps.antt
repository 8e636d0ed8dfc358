-- The canonical text of the map in an arena stands for it, and what is told of it is put.
use Rattle.std.proofs.Common.{◌≡◌, ℕ, true, false, List, ◌++◌, get_or, Option, Some, None, Result, Ok, Err, is_some, refl, sym, ap, subst, ◌∙◌}
use Rattle.std.specs.Global.{Vec}
use Rattle.std.specs.Prelude.{IfOk}
use Rattle.std.specs.List.{AllByRecursion}
use Rattle.std.specs.FinMap.{get, keys}
use Rattle.std.proofs.lemmas.List.{get_or_default}
use Rattle.std.proofs.lemmas.List.Elements.{recursion_from_All}
use Rattle.gm_arena.specs.inner.ArenaAsMap.{as_map}
use Rattle.gm_arena.specs.inner.ArenaMap.{ArenaMap, Dart}
use Rattle.gm_arena.specs.inner.Lawful.{IsLawful}
use Rattle.gm_cells.specs.declared.counts.Counts.{Counts}
use Rattle.gm_cells.specs.declared.orientation.Orientation.{Orientation}
use Rattle.gm_cells.specs.Cells.{AreCounts}
use Rattle.gm_cells.specs.CellsText.{counts_text, orientation_text}
use Rattle.gm_cells.specs.Colours.{IsOrientation}
use Rattle.gm_mapfile.proofs.Printed.{nobody, dart_at, dart_at-is, dart_at_place}
use Rattle.gm_mapfile.proofs.SoundRows.{same_map}
use Rattle.gm_mapfile.specs.MapReading.{IsWhole}
use Rattle.gm_mapfile.specs.MapText.{MapText, canonical}
use Rattle.gm_mapfile.specs.inner.Printing.{renumbered}
use Rattle.gm_mapfile.specs.inner.Rows.{darts_of, listed_of}
use Rattle.gm_mapfile.specs.declared.version.MapVersion.{MapVersion}
use Rattle.gm_mapfile.specs.declared.version.MapVersion.TheVariants as versions
use Rattle.gm_model.specs.Maps.{Map, IsSound}
use Rattle.gm_tool.specs.Answer.{Cells, Counted, IsOutput, TellsCells}
use Rattle.gm_tool.specs.MadeRuns.{IsFitted, IsMapBytes}
use Rattle.gm_tool.specs.declared.refusal.Stop.{Stop}
use Rattle.gm_tool.specs.declared.running.Made.{Made}

-- what is told of the map in an arena is put for the bytes that it was read of
pub cells_told : (bytes text : List ℕ) (version : MapVersion) (m : ArenaMap) → MapText bytes version (listed_of m) → TellsCells (as_map m) text → IsOutput bytes Cells 0 text
cells_told bytes text version m stands tells = Counted version (listed_of m) text stands (subst (λ map. TellsCells map text) (same_map m) tells)

pub tells_cells : {E : Type 0} (map : Map) (counts : Counts) (orientation : Orientation) → AreCounts map counts → IsOrientation map orientation → (text : Result (Vec ℕ) E)
    → IfOk text (λ t. t.items ≡ counts_text counts ++ orientation_text orientation) → IfOk text (λ t. TellsCells map t.items)
tells_cells map counts orientation counted oriented (Ok text) is = record { counts = counts; counts_are = counted; orientation = orientation; orientation_is = oriented; is = is }
tells_cells map counts orientation counted oriented (Err error) is = tt

-- each dart has a neighbour for each label, and a value of each embedding's kind
pub darts_whole : (m : ArenaMap) → IsLawful m → AllByRecursion (IsWhole m.schema) (darts_of m)
darts_whole m lawful = recursion_from_All (IsWhole m.schema) (darts_of m) (λ k d within.
    let at = dart_at_place m k within in
    let same : dart_at m (get_or (keys m.darts) k 0) ≡ get_or (darts_of m) k d = at.0 ∙ get_or_default (darts_of m) k nobody d within in
    subst (IsWhole m.schema) same (whole (get_or (keys m.darts) k 0) (get m.darts (get_or (keys m.darts) k 0)) refl at.1))
  where
    whole : (name : ℕ) (o : Option Dart) → get m.darts name ≡ o → is_some (get m.darts name) ≡ true → IsWhole m.schema (dart_at m name)
    whole name None is live = let none : false ≡ true = sym (ap is_some is) ∙ live in absurd cc
    whole name (Some dart) is live = let lawful_dart = lawful.dart name dart is in subst (IsWhole m.schema) (sym (dart_at-is m name dart is)) (lawful_dart.whole, lawful_dart.valued.kinds)

-- what is printed of a map stands for it, with the next name that the first version tells by the names
pub printed_bytes : (version : MapVersion) (m : ArenaMap) (bytes : List ℕ) → bytes ≡ canonical version (listed_of m) → MapText bytes version (renumbered version (listed_of m)) → IsMapBytes bytes
printed_bytes version m bytes is stands = (version, renumbered version (listed_of m), is ∙ same version, stands)
  where
    same : (v : MapVersion) → canonical v (listed_of m) ≡ canonical v (renumbered v (listed_of m))
    same versions.One = refl
    same versions.Two = refl

-- the same of a text that is not too long
pub fitted_bytes : (version : MapVersion) (m : ArenaMap) (status : ℕ) (report bytes : List ℕ) (result : Result Made Stop) → IsFitted status report bytes result → bytes ≡ canonical version (listed_of m)
    → (IsSound (as_map m) → MapText bytes version (renumbered version (listed_of m))) → IfOk result (λ made. IsSound (as_map m) → IsMapBytes made.map.items)
fitted_bytes version m status report bytes (Ok made) fits is stands = λ sound. subst IsMapBytes (sym fits.2) (printed_bytes version m bytes is (stands sound))
fitted_bytes version m status report bytes (Err stop) fits is stands = tt

-- what holds where a fact does
pub if_such : {A E : Type 0} (S : Type 0) (P : A → Type 0) → S → (result : Result A E) → IfOk result (λ value. S → P value) → IfOk result P
if_such S P such (Ok value) h = h such
if_such S P such (Err error) h = tt
