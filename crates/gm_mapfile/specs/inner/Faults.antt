-- Which first fault of a text a reader's answer names.
use Rattle.std.specs.Prelude.{ℕ, List, Option, Some, None}
use Rattle.gm_model.specs.Breaches.{IsFirstWithoutTarget}
use Rattle.gm_model.specs.GMap.{IsLive, alpha}
use Rattle.gm_laws.specs.declared.breach.MapBreach.{MapBreach}
use Rattle.gm_laws.specs.declared.breach.MapBreach.TheVariants as breaches
use Rattle.gm_mapfile.specs.MapText.{Version, Second, DartRow, rows_of}
use Rattle.gm_mapfile.specs.MapFaults.{TextFault, IsFirstFault, IsLeastTwice, AreNamedOnce, IsLeastNotBelow, AreBelowStated}
use Rattle.gm_mapfile.specs.MapFaults as first
use Rattle.gm_mapfile.specs.declared.fault.MapFault.{MapFault}
use Rattle.gm_mapfile.specs.declared.fault.NoMap.{NoMap}
use Rattle.gm_mapfile.specs.declared.fault.MapFault.TheVariants as faults

-- the breach is the first fault of the text, where an embedding goes by its number
abbrev pub IsBreachOf : List ℕ → MapBreach → Type 0
IsBreachOf text (breaches.Involution dart label) = IsFirstFault text (first.OneWay dart label)
IsBreachOf text (breaches.Cycle dart i j) = IsFirstFault text (first.Crossing dart i j)
IsBreachOf text (breaches.Embedding embed dart other) = (name : List ℕ) × IsFirstFault text (first.Unshared embed name dart other)

-- the fault is the first of the text, or memory ran out
abbrev pub IsFaultOf : List ℕ → MapFault → Type 0
IsFaultOf text (faults.Text place) = IsFirstFault text (first.Ends place)
IsFaultOf text (faults.Limit what place) = IsFirstFault text (first.Passes what place)
IsFaultOf text (faults.Twice place) = IsFirstFault text (first.Again place)
IsFaultOf text (faults.DartTwice dart) = IsFirstFault text (first.DartTwice dart)
IsFaultOf text (faults.Next dart) = IsFirstFault text (first.NotBelow dart)
IsFaultOf text (faults.NoTarget dart label) = IsFirstFault text (first.NoTarget dart label)
IsFaultOf text (faults.Breach breach) = IsBreachOf text breach
IsFaultOf text faults.OutOfMemory = Unit {0}

-- the same, where the name of the embedding is told whose values differ
abbrev pub IsNamedBreachOf : List ℕ → MapBreach → Option (List ℕ) → Type 0
IsNamedBreachOf text (breaches.Involution dart label) told = IsFirstFault text (first.OneWay dart label)
IsNamedBreachOf text (breaches.Cycle dart i j) told = IsFirstFault text (first.Crossing dart i j)
IsNamedBreachOf text (breaches.Embedding embed dart other) (Some name) = IsFirstFault text (first.Unshared embed name dart other)
IsNamedBreachOf text (breaches.Embedding embed dart other) None = ⊥

-- the same, with that name
abbrev pub IsNamedFaultOf : List ℕ → MapFault → Option (List ℕ) → Type 0
IsNamedFaultOf text (faults.Breach breach) told = IsNamedBreachOf text breach told
IsNamedFaultOf text fault told = IsFaultOf text fault

-- why the text gives no map
abbrev pub IsWhyNot : List ℕ → NoMap → Type 0
IsWhyNot text no_map = IsNamedFaultOf text no_map.fault no_map.embed

-- listed darts have this fault by their names, or memory ran out
abbrev pub IsNameFault : Version → ℕ → List DartRow → MapFault → Type 0
IsNameFault version n darts (faults.DartTwice dart) = IsLeastTwice (rows_of darts) dart
IsNameFault (Second next) n darts (faults.Next dart) = AreNamedOnce (rows_of darts) × IsLeastNotBelow (rows_of darts) next dart
IsNameFault version n darts (faults.NoTarget dart label) = AreNamedOnce (rows_of darts) × AreBelowStated version (rows_of darts) × IsFirstWithoutTarget n (IsLive (rows_of darts)) (alpha (rows_of darts)) dart label
IsNameFault version n darts faults.OutOfMemory = Unit {0}
IsNameFault version n darts _ = ⊥
