-- How many steps a run of the program and a grid take: the most, and the least; and the most of a map that is shown, migrated or turned into its dual.
use Rattle.std.specs.Prelude.{ℕ, ◌+◌, ◌*◌, ◌≤◌, List, length, IfSome}
use Rattle.gm_grid.specs.GridMap.{dart_count}
use Rattle.gm_host.specs.Store.{Contents}
use Rattle.gm_mapfile.specs.MapText.{ListedMap, MapText, map_of}
use Rattle.gm_mapfile.specs.declared.version.MapVersion.{MapVersion}
use Rattle.gm_model.specs.Maps.{IsDart}
use Rattle.gm_model.specs.Orbits.{HasCount}
use Rattle.gm_model.specs.Budgets.{Bounds, no_entries, IsRunWithin}
use Rattle.gm_model.specs.Runs.{State, start_of}
use Rattle.gm_tool.specs.Answer.{Files, HasFile, Asks, Show}
use Rattle.gm_tool.specs.DualAnswer.{DualNames, AsksDual}
use Rattle.gm_tool.specs.GridAnswer.{AsksGrid, Gridded, IsGridded, grid_rules, grid_stats}
use Rattle.gm_tool.specs.MadeRuns.{IsRunStatus}
use Rattle.gm_tool.specs.Migrating.{MigrateNames, AsksMigrate}
use Rattle.gm_tool.specs.RunAnswer.{RunNames, AsksRun, Inputs, Ran, IsRan, IsGoodRun}

-- the fewest and the most steps of the statements together, each at the state that it is met in
abbrev pub HasBounds : Inputs → Ran → Bounds → Type 0
HasBounds inputs ran bounds = (behind : State) × IsRunWithin inputs.rules (start_of (map_of inputs.map)) no_entries inputs.stats ran.outcomes behind bounds

abbrev pub dim_of : Inputs → ℕ
dim_of inputs = inputs.map.schema.dim

abbrev pub darts_read : Inputs → ℕ
darts_read inputs = length inputs.map.darts

abbrev pub darts_left : Ran → ℕ
darts_left ran = length ran.map.darts

-- what a map of this many darts takes to be read, and what it takes to be printed
abbrev pub reading : ℕ → ℕ → ℕ
reading n darts = 32 * ((n + 1) * (n + 1)) * (darts + 1)

abbrev pub printing : ℕ → ℕ → ℕ
printing n darts = 8 * ((n + 1) * (n + 1)) * (darts + 1)

-- and what it takes to be read and printed
abbrev pub showing : ℕ → ℕ → ℕ
showing n darts = 40 * ((n + 1) * (n + 1)) * (darts + 1)

-- what it takes to turn it into its dual and to print that, and what it takes to read it besides
abbrev pub turning : ℕ → ℕ → ℕ
turning n darts = 24 * ((n + 1) * (n + 1)) * (darts + 1)

abbrev pub dualising : ℕ → ℕ → ℕ
dualising n darts = 56 * ((n + 1) * (n + 1)) * (darts + 1)

-- what it takes at most to read a map of this many darts, to test its laws, and to print the one of `left` darts that it leaves
abbrev pub handling : ℕ → ℕ → ℕ → ℕ
handling n darts left = 64 * ((n + 1) * (n + 1)) * (darts + left + 1)

-- ---- the whole call

module _ (files : Files) (named : RunNames) where
  -- the most steps that a run of these files takes: the most of its statements, and the handling of its darts
  pub data IsMost : ℕ → Type 0 where
    MostOf : (inputs : Inputs) (ran : Ran) (bounds : Bounds) → IsGoodRun files named inputs ran → HasBounds inputs ran bounds → IsMost (bounds.most + handling (dim_of inputs) (darts_read inputs) (darts_left ran))

  -- the least: that of its statements, and one for each dart that is read, and for each that is saved
  pub data IsLeast : ℕ → Type 0 where
    LeastOf : (inputs : Inputs) (ran : Ran) (bounds : Bounds) → IsGoodRun files named inputs ran → HasBounds inputs ran bounds → IsLeast (bounds.least + darts_read inputs + darts_left ran)

  -- where the files have a good run, there is a most of its steps, and no more are taken
  abbrev pub WithinMost : ℕ → ℕ → Type 0
  WithinMost before after = (inputs : Inputs) (ran : Ran) → IsGoodRun files named inputs ran → (most : ℕ) × IsMost most × (after ≤ before + most)

  -- and a least, and no fewer are taken
  abbrev pub AtLeast : ℕ → ℕ → Type 0
  AtLeast before after = (inputs : Inputs) (ran : Ran) → IsGoodRun files named inputs ran → (least : ℕ) × IsLeast least × (before + least ≤ after)

-- where the words are a run and the store tells, no more steps than its most
abbrev pub StaysWithin : List (List ℕ) → Contents → ℕ → ℕ → Type 0
StaysWithin words contents before after = IfSome contents (λ files. (named : RunNames) → AsksRun words named → WithinMost files named before after)

-- and where it is done, no fewer than its least
abbrev pub TakesLeast : List (List ℕ) → Contents → ℕ → ℕ → ℕ → Type 0
TakesLeast words contents status before after = IfSome contents (λ files. (named : RunNames) → AsksRun words named → IsRunStatus status → AtLeast files named before after)

-- ---- a map that is shown

-- where the bytes stand for a map, no more steps than reading and printing it
abbrev pub ShowsWithin : List ℕ → ℕ → ℕ → Type 0
ShowsWithin bytes before after = (version : MapVersion) (map : ListedMap) → MapText bytes version map → after ≤ before + showing map.schema.dim (length map.darts)

-- where the store tells, the same of the file of that name
abbrev pub FileShowsWithin : Contents → List ℕ → ℕ → ℕ → Type 0
FileShowsWithin contents name before after = IfSome contents (λ files. (bytes : List ℕ) → HasFile files name bytes → ShowsWithin bytes before after)

-- and where the words are `show` and that name
abbrev pub ShowStaysWithin : List (List ℕ) → Contents → ℕ → ℕ → Type 0
ShowStaysWithin words contents before after = (name : List ℕ) → Asks words Show name → FileShowsWithin contents name before after

-- and no more to migrate it
abbrev pub MigrateStaysWithin : List (List ℕ) → Contents → ℕ → ℕ → Type 0
MigrateStaysWithin words contents before after = (named : MigrateNames) → AsksMigrate words named → FileShowsWithin contents named.map before after

-- ---- a map and its dual

-- where the bytes stand for a map, no more steps than reading it and printing its dual
abbrev pub DualsWithin : List ℕ → ℕ → ℕ → Type 0
DualsWithin bytes before after = (version : MapVersion) (map : ListedMap) → MapText bytes version map → after ≤ before + dualising map.schema.dim (length map.darts)

-- where the store tells, the same of the file of that name
abbrev pub FileDualsWithin : Contents → List ℕ → ℕ → ℕ → Type 0
FileDualsWithin contents name before after = IfSome contents (λ files. (bytes : List ℕ) → HasFile files name bytes → DualsWithin bytes before after)

-- and where the words are `dual` and that name; the book takes none
abbrev pub DualStaysWithin : List (List ℕ) → Contents → ℕ → ℕ → Type 0
DualStaysWithin words contents before after = (named : DualNames) → AsksDual words named → FileDualsWithin contents named.map before after

-- ---- a grid

-- the fewest and the most steps of the statements together, each at the state that it is met in
abbrev pub HasGridBounds : ℕ → Gridded → Bounds → Type 0
HasGridBounds m made bounds = IsRunWithin grid_rules (start_of made.grid) no_entries (grid_stats m) made.outcomes made.after bounds

module _ (m : ℕ) where
  -- the most steps: the most of the statements, and what it takes to handle the darts of the grid and those that are left
  pub data IsGridMost : ℕ → Type 0 where
    MostOfGrid : (made : Gridded) (left : ℕ) (bounds : Bounds) → IsGridded m made → HasGridBounds m made bounds → HasCount (IsDart made.after.map) left → IsGridMost (bounds.most + handling 2 (dart_count m) left)

  -- the least: that of the statements, and one for each dart of the grid
  pub data IsGridLeast : ℕ → Type 0 where
    LeastOfGrid : (made : Gridded) (bounds : Bounds) → IsGridded m made → HasGridBounds m made bounds → IsGridLeast (bounds.least + dart_count m)

  -- there is a most of steps, and no more are taken
  abbrev pub WithinGridMost : ℕ → ℕ → Type 0
  WithinGridMost before after = (most : ℕ) × IsGridMost most × (after ≤ before + most)

  -- and a least, and no fewer are taken
  abbrev pub AtLeastOfGrid : ℕ → ℕ → Type 0
  AtLeastOfGrid before after = (least : ℕ) × IsGridLeast least × (before + least ≤ after)

-- where the words are a grid, no more steps than its most
abbrev pub GridStaysWithin : List (List ℕ) → ℕ → ℕ → Type 0
GridStaysWithin words before after = (m : ℕ) → AsksGrid words m → WithinGridMost m before after

-- and where it is done, no fewer than its least
abbrev pub GridTakesLeast : List (List ℕ) → ℕ → ℕ → ℕ → Type 0
GridTakesLeast words status before after = (m : ℕ) → AsksGrid words m → IsRunStatus status → AtLeastOfGrid m before after

-- ---- whatever the words are

-- what is stated of the steps of a call that ends with the status
pub record KeepsSteps (words : List (List ℕ)) (contents : Contents) (status before after : ℕ) : Type 0 where
  pub most : StaysWithin words contents before after
  pub least : TakesLeast words contents status before after
  pub show_most : ShowStaysWithin words contents before after
  pub migrate_most : MigrateStaysWithin words contents before after
  pub dual_most : DualStaysWithin words contents before after
  pub grid_most : GridStaysWithin words before after
  pub grid_least : GridTakesLeast words status before after

-- ---- the parts of a run

-- where the bytes stand for a map, no more steps than reading it
abbrev pub BytesReadWithin : List ℕ → ℕ → ℕ → Type 0
BytesReadWithin bytes before after = (version : MapVersion) (map : ListedMap) → MapText bytes version map → after ≤ before + reading map.schema.dim (length map.darts)

-- where the store tells, the same of the file of that name
abbrev pub ReadsWithin : Contents → List ℕ → ℕ → ℕ → Type 0
ReadsWithin contents name before after = IfSome contents (λ files. (bytes : List ℕ) → HasFile files name bytes → BytesReadWithin bytes before after)

-- no more steps than the most of the statements, and than printing the map that they leave
abbrev pub RunsWithin : Inputs → ℕ → ℕ → Type 0
RunsWithin inputs before after = (ran : Ran) (bounds : Bounds) → IsRan inputs ran → HasBounds inputs ran bounds → after ≤ before + bounds.most + printing (dim_of inputs) (darts_left ran)

-- no fewer than the least of the statements, and one for each dart that is left
abbrev pub RunsAtLeast : Inputs → ℕ → ℕ → Type 0
RunsAtLeast inputs before after = (ran : Ran) (bounds : Bounds) → IsRan inputs ran → HasBounds inputs ran bounds → before + bounds.least + darts_left ran ≤ after

-- ---- the parts of a grid

-- what it takes to count the cells of a map of this many darts
abbrev pub counting : ℕ → ℕ
counting darts = 72 * darts

-- no more steps than the most of the statements, and than counting the cells of the map that they leave
abbrev pub GridRunsWithin : ℕ → ℕ → ℕ → Type 0
GridRunsWithin m before after = (made : Gridded) (left : ℕ) (bounds : Bounds) → IsGridded m made → HasGridBounds m made bounds → HasCount (IsDart made.after.map) left → after ≤ before + bounds.most + counting left

-- no fewer than the least of the statements
abbrev pub GridRunsAtLeast : ℕ → ℕ → ℕ → Type 0
GridRunsAtLeast m before after = (made : Gridded) (bounds : Bounds) → IsGridded m made → HasGridBounds m made bounds → before + bounds.least ≤ after
