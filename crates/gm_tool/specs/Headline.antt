-- What a run comes to: it is done unless a fault keeps it from that or memory ran out, and what is done is as stated, part by part.
use Rattle.std.specs.Prelude.{◌≡◌, ◌⊎◌, ℕ, ◌+◌, ◌≤◌, List, ◌++◌, length, Option, Some}
use Rattle.gm_host.specs.Saves.{IsSaved}
use Rattle.gm_host.specs.Store.{Contents}
use Rattle.gm_mapfile.specs.MapText.{map_of}
use Rattle.gm_model.specs.Budgets.{Bounds}
use Rattle.gm_model.specs.Maps.{IsSound}
use Rattle.gm_tool.specs.Answer.{most_bytes, Files}
use Rattle.gm_tool.specs.MadeRuns.{IsRunStatus}
use Rattle.gm_tool.specs.RunAnswer.{RunNames, AsksRun, Inputs, Ran, IsGoodRun, report_of, saved_of, run_status}
use Rattle.gm_tool.specs.StepBounds.{HasBounds, handling, dim_of, darts_read, darts_left}

module _ (files : Files) (named : RunNames) (status : ℕ) (before written : List ℕ) (after : Contents) (steps later : ℕ) where
  pub record RunsAsStated : Type 0 where
    pub inputs : Inputs
    pub ran : Ran
    -- the files are the texts of a map, of a book whose rules are accepted, and of a script; and the statements have these outcomes, and leave this map
    pub good : IsGoodRun files named inputs ran
    pub status_is : status ≡ run_status ran.outcomes
    -- the report is printed, and nothing else
    pub report : written ≡ before ++ report_of inputs ran
    -- the map is saved, and all else is held as before
    pub saved : IsSaved (Some files) named.out (saved_of inputs ran) after
    -- the map whose text is saved is a generalised map with one value on each embedding orbit
    pub sound : IsSound (map_of ran.map)
    -- the statements have these bounds: the steps stay within their most and what it takes to read, judge and print, and are no fewer than the least
    pub bounds : Bounds
    pub bounds_are : HasBounds inputs ran bounds
    pub most : later ≤ steps + (bounds.most + handling (dim_of inputs) (darts_read inputs) (darts_left ran))
    pub least : steps + (bounds.least + darts_read inputs + darts_left ran) ≤ later

-- the report and the map's text are not too long
abbrev pub IsWithinSize : Inputs → Ran → Type 0
IsWithinSize inputs ran = (length (report_of inputs ran) ≤ most_bytes) × (length (saved_of inputs ran) ≤ most_bytes)

-- what alone may keep a good run from being done: memory ran out, or a load, the save or the put failed, as its count shows
pub data IsKept (load_fails save_fails put_fails : Type 0) (status : ℕ) : Type 0 where
  NoMemory : status ≡ 7 → IsKept load_fails save_fails put_fails status
  LoadFailed : load_fails → status ≡ 3 → IsKept load_fails save_fails put_fails status
  SaveFailed : save_fails → status ≡ 5 → IsKept load_fails save_fails put_fails status
  PutFailed : put_fails → status ≡ 6 → IsKept load_fails save_fails put_fails status

module _ (files : Files) (named : RunNames) (load_fails save_fails put_fails : Type 0) (status : ℕ) (before : List ℕ) (written : Option (List ℕ)) (after : Contents) (steps later : ℕ) where
  pub record IsAsStated : Type 0 where
    -- for every map, every book whose rules are accepted and every script: the run is done, or kept from it
    pub every : (inputs : Inputs) (ran : Ran) → IsGoodRun files named inputs ran → IsWithinSize inputs ran → (status ≡ run_status ran.outcomes) ⊎ IsKept load_fails save_fails put_fails status
    -- and where the status says that it is done, it is
    pub done : IsRunStatus status → (put : List ℕ) × (written ≡ Some put) × RunsAsStated files named status before put after steps later

-- where store and sink tell, and the words are a run
abbrev pub HeadlineHolds : List (List ℕ) → Contents → Contents → Type 0 → Type 0 → Type 0 → Option (List ℕ) → ℕ → Option (List ℕ) → ℕ → ℕ → Type 0
HeadlineHolds words (Some files) after load_fails save_fails put_fails (Some before) status written steps later =
    (named : RunNames) → AsksRun words named → IsAsStated files named load_fails save_fails put_fails status before written after steps later
HeadlineHolds words _ after load_fails save_fails put_fails _ status written steps later = Unit {0}
