-- A run whose map and book were read.
use Rattle.std.specs.Prelude.{◌≡◌, ℕ, ◌+◌, ◌≤◌, Ok}
use Rattle.gm_host.specs.Count.{counted}
use Rattle.gm_host.specs.Store.{Contents}
use Rattle.gm_lines.specs.Refusing.{TheMap, TheBook}
use Rattle.gm_mapfile.specs.declared.reading.MapRead.{MapRead}
use Rattle.gm_model.specs.declared.rule.Book.{Book}
use Rattle.gm_tool.specs.RunAnswer.{RunNames, IsBadMap, IsBadBook}
use Rattle.gm_tool.specs.StepBounds.{ReadsWithin}
use Rattle.gm_tool.specs.inner.Stops.{IsFrom, IsReadMap, IsReadBook}

-- what a run counts: its loads that failed, its loads, and its steps
pub record Counts : Type 0 where
  pub faults : ℕ
  pub loads : ℕ
  pub steps : ℕ

-- the map and the book are read from their files, by two loads: what was counted before the first of them, and how much after the second
pub record HasBegun (contents : Contents) (named : RunNames) (read : MapRead) (book : Book) (start : Counts) (faults loads steps : ℕ) : Type 0 where
  pub the_map : IsFrom contents TheMap named.map IsReadMap IsBadMap (Unit {0}) (Ok read)
  pub the_book : IsFrom contents TheBook named.book IsReadBook IsBadBook (Unit {0}) (Ok book)
  pub faults_never_fall : start.faults ≤ faults
  pub twice : loads ≡ counted (counted start.loads)
  pub most : ReadsWithin contents named.map start.steps steps
  pub least : start.steps + read.arena.count ≤ steps
