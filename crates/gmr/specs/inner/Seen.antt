-- What is seen of the files of the system before and after a call.
use Rattle.gm_host.specs.inner.FileStore.{Counts}
use Rattle.gm_host.specs.Store.{untold}
use Rattle.gm_tool.specs.Seen.{Seen}

-- its counts, the names that were loaded, and that it doesn't tell what it holds
abbrev pub seen_of : Counts → Seen
seen_of counts = record { holds = untold; loads = counts.loads; loaded = counts.loaded; load_faults = counts.load_faults; saves = counts.saves; save_faults = counts.save_faults }
