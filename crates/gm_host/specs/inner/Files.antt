-- The files of a store in memory, as a finite map from names to bytes.
use Rattle.std.specs.Prelude.{ℕ, List, map, Some, string_bytes, Vec, String}
use Rattle.std.specs.Coded.{Coded, coded_ℕ, coded_list}
use Rattle.std.specs.Ordering.{nat_cmp}
use Rattle.std.specs.Cmp.Lexicographic.{slice_cmp}
use Rattle.std.specs.FinMap.{FinMap, code, get, from_entries}
use Rattle.gm_host.specs.Store.{Contents}

-- the bytes under each name
abbrev pub Files : Type 0
Files = FinMap (slice_cmp nat_cmp) (List ℕ)

-- how files are stored, so that a proof can tell them apart
abbrev pub files_code : Coded Files
files_code = code (coded_list coded_ℕ) (coded_list coded_ℕ)

-- the files of a list of names and bytes, in which no name comes twice
abbrev pub files_of : {A B : Type 0} → List (String A × Vec ℕ B) → Files
files_of entries = from_entries (map (λ entry. (string_bytes entry.0, entry.1.items)) entries)

-- what a store that holds these files tells
abbrev pub told : Files → Contents
told files = Some (get files)
