-- A list as parts of one length.
use Rattle.std.specs.Prelude.{ℕ, ◌*◌, List, take, drop}

-- what the slot of this number has of a list with this many for each
abbrev pub part_of : {A : Type 0} → ℕ → List A → ℕ → List A
part_of width items slot = take width (drop (slot * width) items)
