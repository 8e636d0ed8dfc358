-- What lines of a draft are, taken in an order of their own.
use Rattle.std.specs.Prelude.{ℕ, zero, suc, ◌+◌, ◌*◌, List, [], ◌∷◌, slice_range}
use Rattle.std.specs.List.{flat_map}

-- this many numbers, from this one up
abbrev pub counted_from : ℕ → ℕ → List ℕ
counted_from start zero = []
counted_from start (suc count) = start ∷ counted_from (suc start) count

-- what stands on a line, where each has this many elements
abbrev pub on_line : {A : Type 0} → ℕ → List A → ℕ → List A
on_line width all line = slice_range all (line * width) (line * width + width)

-- what stands on the lines, one after another
abbrev pub on_lines : {A : Type 0} → ℕ → List A → List ℕ → List A
on_lines width all lines = flat_map (on_line width all) lines
