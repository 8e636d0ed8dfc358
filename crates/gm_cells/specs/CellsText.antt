-- The text of the numbers of a map and of its orientation.
use Rattle.std.specs.Prelude.{ℕ, ◌+◌, List, [], ◌∷◌, ◌++◌, codes, decimal}
use Rattle.gm_cells.specs.declared.counts.Counts.{Counts}
use Rattle.gm_cells.specs.declared.orientation.Orientation.{Orientation}
use Rattle.gm_cells.specs.declared.orientation.Orientation.TheVariants.{Two, Odd}

-- cells 0 4
abbrev pub numbered : List ℕ → ℕ → List ℕ → List ℕ
numbered words label [] = []
numbered words label (count ∷ counts) = (words ++ (decimal label ++ (codes " " ++ (decimal count ++ codes "\n")))) ++ numbered words (label + 1) counts

-- one space before each number
abbrev pub listed : List ℕ → List ℕ
listed [] = []
listed (number ∷ numbers) = (codes " " ++ decimal number) ++ listed numbers

abbrev pub counts_text : Counts → List ℕ
counts_text counts =
    (codes "darts " ++ (decimal counts.darts ++ codes "\n")) ++ (numbered (codes "cells ") 0 counts.cells
    ++ ((codes "components " ++ (decimal counts.components ++ codes "\n")) ++ numbered (codes "free ") 0 counts.free))

abbrev pub orientation_text : Orientation → List ℕ
orientation_text (Two first) = codes "orientable yes\nfirst" ++ (listed first ++ codes "\n")
orientation_text (Odd start labels) = codes "orientable no\nodd " ++ (decimal start ++ (codes " labels" ++ (listed labels ++ codes "\n")))
