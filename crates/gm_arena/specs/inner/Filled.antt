-- The finite map that a list stands for: under each number what the list has at that index.
use Rattle.std.specs.Prelude.{List, Option}
use Rattle.std.specs.Ordering.{nat_cmp}
use Rattle.std.specs.FinMap.{FinMap, from_sorted}
use Rattle.slab.specs.Slab.{entries_from}

unfoldable pub filled : {X : Type 0} → List (Option X) → FinMap nat_cmp X
filled slots = from_sorted (entries_from 0 slots)
