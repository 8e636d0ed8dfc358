-- What a table says, by its first entry that passes a test.
use Rattle.std.specs.Prelude.{Bool, List, [], ◌∷◌, if◌then◌else◌}

module _ {Entry Meaning : Type 0} (test : Entry → Bool) (meaning : Entry → Meaning) (other : Meaning) where
  -- `other` where no entry passes
  abbrev pub meaning_of_first : List Entry → Meaning
  meaning_of_first [] = other
  meaning_of_first (entry ∷ entries) = if test entry then meaning entry else meaning_of_first entries
