-- Which letters stand before a place of a word.
use Rattle.std.specs.Prelude.{◌≡◌, ℕ, ◌<◌, List, Some, slice_get}
use Rattle.gm_model.specs.declared.word.Letter.{Letter}

-- the letter stands at an earlier place
abbrev pub StandsBefore : List Letter → ℕ → Letter → Type 0
StandsBefore word place letter = (m : ℕ) × (m < place) × (slice_get word m ≡ Some letter)
