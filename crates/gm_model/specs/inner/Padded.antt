-- How a short list is kept in an array of a fixed size: the places after it hold a filler.
use Rattle.std.specs.Prelude.{◌≡◌, ℕ, ◌-◌, ◌≤◌, List, ◌++◌, length, take, drop, replicate}
use Rattle.std.proofs.lemmas.List.{take-append-drop, length-take-le}

-- the first `used` elements count, and fillers stand after them
pub record IsPadded {A : Type 0} (size : ℕ) (filler : A) (used : ℕ) (held : List A) : Type 0 where
  pub whole : length held ≡ size
  pub within : used ≤ size
  pub behind : drop used held ≡ replicate (size - used) filler

abbrev pub padded : {A : Type 0} → ℕ → A → List A → List A
padded size filler items = items ++ replicate (size - length items) filler

pub length-take-padded : {A : Type 0} (size : ℕ) (filler : A) (used : ℕ) (held : List A) → IsPadded size filler used held → length (take used held) ≡ used
length-take-padded size filler used held h = length-take-le used held (rw h.whole h.within)

-- the list with fillers after it gives the array back
pub padded-take : {A : Type 0} (size : ℕ) (filler : A) (used : ℕ) (held : List A) → IsPadded size filler used held → padded size filler (take used held) ≡ held
padded-take size filler used held h = rw (length-take-padded size filler used held h, ← h.behind) (take-append-drop used held)
