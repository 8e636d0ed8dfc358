-- What contracts see of the files of the system.
use Rattle.std.specs.Prelude.{ℕ, ◌≡◌, ◌++◌, List, Option, Some, None, take}
use Rattle.std.specs.Io.KnownBytes.{Appends}

-- how many loads there were, of which names, in order, and how many of them failed; how many saves there were and how many of them failed
pub record Counts : Type 0 where
  pub loads : ℕ
  pub loaded : List (List ℕ)
  pub load_faults : ℕ
  pub saves : ℕ
  pub save_faults : ℕ

-- known bytes stay at the front and grow by some of the first bytes, and no others
abbrev pub AppendsInPart : Option (List ℕ) → Option (List ℕ) → List ℕ → Type 0
AppendsInPart before after bytes = (kept : ℕ) × Appends before after (take kept bytes)

-- where the bytes that are left are known, these are all of them
abbrev pub IsAllOf : Option (List ℕ) → List ℕ → Type 0
IsAllOf None bytes = Unit {0}
IsAllOf (Some left) bytes = bytes ≡ left

-- where the bytes that are left are known, they begin with these
abbrev pub IsFrontOf : Option (List ℕ) → List ℕ → Type 0
IsFrontOf None bytes = Unit {0}
IsFrontOf (Some left) bytes = (rest : List ℕ) × (left ≡ bytes ++ rest)
