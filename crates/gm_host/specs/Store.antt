-- What a store holds, and what the answer of a load says of it.
use Rattle.std.specs.Prelude.{ℕ, ◌≡◌, ◌+◌, ◌<◌, List, length, Option, Some, None, Result, Ok, Err, take}
use Rattle.gm_host.specs.declared.fault.LoadFault.{LoadFault}
use Rattle.gm_host.specs.declared.fault.LoadFault.TheVariants.{Absent, Failed, TooLong, OutOfMemory}

-- what a store holds: the bytes under each name, or that it does not tell
abbrev pub Contents : Type 0
Contents = Option (List ℕ → Option (List ℕ))

-- what a store that does not tell means
abbrev pub untold : Contents
untold = None

-- the store tells, and holds nothing under the name
abbrev pub Lacks : Contents → List ℕ → Type 0
Lacks None name = ⊥
Lacks (Some files) name = files name ≡ None

-- where the store tells, it holds these bytes under the name
abbrev pub IsHeld : Contents → List ℕ → List ℕ → Type 0
IsHeld None name bytes = Unit {0}
IsHeld (Some files) name bytes = files name ≡ Some bytes

-- the file is there and longer than the limit, and these are its first bytes, one more than the limit
abbrev pub IsCutFrom : Option (List ℕ) → ℕ → List ℕ → Type 0
IsCutFrom None limit bytes = ⊥
IsCutFrom (Some file) limit bytes = (limit < length file) × (bytes ≡ take (limit + 1) file)

-- where the store tells, it holds a file under the name that is longer than the limit, and these are its first bytes
abbrev pub IsCutFromHeld : Contents → List ℕ → ℕ → List ℕ → Type 0
IsCutFromHeld None name limit bytes = Unit {0}
IsCutFromHeld (Some files) name limit bytes = IsCutFrom (files name) limit bytes

-- the file is there, and longer than the limit
abbrev pub IsLongerThan : ℕ → Option (List ℕ) → Type 0
IsLongerThan limit None = ⊥
IsLongerThan limit (Some file) = limit < length file

-- the store tells, and holds more than the limit under the name
abbrev pub HoldsLongerFile : Contents → List ℕ → ℕ → Type 0
HoldsLongerFile None name limit = ⊥
HoldsLongerFile (Some files) name limit = IsLongerThan limit (files name)

module _ {T : Type 0} where
  -- the answer is that the file is absent
  abbrev pub IsAbsent : Result T LoadFault → Type 0
  IsAbsent (Err Absent) = Unit {0}
  IsAbsent _ = ⊥

  -- the answer is that the store failed
  abbrev pub IsFailed : Result T LoadFault → Type 0
  IsFailed (Err Failed) = Unit {0}
  IsFailed _ = ⊥

  -- the fact, where the answer is that the file is absent
  abbrev pub OnAbsent : Result T LoadFault → Type 0 → Type 0
  OnAbsent (Err Absent) P = P
  OnAbsent _ P = Unit {0}

  -- the fact, where the answer is that the store failed
  abbrev pub OnFailed : Result T LoadFault → Type 0 → Type 0
  OnFailed (Err Failed) P = P
  OnFailed _ P = Unit {0}

  -- the fact of the bytes seen, where the answer is that the file is too long
  abbrev pub IfTooLong : Result T LoadFault → (List ℕ → Type 0) → Type 0
  IfTooLong (Err (TooLong seen)) P = P seen
  IfTooLong _ P = Unit {0}

  -- the answer is `Absent`, unless the store failed or memory ran out
  abbrev pub IsAbsentUnlessFailing : Result T LoadFault → Type 0
  IsAbsentUnlessFailing (Ok bytes) = ⊥
  IsAbsentUnlessFailing (Err (TooLong seen)) = ⊥
  IsAbsentUnlessFailing (Err Absent) = Unit {0}
  IsAbsentUnlessFailing (Err Failed) = Unit {0}
  IsAbsentUnlessFailing (Err OutOfMemory) = Unit {0}

  -- the answer is `TooLong`, unless the store failed or memory ran out
  abbrev pub IsTooLongUnlessFailing : Result T LoadFault → Type 0
  IsTooLongUnlessFailing (Ok bytes) = ⊥
  IsTooLongUnlessFailing (Err Absent) = ⊥
  IsTooLongUnlessFailing (Err (TooLong seen)) = Unit {0}
  IsTooLongUnlessFailing (Err Failed) = Unit {0}
  IsTooLongUnlessFailing (Err OutOfMemory) = Unit {0}
