-- What a put leaves written.
use Rattle.std.specs.Prelude.{ℕ, ◌≡◌, List, ◌++◌, Option, Some, None, Result, Err, take}
use Rattle.gm_host.specs.declared.fault.PutFault.{PutFault}
use Rattle.gm_host.specs.declared.fault.PutFault.TheVariants.{Failed, OutOfMemory}

-- what a sink that does not tell means
abbrev pub untold : Option (List ℕ)
untold = None

-- what is written once the bytes are appended; a sink that does not tell goes on so
abbrev pub extended : Option (List ℕ) → List ℕ → Option (List ℕ)
extended None bytes = None
extended (Some written) bytes = Some (written ++ bytes)

-- some of the first bytes were appended, and no others
abbrev pub ExtendsInPart : Option (List ℕ) → List ℕ → Option (List ℕ) → Type 0
ExtendsInPart before bytes after = (kept : ℕ) × (after ≡ extended before (take kept bytes))

module _ {T : Type 0} where
  -- the answer is that the sink failed
  abbrev pub IsFailed : Result T PutFault → Type 0
  IsFailed (Err Failed) = Unit {0}
  IsFailed _ = ⊥

  -- the answer is that memory ran out
  abbrev pub IsOutOfMemory : Result T PutFault → Type 0
  IsOutOfMemory (Err OutOfMemory) = Unit {0}
  IsOutOfMemory _ = ⊥

  -- the fact, where the answer is that the sink failed
  abbrev pub OnFailed : Result T PutFault → Type 0 → Type 0
  OnFailed (Err Failed) P = P
  OnFailed _ P = Unit {0}

  -- the fact, where the answer is that memory ran out
  abbrev pub OnOutOfMemory : Result T PutFault → Type 0 → Type 0
  OnOutOfMemory (Err OutOfMemory) P = P
  OnOutOfMemory _ P = Unit {0}
