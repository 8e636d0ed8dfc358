-- What a save leaves in a store.
use Rattle.std.specs.Prelude.{ℕ, ◌≡◌, ◌≢◌, ◌⊎◌, List, Some, None, Result, Err, take}
use Rattle.gm_host.specs.Store.{Contents}
use Rattle.gm_host.specs.declared.fault.SaveFault.{SaveFault}
use Rattle.gm_host.specs.declared.fault.SaveFault.TheVariants.{Failed, OutOfMemory}

-- the store holds exactly these bytes under the name, and all else as before; a store that does not tell goes on so
abbrev pub IsSaved : Contents → List ℕ → List ℕ → Contents → Type 0
IsSaved None name bytes after = after ≡ None
IsSaved (Some files) name bytes None = ⊥
IsSaved (Some files) name bytes (Some later) = (later name ≡ Some bytes) × ((other : List ℕ) → other ≢ name → later other ≡ files other)

-- all is as before, or the store holds some of the first bytes under the name, and all else as before
abbrev pub IsSavedInPart : Contents → List ℕ → List ℕ → Contents → Type 0
IsSavedInPart before name bytes after = (after ≡ before) ⊎ ((kept : ℕ) × IsSaved before name (take kept bytes) after)

module _ {T : Type 0} where
  -- the answer is that the store failed
  abbrev pub IsFailed : Result T SaveFault → Type 0
  IsFailed (Err Failed) = Unit {0}
  IsFailed _ = ⊥

  -- the answer is that memory ran out
  abbrev pub IsOutOfMemory : Result T SaveFault → Type 0
  IsOutOfMemory (Err OutOfMemory) = Unit {0}
  IsOutOfMemory _ = ⊥

  -- the fact, where the answer is that the store failed
  abbrev pub OnFailed : Result T SaveFault → Type 0 → Type 0
  OnFailed (Err Failed) P = P
  OnFailed _ P = Unit {0}

  -- the fact, where the answer is that memory ran out
  abbrev pub OnOutOfMemory : Result T SaveFault → Type 0 → Type 0
  OnOutOfMemory (Err OutOfMemory) P = P
  OnOutOfMemory _ P = Unit {0}
