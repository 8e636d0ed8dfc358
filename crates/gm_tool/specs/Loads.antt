-- How many loads and saves there were, at which load the store failed, and after which a run stops.
use Rattle.std.specs.Prelude.{◌≡◌, ◌⊎◌, ℕ, zero, suc, List, Result, Err, IfSome}
use Rattle.gm_host.specs.Count.{counted, Rises}
use Rattle.gm_host.specs.Store.{Contents, Lacks}
use Rattle.gm_tool.specs.Answer.{Files, Answer}
use Rattle.gm_lines.specs.Refusing.{Role, TheMap, TheBook, TheScript}
use Rattle.gm_tool.specs.RunAnswer.{RunNames, AsksRun, Inputs, HasMap, HasBook, IsFailing, IsBadMap, IsBadBook, PassesTo}
use Rattle.gm_tool.specs.declared.refusal.NoText.{NoText}
use Rattle.gm_tool.specs.declared.refusal.NoText.TheVariants as nothing
use Rattle.gm_tool.specs.declared.refusal.Stop.{Stop}
use Rattle.gm_tool.specs.declared.refusal.Stop.TheVariants as stops
use Rattle.gm_tool.specs.declared.reply.Reply.{Reply}

-- a count of loads after this many more
abbrev pub loads_after : ℕ → ℕ → ℕ
loads_after zero count = count
loads_after (suc k) count = counted (loads_after k count)

-- the count of failed loads rose, and this load, counted from 1, was the last
abbrev pub FailsAt : ℕ → ℕ → ℕ → ℕ → ℕ → Type 0
FailsAt faults later_faults loads later_loads k = Rises faults later_faults × (later_loads ≡ loads_after k loads)

-- ---- a run

-- which load is that of the role's file, counted from 1
abbrev pub load_of : Role → ℕ
load_of TheMap = 1
load_of TheBook = 2
load_of TheScript = 3

abbrev pub file_of : RunNames → Role → List ℕ
file_of named TheMap = named.map
file_of named TheBook = named.book
file_of named TheScript = named.script

-- where the store tells, each file of a run that is taken before that of the role is good
abbrev pub PassesAt : Contents → RunNames → Role → Type 0
PassesAt contents named role = IfSome contents (λ files. PassesTo files named role)

-- one load for each file up to that of some role, before which each is good
abbrev pub LoadsUpTo : (Role → Type 0) → ℕ → ℕ → Type 0
LoadsUpTo PassesTo before after = (role : Role) × PassesTo role × (after ≡ loads_after (load_of role) before)

-- one load for each file of a run up to that of some role, each good but perhaps the last
abbrev pub LoadsInOrder : Contents → RunNames → ℕ → ℕ → Type 0
LoadsInOrder contents named = LoadsUpTo (PassesAt contents named)

-- the load of the role's file failed, or the store lacks that file; and each file before it is good
abbrev pub IsUnloaded : Contents → RunNames → (ℕ → Type 0) → Role → Type 0
IsUnloaded contents named load_fails role = PassesAt contents named role × (load_fails (load_of role) ⊎ Lacks contents (file_of named role))

-- the file of the role is not good, or the store failed
abbrev pub FailsHere : Files → Role → List ℕ → (List ℕ → List ℕ → Type 0) → Type 0 → Type 0
FailsHere files role name IsBadText fails = fails ⊎ ((answer : Answer) × IsFailing files role name IsBadText answer)

-- The last load of a run, counted from 1: of the map where that fails, else of the book where that does, else of the script. `fails` says that the count of failed loads rose.
pub data StopsBehind (files : Files) (named : RunNames) (fails : Type 0) : ℕ → Type 0 where
  BehindMap : FailsHere files TheMap named.map IsBadMap fails → StopsBehind files named fails 1
  BehindBook : (inputs : Inputs) → HasMap files named inputs → FailsHere files TheBook named.book IsBadBook fails → StopsBehind files named fails 2
  BehindScript : (inputs : Inputs) → HasMap files named inputs → HasBook files named inputs → StopsBehind files named fails 3

abbrev pub StopsInTime : Files → RunNames → Type 0 → ℕ → ℕ → Type 0
StopsInTime files named fails before after = (last : ℕ) × StopsBehind files named fails last × (after ≡ loads_after last before)

-- where the words are a run and the store tells, there are as many loads as that
abbrev pub CountsLoads : List (List ℕ) → Contents → Type 0 → ℕ → ℕ → Type 0
CountsLoads words contents fails before after = IfSome contents (λ files. (named : RunNames) → AsksRun words named → StopsInTime files named fails before after)

-- ---- saves

-- the statuses with which a command that saves has called for its one save: it is done, or the save failed
abbrev pub IsSaveStatus : ℕ → Type 0
IsSaveStatus status = (status ≡ 0) ⊎ ((status ≡ 1) ⊎ (status ≡ 5))

-- the statuses with which no save was called for
abbrev pub IsUnsavedStatus : ℕ → Type 0
IsUnsavedStatus status = (status ≡ 2) ⊎ ((status ≡ 3) ⊎ ((status ≡ 4) ⊎ (status ≡ 8)))

abbrev pub OneAtMost : ℕ → ℕ → Type 0
OneAtMost before after = (after ≡ before) ⊎ (after ≡ counted before)

-- a command that saves does so once at most, and its status tells whether
pub record CountsSaves (status before after : ℕ) : Type 0 where
  pub one_at_most : OneAtMost before after
  pub one : IsSaveStatus status → after ≡ counted before
  pub none : IsUnsavedStatus status → after ≡ before

-- ---- where memory ran out

-- the fact, unless memory ran out
abbrev pub UnlessNoMemory : Result Reply NoText → Type 0 → Type 0
UnlessNoMemory (Err nothing.OutOfMemory) P = Unit {0}
UnlessNoMemory _ P = P

-- the same of what is made
abbrev pub UnlessNoMemoryToMake : {A : Type 0} → Result A Stop → Type 0 → Type 0
UnlessNoMemoryToMake (Err (stops.NoText nothing.OutOfMemory)) P = Unit {0}
UnlessNoMemoryToMake _ P = P
