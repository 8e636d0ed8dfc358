-- What a sink in memory is, and what a put leaves of it.
use Rattle.std.specs.Prelude.{ℕ, refl, ◌≡◌, List, ◌++◌, Option, Some, None, Result, Ok, Err, take}
use Rattle.std.specs.Coded.{Coded, code_by, coded×, coded_ℕ, coded_list}
use Rattle.std.specs.Ordering.{nat_cmp}
use Rattle.std.specs.FinMap.{FinMap, code, get}
use Rattle.gm_host.specs.Count.{counted}
use Rattle.gm_host.specs.declared.fault.PutFault.{PutFault}
use Rattle.gm_host.specs.declared.fault.PutFault.TheVariants.{Failed, OutOfMemory}

-- for the number of each put that is to fail, how many bytes it keeps
abbrev pub Plan : Type 0
Plan = FinMap nat_cmp ℕ

-- the bytes written, the puts that are to fail, and the counts of puts and of faults
pub record SinkState : Type 0 where
  pub written : List ℕ
  pub planned : Plan
  pub puts : ℕ
  pub faults : ℕ

-- a state is stored as the tuple of its fields
abbrev pub state_code : Coded SinkState
state_code =
    code_by (List ℕ × (Plan × (ℕ × ℕ))) (coded× (coded_list coded_ℕ) (coded× (code coded_ℕ coded_ℕ) (coded× coded_ℕ coded_ℕ)))
    (λ s. (s.written, (s.planned, (s.puts, s.faults))))
    (λ p. record { written = p.0; planned = p.1.0; puts = p.1.1.0; faults = p.1.1.1 }) (λ _. refl)

-- the state after a put that appended the bytes and did not fail
abbrev pub after_put : SinkState → List ℕ → SinkState
after_put before bytes = record before { written = before.written ++ bytes; puts = counted before.puts }

-- the state after a put for which memory ran out
abbrev pub after_unmade_put : SinkState → SinkState
after_unmade_put before = record before { puts = counted before.puts }

-- the state after a put that failed and kept these bytes
abbrev pub after_failed_put : SinkState → List ℕ → SinkState
after_failed_put before kept = record before {
  written = before.written ++ kept;
  puts = counted before.puts;
  faults = counted before.faults;
}

-- what a put may answer, and what it leaves: given how many bytes it is to keep where it is to fail
abbrev pub Puts : Option ℕ → SinkState → List ℕ → Result (Unit {0}) PutFault → SinkState → Type 0
Puts None before bytes (Ok _) after = after ≡ after_put before bytes
Puts (Some kept) before bytes (Ok _) after = ⊥
Puts None before bytes (Err Failed) after = ⊥
Puts (Some kept) before bytes (Err Failed) after = after ≡ after_failed_put before (take kept bytes)
Puts _ before bytes (Err OutOfMemory) after = after ≡ after_unmade_put before

-- a put fails exactly where its number was named, unless memory ran out
abbrev pub IsPutAsPlanned : SinkState → List ℕ → Result (Unit {0}) PutFault → SinkState → Type 0
IsPutAsPlanned before bytes answer after = Puts (get before.planned before.puts) before bytes answer after
