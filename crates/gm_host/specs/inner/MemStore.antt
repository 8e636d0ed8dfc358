-- What a store in memory is, and what a load and a save leave of it.
use Rattle.std.specs.Prelude.{ℕ, refl, ◌≡◌, ◌==◌, ◌∷◌, ◌++◌, [], Bool, List, Option, Some, None, Result, Ok, Err, take, if◌then◌else◌}
use Rattle.std.specs.Coded.{Coded, code_by, coded×, coded_ℕ, coded_list, coded_option}
use Rattle.std.specs.List.{list_any}
use Rattle.std.specs.Ordering.{nat_cmp}
use Rattle.std.specs.FinMap.{FinMap, code, get, insert}
use Rattle.gm_host.specs.Count.{counted}
use Rattle.gm_host.specs.inner.Files.{Files, files_code}
use Rattle.gm_host.specs.declared.fault.SaveFault.{SaveFault}
use Rattle.gm_host.specs.declared.fault.SaveFault.TheVariants.{Failed, OutOfMemory}

-- for the number of each save that is to fail, how many of its bytes it keeps, or that it leaves the old state
abbrev pub Plan : Type 0
Plan = FinMap nat_cmp (Option ℕ)

-- its files, the loads and the saves that are to fail, its counts, and the names of the loads, in order
pub record StoreState : Type 0 where
  pub files : Files
  pub failing_loads : List ℕ
  pub failing_saves : Plan
  pub loads : ℕ
  pub loaded : List (List ℕ)
  pub load_faults : ℕ
  pub saves : ℕ
  pub save_faults : ℕ

-- a state is stored as the tuple of its fields
abbrev pub state_code : Coded StoreState
state_code =
    code_by (Files × (List ℕ × (Plan × (ℕ × (List (List ℕ) × (ℕ × (ℕ × ℕ)))))))
    (coded× files_code (coded× (coded_list coded_ℕ) (coded× (code coded_ℕ (coded_option coded_ℕ)) (coded× coded_ℕ (coded× (coded_list (coded_list coded_ℕ)) (coded× coded_ℕ (coded× coded_ℕ coded_ℕ)))))))
    (λ s. (s.files, (s.failing_loads, (s.failing_saves, (s.loads, (s.loaded, (s.load_faults, (s.saves, s.save_faults))))))))
    (λ p. record {
      files = p.0;
      failing_loads = p.1.0;
      failing_saves = p.1.1.0;
      loads = p.1.1.1.0;
      loaded = p.1.1.1.1.0;
      load_faults = p.1.1.1.1.1.0;
      saves = p.1.1.1.1.1.1.0;
      save_faults = p.1.1.1.1.1.1.1;
    }) (λ _. refl)

-- ---- loads

-- the number of the next load is one that was named to fail
abbrev pub fails_next : StoreState → Bool
fails_next state = list_any (λ call. call == state.loads) state.failing_loads

-- the state after a load of the name: every load counts, and one that was named to fail counts as a fault
abbrev pub after_load : StoreState → List ℕ → StoreState
after_load state name = record state {
  loads = counted state.loads;
  loaded = state.loaded ++ name ∷ [];
  load_faults = if fails_next state then counted state.load_faults else state.load_faults;
}

-- ---- saves

-- the state after a save that did not fail
abbrev pub after_save : StoreState → List ℕ → List ℕ → StoreState
after_save before name bytes = record before { files = insert before.files name bytes; saves = counted before.saves }

-- the state after a save for which memory ran out
abbrev pub after_unmade_save : StoreState → StoreState
after_unmade_save before = record before { saves = counted before.saves }

-- the files after a save that failed: as they were, or with this many of the first bytes under the name
abbrev pub kept_files : Files → List ℕ → List ℕ → Option ℕ → Files
kept_files files name bytes None = files
kept_files files name bytes (Some kept) = insert files name (take kept bytes)

-- the state after a save that failed
abbrev pub after_failed_save : StoreState → List ℕ → List ℕ → Option ℕ → StoreState
after_failed_save before name bytes kept = record before {
  files = kept_files before.files name bytes kept;
  saves = counted before.saves;
  save_faults = counted before.save_faults;
}

-- what a save may answer, and what it leaves: given what it is to keep where it is to fail
abbrev pub Saves : Option (Option ℕ) → StoreState → List ℕ → List ℕ → Result (Unit {0}) SaveFault → StoreState → Type 0
Saves None before name bytes (Ok _) after = after ≡ after_save before name bytes
Saves (Some kept) before name bytes (Ok _) after = ⊥
Saves None before name bytes (Err Failed) after = ⊥
Saves (Some kept) before name bytes (Err Failed) after = after ≡ after_failed_save before name bytes kept
Saves _ before name bytes (Err OutOfMemory) after = after ≡ after_unmade_save before

-- a save fails exactly where its number was named, unless memory ran out
abbrev pub IsSaveAsPlanned : StoreState → List ℕ → List ℕ → Result (Unit {0}) SaveFault → StoreState → Type 0
IsSaveAsPlanned before name bytes answer after = Saves (get before.failing_saves before.saves) before name bytes answer after
