-- What a store in memory that never fails is.
use Rattle.std.specs.Prelude.{ℕ, List, refl}
use Rattle.std.specs.Coded.{Coded, code_by, coded×, coded_ℕ, coded_list}
use Rattle.gm_host.specs.inner.Files.{Files, files_code}

-- its files, how many loads and saves there were, and of which names the loads were, in order
pub record StoreState : Type 0 where
  pub files : Files
  pub loads : ℕ
  pub loaded : List (List ℕ)
  pub saves : ℕ

-- a state is stored as the tuple of its fields
abbrev pub state_code : Coded StoreState
state_code =
    code_by (Files × (ℕ × (List (List ℕ) × ℕ))) (coded× files_code (coded× coded_ℕ (coded× (coded_list (coded_list coded_ℕ)) coded_ℕ))) (λ s. (s.files, (s.loads, (s.loaded, s.saves)))) (λ p. record { files = p.0; loads = p.1.0; loaded = p.1.1.0; saves = p.1.1.1 }) (λ _. refl)

-- the count of its faults, always
abbrev pub no_faults : ℕ
no_faults = 0
