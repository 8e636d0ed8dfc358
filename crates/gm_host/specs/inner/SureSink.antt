-- What a sink in memory that never fails is.
use Rattle.std.specs.Prelude.{ℕ, refl, List}
use Rattle.std.specs.Coded.{Coded, code_by, coded×, coded_ℕ, coded_list}

-- what was written, and how many puts there were
pub record SinkState : Type 0 where
  pub written : List ℕ
  pub puts : ℕ

-- a state is stored as the pair of its fields
abbrev pub state_code : Coded SinkState
state_code = code_by (List ℕ × ℕ) (coded× (coded_list coded_ℕ) coded_ℕ) (λ s. (s.written, s.puts)) (λ p. record { written = p.0; puts = p.1 }) (λ _. refl)
