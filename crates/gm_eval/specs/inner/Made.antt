-- That no value has what is asked of it, and what is exact where it is in range.
use Rattle.std.specs.Int.{w64}
use Rattle.std.specs.Option.{SomeIff}
use Rattle.std.specs.Prelude.{ℤ, FitsSigned, Option}
use Rattle.gm_model.specs.declared.value.Value.{Value}

abbrev pub IsNone : (Value → Type 0) → Type 0
IsNone P = (v : Value) → P v → ⊥

-- the number, where 64 bits can have it
abbrev pub IsExact : Option ℤ → ℤ → Type 0
IsExact part x = SomeIff part (FitsSigned w64 x) x
