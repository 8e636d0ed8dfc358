-- Which token stands next before a lexer.
use Rattle.std.specs.Prelude.{◌≡◌, ◌≢◌, ℕ, ◌-◌, ◌^◌, min, Bool, true, false, List, [], ◌∷◌, codes}
use Rattle.gm_model.specs.Symbols.{Symbol, Numeral, Sign, End, Mark}
use Rattle.gm_text.specs.inner.Cursor.{Cursor}
use Rattle.gm_text.specs.inner.SchemaAnswers.{marks_left}
use Rattle.gm_text.specs.declared.schema_fault.SchemaFault.{SchemaFault}
use Rattle.gm_text.specs.declared.schema_fault.SchemaFault.TheVariants as faults

-- the symbol stands next at the place, and the lexer goes past it
abbrev pub IsMarkNext : Symbol → ℕ → Cursor → Cursor → Type 0
IsMarkNext symbol place old new = marks_left old ≡ record { symbol = symbol; place = place } ∷ marks_left new

abbrev pub StandsNext : Symbol → Cursor → Cursor → Type 0
StandsNext symbol old new = (place : ℕ) × IsMarkNext symbol place old new

-- a number stands next at the place, where the greatest `u64` stands for one that is greater
abbrev pub IsNumberNext : Cursor → ℕ → ℕ → Cursor → Type 0
IsNumberNext old value place new = (n : ℕ) × (value ≡ min n (2 ^ 64 - 1)) × IsMarkNext (Numeral n) place old new

-- another symbol stands next, and the fault says where
abbrev pub IsOtherNext : Symbol → Cursor → SchemaFault → Type 0
IsOtherNext symbol old fault = (mark : Mark) × (rest : List Mark) × (marks_left old ≡ mark ∷ rest) × (mark.symbol ≢ symbol) × (fault ≡ faults.Text mark.place)

-- no number stands next, and the fault says where
abbrev pub IsNoNumberNext : Cursor → SchemaFault → Type 0
IsNoNumberNext old fault = (mark : Mark) × (rest : List Mark) × (marks_left old ≡ mark ∷ rest) × ((n : ℕ) → mark.symbol ≢ Numeral n) × (fault ≡ faults.Text mark.place)

-- ---- a number after a minus or without one

abbrev pub minus_sign : Symbol
minus_sign = Sign (codes "-")

-- what stands before the rest
abbrev pub signed_marks : Bool → ℕ → ℕ → ℕ → List Mark → List Mark
signed_marks true at n place rest = record { symbol = minus_sign; place = at } ∷ record { symbol = Numeral n; place = place } ∷ rest
signed_marks false at n place rest = record { symbol = Numeral n; place = place } ∷ rest

-- a number stands next, after a minus or without one, where the greatest `u64` stands for one that is greater
abbrev pub IsSignedNext : Cursor → Bool → ℕ → ℕ → Cursor → Type 0
IsSignedNext old minus size place new = (n at : ℕ) × (size ≡ min n (2 ^ 64 - 1)) × (marks_left old ≡ signed_marks minus at n place (marks_left new))

-- neither a number stands next nor a minus before one, and the fault says where
pub data IsNoSignedNext (old : Cursor) (fault : SchemaFault) : Type 0 where
  AtFirst : (mark : Mark) (rest : List Mark) → marks_left old ≡ mark ∷ rest → ((n : ℕ) → mark.symbol ≢ Numeral n) → mark.symbol ≢ minus_sign → fault ≡ faults.Text mark.place → IsNoSignedNext old fault
  BehindMinus : (at : ℕ) (mark : Mark) (rest : List Mark) → marks_left old ≡ record { symbol = minus_sign; place = at } ∷ mark ∷ rest → ((n : ℕ) → mark.symbol ≢ Numeral n) → fault ≡ faults.Text mark.place → IsNoSignedNext old fault

-- ---- the end

-- the end stands next
abbrev pub IsEndNext : Cursor → Type 0
IsEndNext old = (place : ℕ) × (marks_left old ≡ record { symbol = End; place = place } ∷ [])

-- something else stands next, and the fault says where
abbrev pub IsMoreNext : Cursor → SchemaFault → Type 0
IsMoreNext old fault = IsOtherNext End old fault
