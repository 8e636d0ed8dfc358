-- How a whole number of a value is written, with or without a minus, and which ones are in range.
use Rattle.std.specs.Prelude.{ℕ, ◌-◌, ◌^◌, Bool, ◌&&◌, true, false, if◌then◌else◌, ℤ, pos, neg_ℤ, int_le, List, ◌∷◌, codes}
use Rattle.gm_model.specs.Symbols.{Numeral, Sign}
use Rattle.gm_model.specs.Reading.{Part}

-- a number, and whether a minus stands before it
pub record Signed : Type 0 where
  pub minus : Bool
  pub size : ℕ

-- the number of the size, after a minus or without one
abbrev pub signed : Bool → ℕ → ℤ
signed minus size = if minus then neg_ℤ (pos size) else pos size

abbrev pub integer : Signed → ℤ
integer x = signed x.minus x.size

-- the greatest number after a minus, and without one
abbrev pub greatest : Bool → ℕ
greatest minus = if minus then 2 ^ 63 else 2 ^ 63 - 1

-- whether it is a component of a colour
abbrev pub is_channel : ℤ → Bool
is_channel n = int_le (pos 0) n && int_le n (pos 255)

abbrev pub truth_text : Bool → List ℕ
truth_text true = codes "true"
truth_text false = codes "false"

-- a minus is a token of its own; the number's role tells whether one stands before it
abbrev pub spell_signed : {Role : Type 0} → Role → (Bool → Role) → Signed → List (Part Role) → List (Part Role)
spell_signed fixed size x rest =
    if x.minus then record { symbol = Sign (codes "-"); role = fixed } ∷ record { symbol = Numeral x.size; role = size true } ∷ rest
    else record { symbol = Numeral x.size; role = size false } ∷ rest
