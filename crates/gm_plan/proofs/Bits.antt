-- Numbers whose bits tell which numbers are in a set, set one after another.
use Rattle.std.proofs.Common.{◌≡◌, ℕ, ◌+◌, ◌*◌, ◌%◌, ◌^◌, ◌<◌, ◌≤◌, ◌↔◌, ◌≢◌, ◌==◌, Bool, true, false, bit_or, refl, sym, ap, ◌∙◌, inl, inr, arith}
use mir.Val.{bits}
use Rattle.std.specs.Int.{Width, bit_at}
use Rattle.std.proofs.lemmas.Bool.{cases_eq, eq-eqb, false≢true}
use Rattle.std.proofs.lemmas.Nat.Bits.{bit_at_set_same, bit_at_set_other}
use Rattle.gm_plan.specs.inner.Changes.{has_bit}

-- of the first numbers, so many of them, those that are out have no bit, and no later number has one
pub record AreTold (IsOut : ℕ → Type 0) (count set : ℕ) : Type 0 where
  pub told : (x : ℕ) → x < count → (has_bit set x ≡ false) ↔ IsOut x
  pub unset : (x : ℕ) → count ≤ x → bit_at set x ≡ 0

-- what is false in the same cases is the same
pub same_tests : (a b : Bool) → (a ≡ false) ↔ (b ≡ false) → a ≡ b
same_tests true true same = refl
same_tests true false same = same.1 refl
same_tests false b same = sym (same.0 refl)

module _ (IsOut : ℕ → Type 0) where
  module _ (count set : ℕ) (old : AreTold IsOut count set) where
    -- one more number that is out
    pub one_out : IsOut count → AreTold IsOut (count + 1) set
    one_out out = record { told = told; unset = λ x h. old.unset x (omega arith) }
      where
        told : (x : ℕ) → x < count + 1 → (has_bit set x ≡ false) ↔ IsOut x
        told x h = elim (cases_eq x count) [
          | inl same ↦ rw same (λ e. out, λ o. ap (λ b. b == 1) (old.unset count (omega arith)))
          | inr apart ↦ old.told x (omega arith)
        ]

    -- one that is in, whose bit is set
    pub one_in : (w : Width) → count < bits w → (IsOut count → ⊥) → AreTold IsOut (count + 1) (bit_or set (1 * 2 ^ count % 2 ^ bits w))
    one_in w within is_in = record { told = told; unset = λ x h. other x (λ same. absurd (omega arith)) ∙ old.unset x (omega arith) }
      where
        more : ℕ
        more = bit_or set (1 * 2 ^ count % 2 ^ bits w)

        other : (x : ℕ) → x ≢ count → bit_at more x ≡ bit_at set x
        other x apart = bit_at_set_other w set count within x apart

        here : has_bit more count ≡ true
        here = eq-eqb (bit_at more count) 1 (bit_at_set_same w set count within)

        told : (x : ℕ) → x < count + 1 → (has_bit more x ≡ false) ↔ IsOut x
        told x h = elim (cases_eq x count) [
          | inl same ↦ rw same (λ e. absurd (false≢true (sym e ∙ here)), λ o. absurd (is_in o))
          | inr apart ↦ rw (ap (λ b. b == 1) (other x apart)) (old.told x (omega arith))
        ]
