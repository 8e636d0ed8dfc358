-- The bits of a mask, one after another.
use Rattle.std.proofs.Common.{◌≡◌, ◌≢◌, ℕ, ◌+◌, ◌*◌, ◌%◌, ◌^◌, ◌<◌, bit_or, w8, sym, ap, ◌∙◌, inl, inr, arith}
use Rattle.std.specs.Int.{bit_at}
use Rattle.std.proofs.lemmas.Bool.{cases_lt, cases_eq, le-leb, lt-leb, ne_eqb, eq-eqb}
use Rattle.std.proofs.lemmas.Nat.Bits.{bit_at-zero, bit_at_set_same, bit_at_set_other}
use Rattle.gm_model.specs.Labels.{has}
use Rattle.gm_cells.specs.Cells.{labels_but}

-- a bit is set where it is below the next, and not the one that is left out
pub record AreSet (label next bits : ℕ) : Type 0 where
  pub has : (i : ℕ) → i < next → i ≢ label → bit_at bits i ≡ 1
  pub only : (i : ℕ) → bit_at bits i ≡ 1 → (i < next) × (i ≢ label)

pub none_set : (label : ℕ) → AreSet label 0 0
none_set label = record { has = λ i h apart. absurd (omega arith); only = λ i h. absurd (let none = bit_at-zero i in omega (arith, none, h)) }

pub one_set : (label next bits : ℕ) → next < 8 → next ≢ label → AreSet label next bits → AreSet label (next + 1) (bit_or bits (1 * 2 ^ next % 256))
one_set label next bits within apart old = record { has = has; only = only }
  where
    other : (i : ℕ) → i ≢ next → bit_at (bit_or bits (1 * 2 ^ next % 256)) i ≡ bit_at bits i
    other i differs = bit_at_set_other w8 bits next within i differs

    has : (i : ℕ) → i < next + 1 → i ≢ label → bit_at (bit_or bits (1 * 2 ^ next % 256)) i ≡ 1
    has i less kept = elim (cases_eq i next) [
      | inl e ↦ ap (λ k. bit_at (bit_or bits (1 * 2 ^ next % 256)) k) e ∙ bit_at_set_same w8 bits next within
      | inr differs ↦ other i differs ∙ old.has i (omega arith) kept
    ]

    only : (i : ℕ) → bit_at (bit_or bits (1 * 2 ^ next % 256)) i ≡ 1 → (i < next + 1) × (i ≢ label)
    only i h = elim (cases_eq i next) [
      | inl e ↦ (omega arith, λ same. apart (sym e ∙ same))
      | inr differs ↦ (let k = old.only i (sym (other i differs) ∙ h) in (omega (arith, k.0), k.1))
    ]

pub none_more : (label next bits : ℕ) → next ≡ label → AreSet label next bits → AreSet label (next + 1) bits
none_more label next bits same old = record {
  has = λ i less apart. old.has i (omega arith) apart;
  only = λ i h. let k = old.only i h in (omega (arith, k.0), k.1);
}

-- the mask of these bits has all labels but one
pub has_others : (top label bits : ℕ) → AreSet label (top + 1) bits → (i : ℕ) → has (record { bits = bits }) i ≡ labels_but top label i
has_others top label bits set i = elim (cases_lt i (top + 1)) [
  | inl within ↦ elim (cases_eq i label) [
    | inl same ↦ (let apart : bit_at bits i ≡ 1 → ⊥ = λ one. (set.only i one).1 same in rw (le-leb i top (omega arith), eq-eqb i label same) (ne_eqb (bit_at bits i) 1 apart))
    | inr apart ↦ rw (le-leb i top (omega arith), ne_eqb i label apart) (eq-eqb (bit_at bits i) 1 (set.has i within apart))
  ]
  | inr above ↦ (let apart : bit_at bits i ≡ 1 → ⊥ = λ one. let k = set.only i one in omega (arith, k.0) in rw (lt-leb i top (omega arith)) (ne_eqb (bit_at bits i) 1 apart))
]
