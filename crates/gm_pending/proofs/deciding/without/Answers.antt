use Rattle.std.proofs.Common.{◌≡◌, ℕ, ◌<◌, ◌≤◌, ◌==◌, IsTrue, Some, w8, sym, ap, ◌∙◌, subst, inl, inr, arith}
use Rattle.std.proofs.lemmas.Bool.{cases_eq, false≢true}
use Rattle.std.proofs.lemmas.Nat.Bits.{bit_at_clear_same, bit_at_clear_other}
use Rattle.gm_theory.proofs.Lists.{none_some, some_same}
use Rattle.gm_pending.proofs.on_deciding.TwoLabelOrbits.{fewer_bits}
use Rattle.gm_pending.proofs.deciding.without.Goals as goal

pub returns-in-Some-clause-among : goal.returns-in-Some-clause-among
returns-in-Some-clause-among c i h set = elim (cases_eq i c.in-Some.label) [
  | inl same ↦ absurd (false≢true (sym (ap (λ b. b == 1) (bit_at_clear_same w8 c.args.labels.bits c.in-Some.label c.if-label-lt8.true)) ∙ rw same at set))
  | inr apart ↦ subst (λ b. IsTrue (b == 1)) (bit_at_clear_other w8 c.args.labels.bits c.in-Some.label c.if-label-lt8.true i h apart) set
]

pub returns-in-Some-clause-others : goal.returns-in-Some-clause-others
returns-in-Some-clause-others c i h unset = elim (cases_eq i c.in-Some.label) [
  | inl same ↦ inl (c.in-Some.is ∙ ap Some (sym same))
  | inr apart ↦ inr (ap (λ b. b == 1) (sym (bit_at_clear_other w8 c.args.labels.bits c.in-Some.label c.if-label-lt8.true i h apart)) ∙ unset)
]

pub returns-in-Some-clause-gone : goal.returns-in-Some-clause-gone
returns-in-Some-clause-gone c i h is =
    let same : c.in-Some.label ≡ i = some_same c.in-Some.label i (sym c.in-Some.is ∙ is) in
    rw (← same) (ap (λ b. b == 1) (bit_at_clear_same w8 c.args.labels.bits c.in-Some.label c.if-label-lt8.true))

pub returns-in-Some-clause-fewer : goal.returns-in-Some-clause-fewer
returns-in-Some-clause-fewer c i h is set =
    let same : c.in-Some.label ≡ i = some_same c.in-Some.label i (sym c.in-Some.is ∙ is) in
    fewer_bits c.args.labels.bits c.in-Some.label c.if-label-lt8.true (rw (← same) at set)

-- a label that is no label isn't in the set
too_far : (label i : ℕ) → label ≡ i → i < 8 → 8 ≤ label → ⊥
too_far label i same few far = omega arith

pub returns-in_default : goal.returns-in_default
returns-in_default c = record {
  among = λ i h set. set;
  others = λ i h unset. inr unset;
  gone = λ i h is. absurd (too_far c.in-Some.label i (some_same c.in-Some.label i (sym c.in-Some.is ∙ is)) h c.if-label-lt8.false);
  fewer = λ i h is set. absurd (too_far c.in-Some.label i (some_same c.in-Some.label i (sym c.in-Some.is ∙ is)) h c.if-label-lt8.false);
}

pub returns-in_default-2 : goal.returns-in_default-2
returns-in_default-2 c = record {
  among = λ i h set. set;
  others = λ i h unset. inr unset;
  gone = λ i h is. none_some i (sym c.in_default.is ∙ is);
  fewer = λ i h is set. none_some i (sym c.in_default.is ∙ is);
}
