-- One more instance by its slot.
use Rattle.std.proofs.Common.{◌≡◌, ◌≢◌, ℕ, ◌+◌, ◌*◌, ◌<◌, ◌⊎◌, Option, Some, None, IsSome, MatchOption, refl, sym, ◌∙◌, ap, subst, inl, inr, arith}
use Rattle.std.specs.HashMap.{Updates, get}
use Rattle.std.specs.Prelude.{nat_eq}
use Rattle.std.proofs.lemmas.Bool.{cases_eq, false≢true}
use Rattle.std.proofs.lemmas.Option.{get_or_from_slice_get}
use Rattle.gm_arena.specs.declared.slot.Slot.{Slot}
use Rattle.gm_model.specs.Orbits.{IsPairBefore}
use Rattle.gm_plan.specs.inner.InArena.{slot_number}
use Rattle.gm_plan.specs.inner.Placed.{Placed, slot_at}
use Rattle.gm_theory.proofs.Lists.{some_same}
use Rattle.gm_plan.specs.inner.Lookup.{BySlot, IsWithin, IsAtSlot, IsLookupUpTo, IsLookup}
use Rattle.gm_plan.proofs.Indices.{other_key}

-- the slot of an instance is the one that was answered
pub slot_answered : (placed : Placed) (x p : ℕ) (slot : Slot) → slot_at placed x p ≡ Some slot → slot_number placed x p ≡ slot.at
slot_answered placed x p slot e = ap (λ (s : Slot). s.at) (get_or_from_slice_get placed.slots (p * placed.nodes + x) slot (record { at = 0 }) e)

module _ (placed : Placed) where
  pub looked_up_more : (old new : BySlot) (x p slot : ℕ) → IsWithin placed x p → slot_number placed x p ≡ slot → Updates nat_eq old new slot (Some (x, p)) → IsLookupUpTo placed old x p → IsLookupUpTo placed new x (p + 1)
  looked_up_more old new x p slot within lies put so_far = record {
    there = λ s i e. there s i e (cases_eq s slot);
    all = λ y q w before. all y q w before (cases_eq (slot_number placed y q) slot);
  }
    where
      there : (s : ℕ) (i : ℕ × ℕ) → get nat_eq new s ≡ Some i → (s ≡ slot) ⊎ (s ≡ slot → ⊥) → IsAtSlot placed s i.0 i.1
      there s i e (inl same) =
          let is : (x, p) ≡ i = some_same (x, p) i (sym put.1 ∙ subst (λ t. get nat_eq new t ≡ Some i) same e) in
          subst (λ (j : ℕ × ℕ). IsAtSlot placed s j.0 j.1) is (within, lies ∙ sym same)
      there s i e (inr apart) = so_far.there s i (sym (other_key old new slot (x, p) put s apart) ∙ e)

      all : (y q : ℕ) → IsWithin placed y q → IsPairBefore y q x (p + 1) → (slot_number placed y q ≡ slot) ⊎ (slot_number placed y q ≡ slot → ⊥) → IsSome (get nat_eq new (slot_number placed y q))
      all y q w before (inl same) = rw (same, put.1) refl
      all y q w before (inr apart) = rw (other_key old new slot (x, p) put (slot_number placed y q) apart) (so_far.all y q w (earlier before))
        where
          earlier : IsPairBefore y q x (p + 1) → IsPairBefore y q x p
          earlier (inl h) = inl h
          earlier (inr h) = inr (h.0, side (cases_eq q p))
            where
              side : (q ≡ p) ⊎ (q ≡ p → ⊥) → q < p
              side (inl e) = absurd (apart (ap (slot_number placed y) e ∙ ap (λ z. slot_number placed z p) h.0 ∙ lies))
              side (inr e) = omega (arith, h.1)

  pub looked_up : (instances : BySlot) (slot : ℕ) → IsLookup placed instances → (o : Option (ℕ × ℕ)) → o ≡ get nat_eq instances slot → MatchOption o ((x p : ℕ) → IsWithin placed x p → slot_number placed x p ≢ slot) (λ i. IsAtSlot placed slot i.0 i.1)
  looked_up instances slot all (Some i) e = all.there slot i (sym e)
  looked_up instances slot all None e = λ x p within lies. no_some (subst (λ s. IsSome (get nat_eq instances s)) lies (all.all x p within (inl within.0)))
    where
      no_some : IsSome (get nat_eq instances slot) → ⊥
      no_some h = false≢true (rw (← e) at h)
