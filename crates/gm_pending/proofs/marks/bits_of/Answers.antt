use Rattle.std.proofs.Common.{◌≡◌, ℕ, ◌*◌, ◌⊎◌, inl, inr, slice_index_or, sym, ◌∙◌, ap, subst, arith}
use Rattle.std.specs.Int.{bit_at}
use Rattle.std.proofs.lemmas.Bool.{cases_eq}
use Rattle.gm_arena.specs.declared.slot.Slot.{Slot}
use Rattle.gm_pending.specs.inner.Marks.{bit_of}
use Rattle.gm_pending.proofs.on_marks.OneMoreMark.{bit_kept, own_bit, with_bit}
use Rattle.gm_pending.proofs.marks.bits_of.Goals as goal

pub loop-slot-preserved : goal.loop-slot-preserved
loop-slot-preserved c k less = rw c.bit.ensures (go (cases_eq k c.loop-slot.slot-index))
  where
    slot : ℕ → Slot
    slot n = slice_index_or c.args.slots.now n (record { at = 0 })

    go : (k ≡ c.loop-slot.slot-index) ⊎ (k ≡ c.loop-slot.slot-index → ⊥) → bit_at (with_bit c.loop-slot.bits (c.from.result * 2)) (bit_of ((slot k).at * 2)) ≡ 1
    go (inl same) =
        let here : c.from.result ≡ (slot k).at = c.from.ensures ∙ ap (λ n. (slot n).at) (sym same) in
        subst (λ n. bit_at (with_bit c.loop-slot.bits (c.from.result * 2)) (bit_of (n * 2)) ≡ 1) here (own_bit c.loop-slot.bits (c.from.result * 2))
    go (inr apart) = bit_kept c.loop-slot.bits (c.from.result * 2) (bit_of ((slot k).at * 2)) (c.loop-slot.invariant k (omega (arith, less, apart)))
