-- The bits that stand for the slots of instances.
use Rattle.std.proofs.Common.{◌≡◌, ◌≢◌, ℕ, ◌+◌, ◌*◌, ◌<◌, ◌≤◌, length, slice_index_or, subst, arith}
use Rattle.std.specs.Int.{bit_at}
use Rattle.std.proofs.lemmas.Nat.Bits.{bit_at_ones}
use Rattle.gm_plan.specs.inner.InArena.{slot_number}
use Rattle.gm_plan.specs.inner.Lookup.{IsWithin}
use Rattle.gm_plan.specs.inner.Placed.{Placed}
use Rattle.gm_pending.specs.inner.AskedOrbits.{AreMatchedSeen}
use Rattle.gm_pending.specs.inner.Marks.{bit_of}

-- those of all slots are those of all instances
pub matched_seen : (placed : Placed) (bits : ℕ) → placed.positions * placed.nodes ≡ length placed.slots
    → ((k : ℕ) → k < length placed.slots → bit_at bits (bit_of ((slice_index_or placed.slots k (record { at = 0 })).at * 2)) ≡ 1) → AreMatchedSeen placed bits
matched_seen placed bits rows each x p (node, position) = each (p * placed.nodes + x) within
  where
    within : p * placed.nodes + x < length placed.slots
    within =
        let more : (p + 1) * placed.nodes ≤ placed.positions * placed.nodes = grind (arith, position) in
        let one : (p + 1) * placed.nodes ≡ p * placed.nodes + placed.nodes = grind arith in
        omega (arith, more, one, rows, node)

-- all bits are among all
pub all_seen : (placed : Placed) → AreMatchedSeen placed 18446744073709551615
all_seen placed x p within = bit_at_ones 64 (bit_of (slot_number placed x p * 2)) (omega arith)

-- where the bit isn't set no instance lies
pub none_matched : (placed : Placed) (bits slot : ℕ) → AreMatchedSeen placed bits → bit_at bits (bit_of (slot * 2)) ≢ 1 → (x p : ℕ) → IsWithin placed x p → slot_number placed x p ≢ slot
none_matched placed bits slot seen unset x p within lies = unset (subst (λ s. bit_at bits (bit_of (s * 2)) ≡ 1) lies (seen x p within))
