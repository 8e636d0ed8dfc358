-- Where instances lie, read from their slots.
use Rattle.std.proofs.Common.{◌≡◌, ℕ, zero, suc, ◌+◌, ◌*◌, List, [], ◌∷◌, length, slice_get, refl, ap, arith}
use Rattle.std.proofs.lemmas.Nat.{mul-le}
use Rattle.std.specs.Option.{option_map_or}
use Rattle.std.specs.Prelude.{slice_index_or}
use Rattle.gm_model.specs.Matches.{IsMatch}
use Rattle.gm_model.specs.Rules.{Rule, width}
use Rattle.gm_arena.specs.declared.slot.Slot.{Slot}
use Rattle.gm_arena.specs.inner.ArenaAsMap.{as_map}
use Rattle.gm_arena.specs.inner.ArenaMap.{ArenaMap, name_at}
use Rattle.gm_plan.specs.inner.InArena.{placement_in}
use Rattle.gm_plan.specs.inner.Placed.{Placed, slot_at}
use Rattle.gm_plan.specs.inner.Plans.{IsLeftCount}
use Rattle.gm_walk.specs.inner.Walks.{AreLive}
use Rattle.gm_match.specs.inner.Outcome.{IsAnswer, name_of}

same_slot : (slots : List Slot) (k : ℕ) → option_map_or (λ (s : Slot). s.at) (slice_get slots k) 0 ≡ (slice_index_or slots k (record { at = 0 })).at
same_slot [] k = refl
same_slot (s ∷ slots) zero = refl
same_slot (s ∷ slots) (suc k) = same_slot slots k

-- the name of the dart at an instance's slot is that of the dart where the instance lies
pub named_slot : (m : ArenaMap) (found : Placed) (x p : ℕ) → name_of m (slot_at found x p) ≡ (placement_in m found).dart_of x p
named_slot m found x p = ap (name_at m) (same_slot found.slots (p * found.nodes + x))

pub answered : (m : ArenaMap) (rule : Rule) (hooks : List ℕ) (found : Placed) → IsMatch (as_map m) rule hooks (placement_in m found)
    → AreLive m found.slots → found.positions * found.nodes ≡ length found.slots → IsLeftCount rule found.nodes → found.places ≡ width rule → IsAnswer m rule hooks found
answered m rule hooks found is_match live long nodes places = record {
  matched = record {
    nodes = nodes;
    places = places;
    live = λ x p left within. live (p * found.nodes + x) (record { at = 0 }) (let row = mul-le (p + 1) found.nodes found.positions found.nodes (omega (arith, within)) (omega arith) in omega (arith, row, long, left));
    is_match = is_match;
  };
  live = live;
}
